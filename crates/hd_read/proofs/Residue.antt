-- Reading a packet leaves no residue in the four bodies. Assumes nothing.
use mathlib.Core.List.{List}
use Prim.Native.Nat.{ℕ}
use lib.ListN.{length, get_or}
use Rattle.answer.specs.Residue.{NoResidue}
use Rattle.answer.proofs.Residues.{no-residue-in}
use Rattle.hd_packet.specs.Packet.{octets_of, group_of_did, fields_in, bodies_in}
use Rattle.hd_packet.proofs.Channels.{four-bodies}
use Rattle.hd_read.specs.Read.{read_demands, read_answer, bodies_read, bodies_after}

pub hd-read-leaves-none : (words : List ℕ) → NoResidue 4 (λ old. read_answer words (length old)) (bodies_after words)
unfolding read_answer
hd-read-leaves-none words =
    no-residue-in bodies_read 4 (read_demands words) (fields_in (group_of_did (get_or words 3 0)) (octets_of words), bodies_in (octets_of words))
    (λ room m. four-bodies (octets_of words))
