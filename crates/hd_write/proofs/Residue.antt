-- Writing a packet leaves no residue in the 31 words. Assumes nothing.
use mathlib.Core.List.{List}
use Prim.Native.Nat.{ℕ}
use lib.ListN.{length}
use Rattle.answer.specs.Residue.{NoResidue}
use Rattle.answer.proofs.Residues.{no-residue-in}
use Rattle.hd_packet.specs.declared.Fields.{Fields}
use Rattle.hd_write.specs.Write.{packet_written, write_demands, write_answer, words_written}
use Rattle.hd_write.proofs.WriteLaws.{packet-size}

pub hd-write-leaves-none : (f : Fields) (bodies : List ℕ)
    → NoResidue 31 (λ words. write_answer f bodies (length words)) (words_written f bodies)
unfolding write_answer
hd-write-leaves-none f bodies = no-residue-in (λ new. new) 31 (write_demands f bodies) (packet_written f bodies) (λ room m. packet-size f bodies)
