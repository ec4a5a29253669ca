-- Writing a frame leaves no residue in the octets needed, and nothing after them changes. Assumes nothing.
use mathlib.Core.List.{List}
use Prim.Native.Nat.{ℕ}
use lib.ListN.{length}
use Rattle.bits.specs.Row.{odd, big}
use Rattle.bits.proofs.Packing.{length-pack}
use Rattle.answer.specs.Answer.{rewritten}
use Rattle.answer.specs.Residue.{NoResidue}
use Rattle.answer.proofs.Residues.{no-residue-in}
use Rattle.line.specs.Nrzi.{levels}
use Rattle.madi_write.specs.Writer.{frame_row, needed, frame_octets, write_demands, frame_written}

pub madi-write-leaves-none : (channels : ℕ) (words commands : List ℕ) (level : ℕ)
    → NoResidue (needed channels (length commands)) (λ line. frame_written channels words commands level (length line))
    (λ line. rewritten (frame_written channels words commands level (length line)) line)
unfolding frame_written frame_octets
madi-write-leaves-none channels words commands level =
    no-residue-in (λ new. new) (needed channels (length commands)) (write_demands channels words commands level) (frame_octets channels words commands level)
    (λ room m. length-pack big 8 (needed channels (length commands)) (levels (odd level) (frame_row channels words commands)))
