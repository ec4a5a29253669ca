-- Writing a block leaves no residue in the 3,072 octets of the line. Assumes nothing.
use mathlib.Core.List.{List}
use Prim.Native.Nat.{ℕ}
use lib.IntN.{ℤ}
use lib.ListN.{length}
use Rattle.answer.specs.Answer.{rewritten}
use Rattle.answer.specs.Residue.{NoResidue}
use Rattle.answer.proofs.Residues.{no-residue-in}
use Rattle.aes3_write.specs.Writer.{block_line, write_demands, write_answer}
use Rattle.aes3_write.proofs.BlockWriting.{length-block}

pub aes3-write-leaves-none : (samples : List ℤ) (side : List ℕ) (level : ℕ)
    → NoResidue 3072 (λ line. write_answer samples side level (length line))
    (λ line. rewritten (write_answer samples side level (length line)) line)
unfolding write_answer
aes3-write-leaves-none samples side level =
    no-residue-in (λ new. new) 3072 (write_demands samples side level) (block_line samples side level) (λ room m. length-block samples side level)
