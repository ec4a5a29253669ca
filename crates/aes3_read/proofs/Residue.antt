-- Reading a block leaves no residue, neither in the 384 samples nor in the 192 octets of the side table. Assumes nothing.
use mathlib.Core.List.{List}
use Prim.Native.Nat.{ℕ}
use lib.ListN.{length}
use Rattle.answer.specs.Answer.{after}
use Rattle.answer.specs.Residue.{NoResidue}
use Rattle.answer.proofs.Residues.{no-residue}
use Rattle.block.specs.Block.{samples_of, side_of}
use Rattle.block.proofs.BlockLaws.{length-samples, length-side}
use Rattle.aes3_read.specs.Reader.{read_answer}

-- of each buffer, whatever the length of the other
module _ (line : List ℕ) (other : ℕ) where
  pub aes3-read-leaves-none-in-samples : NoResidue 384 (λ samples. read_answer line (length samples) other)
      (λ samples. after samples_of (read_answer line (length samples) other) samples)
  aes3-read-leaves-none-in-samples = no-residue samples_of 384 (λ n. read_answer line n other) (λ room v e. length-samples v)

  pub aes3-read-leaves-none-in-side : NoResidue 192 (λ side. read_answer line other (length side))
      (λ side. after side_of (read_answer line other (length side)) side)
  aes3-read-leaves-none-in-side = no-residue side_of 192 (λ n. read_answer line other n) (λ room v e. length-side v)
