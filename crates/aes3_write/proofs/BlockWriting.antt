-- The answer of a block's writer: its line fills the buffer, and what it accepts and refuses goes by its demands.
-- Assumes nothing.
use mathlib.Core.Path.{◌≡◌, refl, ap, ◌∙◌}
use mathlib.Core.List.{List}
use Prim.Native.Nat.{ℕ, ◌*◌}
use lib.IntN.{ℤ}
use lib.ListN.{length}
use Rattle.bits.specs.Row.{odd}
use Rattle.answer.specs.Answer.{Answer.accepted}
use Rattle.answer.specs.Demand.{AllMet}
use Rattle.answer.proofs.Chains.{met, passing}
use Rattle.block.specs.Block.{bodies_of}
use Rattle.block.proofs.BlockLaws.{length-bodies}
use Rattle.aes3_line.specs.Line.{line_from}
use Rattle.aes3_line.proofs.LineTrips.{length-line}
use Rattle.aes3_write.specs.Writer.{block_line, write_demands, write_answer}

module _ (samples : List ℤ) (side : List ℕ) (level : ℕ) where
  pub block-line : block_line samples side level ≡ line_from 0 (odd level) (bodies_of samples side)
  unfolding block_line
  block-line = refl

  pub length-block : length (block_line samples side level) ≡ 3072
  length-block = ap length block-line ∙ length-line 0 (odd level) (bodies_of samples side) ∙ ap (λ (n : ℕ). n * 8) (length-bodies samples side)

  -- accepted exactly if every demand is met, and then with this line
  pub write-met : (room : ℕ) (line : List ℕ) → write_answer samples side level room ≡ accepted line
      → AllMet (write_demands samples side level room) × (block_line samples side level ≡ line)
  unfolding write_answer
  write-met room line e = met (block_line samples side level) (write_demands samples side level room) e

  pub write-passing : (room : ℕ) → AllMet (write_demands samples side level room)
      → write_answer samples side level room ≡ accepted (block_line samples side level)
  unfolding write_answer
  write-passing room m = passing (accepted (block_line samples side level)) (write_demands samples side level room) m
