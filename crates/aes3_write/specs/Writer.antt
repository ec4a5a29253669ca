-- What writing a block means: 384 samples and a side table after a level, as 3,072 octets. Assumes nothing.
use Rattle.std.specs.Prelude.{ℕ, List, ◌∷◌, eqb, ltb, ℤ, length}
use Rattle.bits.specs.Row.{odd}
use Rattle.answer.specs.Answer.{Answer, Answer.accepted}
use Rattle.answer.specs.Demand.{Demand, Demand.asks, provided}
use Rattle.block.specs.Side.{side_length}
use Rattle.block.specs.Block.{bodies_of}
use Rattle.block.specs.Check.{block_demands}
use Rattle.aes3_line.specs.Line.{line_from}

-- the octets of a block after a level
unfoldable pub block_line : List ℤ → List ℕ → ℕ → List ℕ
block_line samples side level = line_from 0 (odd level) (bodies_of samples side)

-- the lengths of samples, side table and line (1), the level (2), then what is checked of a block: 20, 3, 4, 5, 6, 18
abbrev pub write_demands : List ℤ → List ℕ → ℕ → ℕ → List Demand
write_demands samples side level line =
    asks 1 0 (eqb (length samples) 384)
    ∷ asks 1 0 (eqb (length side) side_length)
    ∷ asks 1 0 (eqb line 3072)
    ∷ asks 2 0 (ltb level 2)
    ∷ block_demands samples side

unfoldable pub write_answer : List ℤ → List ℕ → ℕ → ℕ → Answer (List ℕ)
write_answer samples side level line = provided (write_demands samples side level line) (accepted (block_line samples side level))
