-- What reading a block means: 3,072 octets as 384 samples and a side table. Assumes nothing.
use Rattle.std.specs.Prelude.{ℕ, List, [], ◌∷◌, eqb, length, Result}
use Rattle.bits.specs.Row.{digit}
use Rattle.answer.specs.Answer.{Answer, mapped}
use Rattle.answer.specs.Demand.{Demand, Demand.asks, provided}
use Rattle.block.specs.Side.{side_length}
use Rattle.block.specs.Block.{side_of}
use Rattle.block.specs.Check.{status_right}
use Rattle.aes3_line.specs.Line.{bodies_on}
use Rattle.answer.specs.Said.{said}
use Rattle.answer.specs.declared.Refusal.{Refusal}
use Rattle.aes3_read.specs.declared.Crccs.{Crccs}

-- the lengths of line, samples and side table (1), then subframe by subframe 7, 8; on acceptance the bodies, whose
-- samples and side table fill the buffers
abbrev pub read_demands : List ℕ → ℕ → ℕ → List Demand
read_demands line samples side = asks 1 0 (eqb (length line) 3072) ∷ asks 1 0 (eqb samples 384) ∷ asks 1 0 (eqb side side_length) ∷ []

unfoldable pub read_answer : List ℕ → ℕ → ℕ → Answer (List ℕ)
read_answer line samples side = provided (read_demands line samples side) (bodies_on line)

-- what is said of the bodies: for each channel 1 where its CRCC is right, else 0; a wrong one is no refusal
abbrev pub crccs : List ℕ → ℕ × ℕ
crccs bodies = (digit (status_right (side_of bodies) 0), digit (status_right (side_of bodies) 1))

-- what the answer says
abbrev pub block_said : Result Crccs Refusal → Answer (ℕ × ℕ)
block_said r = mapped (λ c. (digit c.a, digit c.b)) (said r)
