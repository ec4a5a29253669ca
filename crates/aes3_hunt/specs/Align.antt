-- The block that a hunt found, brought to octets: 3,072 octets of a line's symbols, from a position on. Assumes nothing.
use Rattle.std.specs.Prelude.{ℕ, ◌+◌, ◌*◌, List, [], ◌∷◌, eqb, leb, length}
use Rattle.bits.specs.Window.{part}
use Rattle.bits.specs.Pack.{octets, symbols}
use Rattle.answer.specs.Answer.{Answer, Answer.accepted}
use Rattle.answer.specs.Demand.{Demand, Demand.asks, provided}

-- room for 3,072 octets, and a line of at most 8,192 (1); 24,576 symbols from the position on (2)
abbrev pub align_demands : List ℕ → ℕ → ℕ → List Demand
align_demands line position room =
    asks 1 0 (eqb room 3072)
    ∷ asks 1 0 (leb (length line) 8192)
    ∷ asks 2 0 (leb (position + 24576) (length line * 8))
    ∷ []

-- the symbols from the position on, as octets
unfoldable pub block_from : List ℕ → ℕ → List ℕ
block_from line position = octets 3072 (part (symbols line) position 24576)

unfoldable pub aligned : List ℕ → ℕ → ℕ → Answer (List ℕ)
aligned line position room = provided (align_demands line position room) (accepted (block_from line position))
