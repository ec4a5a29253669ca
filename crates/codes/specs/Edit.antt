-- One byte of a status block edited, of bytes 0 to 22, and byte 23 after it. Assumes nothing.
use Rattle.std.specs.Prelude.{ℕ, List, [], ◌∷◌, eqb, leb, length, set}
use Rattle.answer.specs.Answer.{Answer, Answer.accepted, rewritten}
use Rattle.answer.specs.Demand.{Demand, Demand.asks, provided}
use Rattle.codes.specs.Crcc.{crcc_of, crcc_right}

-- 24 octets (1); byte 0 to 22, and an octet for it (2); a right CRCC first (5)
abbrev pub edit_demands : List ℕ → ℕ → ℕ → List Demand
edit_demands status byte value =
    asks 1 0 (eqb (length status) 24) ∷ asks 2 0 (leb byte 22) ∷ asks 2 0 (leb value 255) ∷ asks 5 0 (crcc_right status) ∷ []

-- the block with that byte, and its CRCC in byte 23
unfoldable pub with_byte : List ℕ → ℕ → ℕ → List ℕ
with_byte status byte value = set (set status byte value) 23 (crcc_of (set status byte value))

unfoldable pub edit_answer : List ℕ → ℕ → ℕ → Answer (List ℕ)
edit_answer status byte value = provided (edit_demands status byte value) (accepted (with_byte status byte value))

-- the octets afterwards: on a refusal what stood there
abbrev pub edited : List ℕ → ℕ → ℕ → List ℕ
edited status byte value = rewritten (edit_answer status byte value) status
