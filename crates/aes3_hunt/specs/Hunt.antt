-- Finding a block start in a line that is not aligned to octets. T symbols; candidates are p from 1 to T - 72; p fits
-- when the eight symbols at p are Z after symbol p - 1 and the eight at p + 64 are Y after symbol p + 63. And how many
-- symbols the search compares: a candidate's cost, and the total. Assumes nothing.
use Rattle.std.specs.Prelude.{◌≡◌, ℕ, zero, suc, ◌+◌, ◌-◌, ◌*◌, ◌≤◌, ◌<◌, Bool, true, false, not, ◌&&◌, List, [], ◌∷◌, ◌++◌, eqb, leb, get_or, length}
use Rattle.std.specs.Bool.{xor}
use Rattle.bits.specs.Pick.{pick, first}
use Rattle.bits.specs.Row.{Row}
use Rattle.bits.specs.Window.{part}
use Rattle.bits.specs.Pack.{symbols}
use Rattle.answer.specs.Answer.{Answer, Answer.accepted, Answer.refused}
use Rattle.answer.specs.Demand.{Demand, Demand.asks, provided}
use Rattle.line.specs.Preamble.{preamble_y, preamble_z, after_level}

-- whether two rows are the same
unfoldable pub same : Row → Row → Bool
same [] [] = true
same [] (c ∷ s) = false
same (b ∷ r) [] = false
same (b ∷ r) (c ∷ s) = not (xor b c) && same r s

-- whether the eight symbols at p are a preamble after symbol p - 1
unfoldable pub opens : Row → ℕ → Row → Bool
opens r p preamble = same (part r p 8) (after_level (get_or r (p - 1) false) preamble)

unfoldable pub fits : Row → ℕ → Bool
fits r p = opens r p preamble_z && opens r (p + 64) preamble_y

-- at most 8,192 octets (1); then the smallest candidate that fits, else 17
abbrev pub hunt_demands : List ℕ → List Demand
hunt_demands line = asks 1 0 (leb (length line) 8192) ∷ []

unfoldable pub hunted : List ℕ → Answer ℕ
hunted line =
    provided (hunt_demands line)
    (first (fits (symbols line)) 1 (length line * 8 - 72) (λ p. accepted p) (refused 17 0))

-- ---- the symbols that are compared

-- the sixteen that stand at a candidate, in line order: eight at p, eight at p + 64
unfoldable pub standing : Row → ℕ → Row
standing r p = part r p 8 ++ part r (p + 64) 8

-- those that are required there: Z after symbol p - 1, Y after symbol p + 63
unfoldable pub required : Row → ℕ → Row
required r p = after_level (get_or r (p - 1) false) preamble_z ++ after_level (get_or r (p + 63) false) preamble_y

-- whether symbol k of the sixteen differs from the one required
unfoldable pub differs : Row → ℕ → ℕ → Bool
differs r p k = xor (get_or (standing r p) k false) (get_or (required r p) k false)

-- a candidate's cost: the number of its sixteen symbols up to and including the first that differs, or 16 if it fits
unfoldable pub cost : Row → ℕ → ℕ
cost r p = first (differs r p) 0 16 (λ k. k + 1) 16

-- the costs of the candidates from 1 to n together
unfoldable pub total : Row → ℕ → ℕ
total r zero = 0
total r (suc n) = total r n + cost r (suc n)

-- the last candidate that an answer takes into account: itself; with 17 the last of all; with 1 none
abbrev pub reached : ℕ → Answer ℕ → ℕ
reached all (Answer.accepted p) = p
reached all (Answer.refused number place) = pick (eqb number 17) all 0

-- the total over the candidates from 1 to the answer, or over all
unfoldable pub compared : List ℕ → ℕ
compared line = total (symbols line) (reached (length line * 8 - 72) (hunted line))

-- the hunt: the answer, found or not, and the number of symbols compared
abbrev pub bounded_hunt : List ℕ → Answer ℕ × ℕ
bounded_hunt line = (hunted line, compared line)

-- ---- what the answer means

-- a candidate that fits
pub record Start (line : List ℕ) (p : ℕ) : Type 0 where
  pub from : 1 ≤ p
  pub to : p + 72 ≤ length line * 8
  pub z : part (symbols line) p 8 ≡ after_level (get_or (symbols line) (p - 1) false) preamble_z
  pub y : part (symbols line) (p + 64) 8 ≡ after_level (get_or (symbols line) (p + 63) false) preamble_y

-- the answers that are right for a line: the smallest start, 17 where there is none, 1 for a line that is too long
pub data Right (line : List ℕ) : Answer ℕ → Type 0 where
  smallest : {p : ℕ} → length line ≤ 8192 → Start line p → ((q : ℕ) → Start line q → p ≤ q) → Right line (accepted p)
  none : length line ≤ 8192 → ((q : ℕ) → Start line q → ⊥) → Right line (refused 17 0)
  too_long : 8192 < length line → Right line (refused 1 0)
