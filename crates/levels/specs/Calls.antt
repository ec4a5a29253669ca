-- Start, add and join: the demands in their order, and what is then in the sheet. Assumes nothing.
use Rattle.std.specs.Prelude.{◌≡◌, ℕ, ◌+◌, ◌<◌, ◌^◌, Bool, false, List, [], ◌∷◌, eqb, leb, ℤ, nat_abs, length}
use Rattle.answer.specs.Answer.{Answer, Answer.accepted, rewritten}
use Rattle.answer.specs.Demand.{Demand, Demand.asks, Demand.finds_none, provided}
use Rattle.block.specs.Side.{side_length}
use Rattle.block.specs.Check.{outside}
use Rattle.levels.specs.Lines.{line_at, sheet_sound, sheet_joined, empty_sheet}
use Rattle.levels.specs.Sheets.{Block, sheet_of}

-- a channel whose samples are at line k has room for n more
abbrev pub has_room : List ℤ → ℕ → ℕ → Bool
has_room sheet k n = leb (nat_abs (line_at sheet k) + n) (2 ^ 32)

-- ---- start

unfoldable pub start_answer : List ℤ → Answer (List ℤ)
start_answer sheet = provided (asks 1 0 (eqb (length sheet) 20) ∷ []) (accepted empty_sheet)

-- what starting leaves in the sheet
abbrev pub start_left : List ℤ → List ℤ
start_left sheet = rewritten (start_answer sheet) sheet

-- ---- join

abbrev pub join_demands : List ℤ → List ℤ → List Demand
join_demands sheet later =
    asks 1 0 (eqb (length sheet) 20) ∷ asks 1 0 (eqb (length later) 20) ∷ asks 2 0 (sheet_sound sheet) ∷ asks 2 0 (sheet_sound later)
    ∷ asks 22 0 (has_room sheet 0 (nat_abs (line_at later 0))) ∷ asks 22 0 (has_room sheet 10 (nat_abs (line_at later 10))) ∷ []

unfoldable pub join_answer : List ℤ → List ℤ → Answer (List ℤ)
join_answer sheet later = provided (join_demands sheet later) (accepted (sheet_joined sheet later))

abbrev pub join_left : List ℤ → List ℤ → List ℤ
join_left sheet later = rewritten (join_answer sheet later) sheet

-- ---- add

abbrev pub as_block : List ℤ → List ℕ → Block
as_block samples side = record { samples = samples; side = side }

abbrev pub add_demands : List ℤ → Block → List Demand
add_demands sheet b =
    asks 1 0 (eqb (length sheet) 20) ∷ asks 1 0 (eqb (length b.samples) 384) ∷ asks 1 0 (eqb (length b.side) side_length)
    ∷ asks 2 0 (sheet_sound sheet)
    ∷ finds_none 3 (outside b.samples) 0 384 ∷ asks 22 0 (has_room sheet 0 192) ∷ asks 22 0 (has_room sheet 10 192) ∷ []

-- the sheet joined with that of one block more
unfoldable pub add_answer : List ℤ → Block → Answer (List ℤ)
add_answer sheet b = provided (add_demands sheet b) (accepted (sheet_joined sheet (sheet_of (b ∷ []))))

abbrev pub add_left : List ℤ → Block → List ℤ
add_left sheet b = rewritten (add_answer sheet b) sheet

-- ---- blocks added one by one; the first refusal is the answer

unfoldable pub and_then : {A B : Type 0} → Answer A → (A → Answer B) → Answer B
and_then (Answer.accepted v) f = f v
and_then (Answer.refused n p) f = Answer.refused n p

unfoldable pub all_added : List ℤ → List Block → Answer (List ℤ)
all_added sheet [] = accepted sheet
all_added sheet (b ∷ bs) = and_then (add_answer sheet b) (λ next. all_added next bs)

-- no sample of a block is out of range
abbrev pub Fit : List ℤ → Type 0
Fit samples = (i : ℕ) → i < 384 → outside samples i ≡ false
