-- Where 22 is given, of sheets that are accepted; and what the calls leave: a definition of their inputs, or all as it
-- was. Assumes nothing.
use mathlib.Core.Path.{◌≡◌, refl, sym, ap, ◌∙◌}
use mathlib.Core.Bool.{Bool, true, false, ◌&&◌}
use mathlib.Core.List.{List, [], ◌∷◌}
use native.Mathlib.Omega.{arith}
use borrow.Author.Tests.{eq-eqb}
use lib.Dec.{eqb}
use lib.IntN.{ℤ, pos, nat_abs}
use lib.ListN.{length}
use Rattle.bits.specs.Pick.{pick}
use Rattle.answer.specs.Answer.{Answer.accepted, Answer.refused}
use Rattle.answer.specs.Demand.{Demand.asks, Demand.finds_none, provided, ◌&◌}
use Rattle.answer.specs.Demand.Stops.{fails, later}
use Rattle.answer.specs.Residue.{NoResidue, InPlace}
use Rattle.answer.proofs.Chains.{passing, stopped, passes_on}
use Rattle.answer.proofs.Residues.{no-residue-in, in_place}
use Rattle.block.specs.Side.{side_length}
use Rattle.block.specs.Check.{outside}
use Rattle.levels.specs.Lines.{line_at, sheet_sound, sheet_joined, empty_sheet}
use Rattle.levels.specs.Sheets.{Block, sheet_of}
use Rattle.levels.specs.Calls.{has_room, start_answer, start_left, join_answer, join_left, add_answer, add_left}
use Rattle.levels.proofs.Accepting.{FitBlock}
use Rattle.levels.proofs.Joining.{joining}
use Rattle.levels.proofs.Adding.{adding, adding-to}
use Rattle.levels.proofs.Places.{length-joined, length-empty}

rooms : (v : List ℤ) (r t : Bool) → provided (asks 22 0 r ∷ asks 22 0 t ∷ []) (accepted v) ≡ pick (r && t) (accepted v) (refused 22 0)
rooms v true true = passing (accepted v) (asks 22 0 true ∷ asks 22 0 true ∷ []) (refl & refl & tt)
rooms v true false = stopped (accepted v) (later refl (fails refl))
rooms v false t = stopped (accepted v) (fails refl)

-- ---- 22 exactly where a channel would pass 2 ^ 32 samples

module _ (a b : List ℤ) (la : length a ≡ 20) (lb : length b ≡ 20) (sa : sheet_sound a ≡ true) (sb : sheet_sound b ≡ true) where
  pub join-limit : join_answer a b
      ≡ pick (has_room a 0 (nat_abs (line_at b 0)) && has_room a 10 (nat_abs (line_at b 10))) (accepted (sheet_joined a b)) (refused 22 0)
  unfolding join_answer
  join-limit =
      passes_on (accepted (sheet_joined a b))
      (asks 1 0 (eqb (length a) 20) ∷ asks 1 0 (eqb (length b) 20) ∷ asks 2 0 (sheet_sound a) ∷ asks 2 0 (sheet_sound b) ∷ [])
      (asks 22 0 (has_room a 0 (nat_abs (line_at b 0))) ∷ asks 22 0 (has_room a 10 (nat_abs (line_at b 10))) ∷ [])
      (eq-eqb _ 20 la & eq-eqb _ 20 lb & sa & sb & tt)
      ∙ rooms (sheet_joined a b) (has_room a 0 (nat_abs (line_at b 0))) (has_room a 10 (nat_abs (line_at b 10)))

module _ (a : List ℤ) (b : Block) (la : length a ≡ 20) (sa : sheet_sound a ≡ true) (f : FitBlock b) where
  pub add-limit : add_answer a b
      ≡ pick (has_room a 0 192 && has_room a 10 192) (accepted (sheet_joined a (sheet_of (b ∷ [])))) (refused 22 0)
  unfolding add_answer
  add-limit =
      passes_on (accepted (sheet_joined a (sheet_of (b ∷ []))))
      (asks 1 0 (eqb (length a) 20) ∷ asks 1 0 (eqb (length b.samples) 384) ∷ asks 1 0 (eqb (length b.side) side_length)
      ∷ asks 2 0 (sheet_sound a) ∷ finds_none 3 (outside b.samples) 0 384 ∷ [])
      (asks 22 0 (has_room a 0 192) ∷ asks 22 0 (has_room a 10 192) ∷ [])
      (eq-eqb _ 20 la & eq-eqb _ 384 f.samples-long & eq-eqb _ side_length f.side-long & sa & (λ i l m. f.fit i (omega arith)) & tt)
      ∙ rooms (sheet_joined a (sheet_of (b ∷ []))) (has_room a 0 192) (has_room a 10 192)

-- ---- no residue

-- starting: any two prior contents give the same sheet of 20 numbers, and a refusal leaves all
pub start-leaves-none : NoResidue 20 start_answer start_left
unfolding start_answer
start-leaves-none = no-residue-in (λ v. v) 20 (λ n. asks 1 0 (eqb n 20) ∷ []) empty_sheet (λ room m. length-empty)

-- adding and joining: the sheet is input and output; on acceptance all of its 20 numbers are those of the two sheets
-- joined, and on a refusal all stay
pub join-leaves : (second : List ℤ)
    → InPlace (pos 0) (λ sheet k. true) (λ sheet k. line_at (sheet_joined sheet second) k) (λ sheet. join_answer sheet second) (λ sheet. join_left sheet second)
join-leaves second =
    in_place (λ v. v) (pos 0) (λ sheet k. true) (λ sheet k. line_at (sheet_joined sheet second) k) (λ sheet. join_answer sheet second)
    (λ a v e. let p = joining a second v e in ap length p.4 ∙ length-joined a second ∙ sym p.0)
    (λ a v e k h. ap (λ l. line_at l k) (joining a second v e).4)

pub add-leaves : (b : Block)
    → InPlace (pos 0) (λ sheet k. true) (λ sheet k. line_at (sheet_joined sheet (sheet_of (b ∷ []))) k) (λ sheet. add_answer sheet b) (λ sheet. add_left sheet b)
add-leaves b =
    in_place (λ v. v) (pos 0) (λ sheet k. true) (λ sheet k. line_at (sheet_joined sheet (sheet_of (b ∷ []))) k) (λ sheet. add_answer sheet b)
    (λ a v e. ap length (adding a b v e) ∙ length-joined a (sheet_of (b ∷ [])) ∙ sym (adding-to a b v e))
    (λ a v e k h. ap (λ l. line_at l k) (adding a b v e))
