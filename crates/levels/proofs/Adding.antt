-- Adding blocks one by one gives the sheet of the blocks. Assumes nothing.
use mathlib.Core.Path.{◌≡◌, refl, sym, ap, ◌∙◌}
use mathlib.Core.List.{List, [], ◌∷◌, ◌++◌, append_assoc, append-nil}
use borrow.Author.Tests.{eqb-true}
use lib.IntN.{ℤ}
use lib.ListN.{length}
use Rattle.answer.specs.Answer.{Answer, Answer.accepted, Answer.refused}
use Rattle.answer.proofs.Chains.{met, not-both}
use Rattle.levels.specs.Lines.{sheet_joined, empty_sheet}
use Rattle.levels.specs.Sheets.{Block, sheet_of}
use Rattle.levels.specs.Calls.{add_demands, add_answer, and_then, all_added}
use Rattle.levels.proofs.Stretches.{sheet-join, sheet-none}

-- what follows an accepted step
then-parts : {A B : Type 0} (a : Answer A) (f : A → Answer B) (w : B) → and_then a f ≡ accepted w → (v : A) × (a ≡ accepted v) ×
    (f v ≡ accepted w)
unfolding and_then
then-parts (accepted v) f w e = (v, refl, e)
then-parts (refused n p) f w e = not-both e

pub adding : (s : List ℤ) (b : Block) (v : List ℤ) → add_answer s b ≡ accepted v → v ≡ sheet_joined s (sheet_of (b ∷ []))
unfolding add_answer
adding s b v e = sym (met (sheet_joined s (sheet_of (b ∷ []))) (add_demands s b) e).1

-- it was a sheet of 20 lines
pub adding-to : (s : List ℤ) (b : Block) (v : List ℤ) → add_answer s b ≡ accepted v → length s ≡ 20
unfolding add_answer
adding-to s b v e = eqb-true (length s) 20 (met (sheet_joined s (sheet_of (b ∷ []))) (add_demands s b) e).0.0

one-by-one-from : (us vs : List Block) (t : List ℤ) → all_added (sheet_of us) vs ≡ accepted t → t ≡ sheet_of (us ++ vs)
unfolding all_added
one-by-one-from us [] t e = rw append-nil (cc)
one-by-one-from us (b ∷ vs) t e =
    let p = then-parts (add_answer (sheet_of us) b) (λ next. all_added next vs) t e in
    let f : p.0 ≡ sheet_of (us ++ (b ∷ [])) = adding (sheet_of us) b p.0 p.1 ∙ sym (sheet-join us (b ∷ [])) in
    one-by-one-from (us ++ (b ∷ [])) vs t (rw f at p.2) ∙ ap sheet_of (append_assoc us (b ∷ []) vs)

pub one_by_one : (bs : List Block) (t : List ℤ) → all_added empty_sheet bs ≡ accepted t → t ≡ sheet_of bs
one_by_one bs t e = one-by-one-from [] bs t (rw sheet-none e)
