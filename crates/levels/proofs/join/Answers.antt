-- `levels::join` meets its contract, demand by demand. Assumes nothing.
use mathlib.Core.Path.{◌≡◌, sym, ap, ap₂, ◌∙◌}
use mathlib.Core.Bool.{true}
use mathlib.Core.List.{List}
use borrow.Author.Tests.{eq-eqb, ne_eqb}
use lib.IntN.{ℤ}
use Rattle.std.proofs.lemmas.Result.{err_from_is_err_and}
use Rattle.bits.proofs.Tests.{both_true}
use Rattle.answer.specs.Demand.{◌&◌}
use Rattle.answer.specs.Demand.Stops.{fails, later}
use Rattle.answer.proofs.Residues.{shows-refusal, shows-acceptance}
use Rattle.levels.specs.Lines.{sheet_sound, sheet_joined}
use Rattle.levels.specs.Calls.{join_answer}
use Rattle.levels.specs.Inner.{sheet_lines, rooms}
use Rattle.levels.proofs.AtOnce.{one_of_two}
use Rattle.levels.proofs.Places.{length-joined}
use Rattle.levels.proofs.join.Goals as goal
use Rattle.levels.proofs.join.Goals.{In_ok-second}

-- both sheets are read
module _ (c : In_ok-second) where
  first-is : sheet_lines c.in_ok-first.first ≡ c.args.sheet.now
  first-is = c.in_ok-first.ensures.1 ∙ c.in_ok-a.ensures.1

  second-is : sheet_lines c.in_ok-second.second ≡ c.args.later.now
  second-is = c.in_ok-second.ensures.1 ∙ c.in_ok-later_a.ensures.1

  first-sound : sheet_sound c.args.sheet.now ≡ true
  first-sound = ap sheet_sound (sym c.in_ok-a.ensures.1) ∙ c.in_ok-first.ensures.0

  second-sound : sheet_sound c.args.later.now ≡ true
  second-sound = ap sheet_sound (sym c.in_ok-later_a.ensures.1) ∙ c.in_ok-second.ensures.0

  rooms-are : rooms (sheet_lines c.in_ok-first.first) (sheet_lines c.in_ok-second.second) ≡ rooms c.args.sheet.now c.args.later.now
  rooms-are = ap₂ (λ (a b : List ℤ). rooms a b) first-is second-is

pub returns-in_err-a : goal.returns-in_err-a
unfolding join_answer
returns-in_err-a c =
    let p = err_from_is_err_and c.from_residual.result c.from_residual.ensures.1 in
    let h = c.in_err-a.ensures in
    let both = shows-refusal _ _ _ _ (fails (ne_eqb _ 20 h.1)) in
    record { result_value = rw (p.1, p.2, h.0) both.0; sheet_after = both.1 }

pub returns-in_err-later_a : goal.returns-in_err-later_a
unfolding join_answer
returns-in_err-later_a c =
    let p = err_from_is_err_and c.from_residual-in_err-later_a.result c.from_residual-in_err-later_a.ensures.1 in
    let h = c.in_err-later_a.ensures in
    let both = shows-refusal _ _ _ _ (later (eq-eqb _ 20 c.in_ok-a.ensures.0) (fails (ne_eqb _ 20 h.1))) in
    record { result_value = rw (p.1, p.2, h.0) both.0; sheet_after = both.1 }

pub returns-in_err-first : goal.returns-in_err-first
unfolding join_answer
returns-in_err-first c =
    let p = err_from_is_err_and c.from_residual-in_err-first.result c.from_residual-in_err-first.ensures.1 in
    let h = c.in_err-first.ensures in
    let both = shows-refusal _ _ _ _
    (later (eq-eqb _ 20 c.in_ok-a.ensures.0) (later (eq-eqb _ 20 c.in_ok-later_a.ensures.0)
    (fails (ap sheet_sound (sym c.in_ok-a.ensures.1) ∙ h.1)))) in
    record { result_value = rw (p.1, p.2, h.0) both.0; sheet_after = both.1 }

pub returns-in_err-second : goal.returns-in_err-second
unfolding join_answer
returns-in_err-second c =
    let p = err_from_is_err_and c.from_residual-in_err-second.result c.from_residual-in_err-second.ensures.1 in
    let h = c.in_err-second.ensures in
    let both = shows-refusal _ _ _ _
    (later (eq-eqb _ 20 c.in_ok-a.ensures.0) (later (eq-eqb _ 20 c.in_ok-later_a.ensures.0)
    (later (ap sheet_sound (sym c.in_ok-a.ensures.1) ∙ c.in_ok-first.ensures.0)
    (fails (ap sheet_sound (sym c.in_ok-later_a.ensures.1) ∙ h.1))))) in
    record { result_value = rw (p.1, p.2, h.0) both.0; sheet_after = both.1 }

pub returns-in_err-joined : goal.returns-in_err-joined
unfolding join_answer
returns-in_err-joined c =
    let s = (goal.at.returns-in_err-joined c).In_ok-second in
    let p = err_from_is_err_and c.from_residual-in_err-joined.result c.from_residual-in_err-joined.ensures.1 in
    let h = c.in_err-joined.ensures in
    let both = shows-refusal _ _ _ _
    (later (eq-eqb _ 20 c.in_ok-a.ensures.0) (later (eq-eqb _ 20 c.in_ok-later_a.ensures.0)
    (later (first-sound s) (later (second-sound s) (one_of_two _ _ (sym (rooms-are s) ∙ h.1)))))) in
    record { result_value = rw (p.1, p.2, h.0) both.0; sheet_after = both.1 }

pub returns : goal.returns
unfolding join_answer
returns c =
    let s = (goal.at.returns c).In_ok-second in
    let h = c.in_ok-joined.ensures in
    let r = both_true _ _ (sym (rooms-are s) ∙ h.0) in
    let both = shows-acceptance _ _ _ _ _
    (eq-eqb _ 20 c.in_ok-a.ensures.0 & eq-eqb _ 20 c.in_ok-later_a.ensures.0 & first-sound s & second-sound s & r.0 & r.1 & tt)
    (length-joined c.args.sheet.now c.args.later.now ∙ sym c.in_ok-a.ensures.0)
    (c.write.ensures ∙ h.1 ∙ ap₂ (λ (a b : List ℤ). sheet_joined a b) (first-is s) (second-is s)) in
    record { result_value = both.0; sheet_after = both.1 }
