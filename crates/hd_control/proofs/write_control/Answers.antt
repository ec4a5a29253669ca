-- `hd_control::write_control` meets its contract, refusal by refusal. Assumes nothing.
use mathlib.Core.Path.{◌≡◌, sym, ap, ◌∙◌}
use mathlib.Core.Bool.{true, not}
use mathlib.Core.List.{List}
use Prim.Native.Nat.{ℕ, ◌+◌}
use borrow.Author.Tests.{eq-eqb, ne_eqb}
use lib.ListN.{length}
use Rattle.answer.specs.Demand.{◌&◌}
use Rattle.answer.specs.Demand.Stops.{fails, later}
use Rattle.answer.proofs.Residues.{shows-refusal, shows-acceptance}
use Rattle.anc.specs.Enclosed.{words_by}
use Rattle.anc.specs.Inner.{laid_out}
use Rattle.anc.proofs.Enclosing.{length-words, laid_out_lem}
use Rattle.hd_control.specs.Control.{rule_of, control_values}
use Rattle.hd_control.specs.Write.{control_in_ranges, write_answer}
use Rattle.hd_control.specs.declared.Control.{Control}
use Rattle.hd_control.proofs.ControlLaws.{ranges, fourteen, packet-size, packet-of}
use Rattle.hd_control.proofs.write_control.Goals as goal
use Rattle.hd_control.proofs.write_control.Goals.{Else-not-in_ranges}

-- after the length and the ranges
module _ (t : Else-not-in_ranges) where
  abbrev fields : Control
  fields = t.args.c

  abbrev old : List ℕ
  old = t.args.words.now

  room : length old ≡ 18
  room = t.if-words-ne18.false

  in-range : control_in_ranges fields ≡ true
  in-range = sym t.in_ranges.ensures ∙ t.if-not-in_ranges.false

pub returns-then-words-ne18 : goal.returns-then-words-ne18
unfolding write_answer
returns-then-words-ne18 c =
    let both = shows-refusal _ _ _ _ (fails (ne_eqb _ 18 c.if-words-ne18.true)) in
    record { result_value = both.0; words_after = both.1 }

pub returns-then-not-in_ranges : goal.returns-then-not-in_ranges
unfolding write_answer
returns-then-not-in_ranges c =
    let both = shows-refusal _ _ _ _
    (later (eq-eqb _ 18 c.if-words-ne18.false) (fails (sym c.in_ranges.ensures ∙ c.if-not-in_ranges.true))) in
    record { result_value = both.0; words_after = both.1 }

pub returns-then-misuses : goal.returns-then-misuses
unfolding write_answer
returns-then-misuses c =
    let t = (goal.at.returns-then-misuses c).Else-not-in_ranges in
    let both = shows-refusal _ _ _ _
    (later (eq-eqb _ 18 (room t)) (later (in-range t) (fails (ap not (sym c.misuses.ensures ∙ c.if-misuses.true))))) in
    record { result_value = both.0; words_after = both.1 }

pub returns-then-is_reserved : goal.returns-then-is_reserved
unfolding write_answer
returns-then-is_reserved c =
    let t = (goal.at.returns-then-is_reserved c).Else-not-in_ranges in
    let both = shows-refusal _ _ _ _
    (later (eq-eqb _ 18 (room t)) (later (in-range t) (later (ap not (sym c.misuses.ensures ∙ c.if-misuses.false))
    (fails (ap not (sym c.is_reserved.ensures ∙ c.if-is_reserved.true)))))) in
    record { result_value = both.0; words_after = both.1 }

pub lay-requires : goal.lay-requires
lay-requires c =
    let t = (goal.at.lay-requires c).Else-not-in_ranges in
    ranges (fields t) (in-range t)

pub returns-else-is_reserved : goal.returns-else-is_reserved
unfolding write_answer
returns-else-is_reserved c =
    let t = (goal.at.returns-else-is_reserved c).Else-not-in_ranges in
    let ws = words_by rule_of 3 (control_values (fields t)) in
    let n : length ws ≡ 14 = length-words rule_of 3 (control_values (fields t)) ∙ fourteen (fields t) in
    let both = shows-acceptance _ _ _ _ _
    (eq-eqb _ 18 (room t) & in-range t & ap not (sym c.misuses.ensures ∙ c.if-misuses.false)
    & ap not (sym c.is_reserved.ensures ∙ c.if-is_reserved.false) & tt)
    (packet-size (fields t) ∙ sym (room t))
    (c.enclose.ensures ∙ ap (λ (w : List ℕ). laid_out w (old t)) c.lay.ensures
    ∙ laid_out_lem ws (old t) (room t ∙ ap (λ (k : ℕ). 4 + k) (sym n)) ∙ packet-of (fields t)) in
    record { result_value = both.0; words_after = both.1 }
