-- `codes::status_edit` meets its contract: the tests in their order.
-- Assumes nothing.
use mathlib.Core.Path.{◌≡◌, sym, ap, ◌∙◌}
use mathlib.Core.Logic.{◌≢◌}
use mathlib.Core.Bool.{true}
use mathlib.Core.List.{List}
use Prim.Native.Nat.{ℕ}
use borrow.Author.Tests.{eq-eqb, ne_eqb, le-leb, lt-leb}
use lib.ListN.{length, set, length-set}
use Rattle.std.specs.Array.{IsWholeChunk}
use Rattle.std.proofs.lemmas.Option.{MatchOption-at_some, MatchOption-at_none}
use Rattle.std.proofs.lemmas.Result.{err_from_is_err_and}
use Rattle.answer.specs.declared.Refusal.TheVariants.{Length}
use Rattle.answer.specs.Demand.{◌&◌}
use Rattle.answer.specs.Demand.Stops.{fails, later}
use Rattle.answer.proofs.Residues.{shows-refusal, shows-acceptance}
use Rattle.codes.specs.Crcc.{crcc_of, crcc_right}
use Rattle.codes.specs.Edit.{with_byte, edit_answer}
use Rattle.codes.proofs.Exits.{nothing_there, refused_so}
use Rattle.codes.proofs.status_edit.Goals as goal
use Rattle.codes.proofs.status_edit.Goals.{In_ok-status, Else-not-crcc_right}

-- the octets are the 24 of the slice
chunk : (c : In_ok-status) → IsWholeChunk c.args.status.now c.in_ok-status.status.now 24
chunk c =
    MatchOption-at_some (length c.args.status.now ≢ 24) (λ y. IsWholeChunk c.args.status.now y.now 24) c.in_ok-status.status
    c.in_ok-status.ensures.ok_part c.as_mut_array.ensures.cases

pub returns-in_err-status : goal.returns-in_err-status
unfolding edit_answer
returns-in_err-status c =
    let p = err_from_is_err_and c.from_residual.result c.from_residual.ensures.1 in
    let q = nothing_there c.as_mut_array.result Length _ c.in_err-status.ensures.value in
    let n = MatchOption-at_none (length c.args.status.now ≢ 24) (λ y. IsWholeChunk c.args.status.now y.now 24) q c.as_mut_array.ensures.cases in
    let both = shows-refusal _ _ _ _ (fails (ne_eqb _ 24 n)) in
    record {
      result_value = rw (p.1, p.2, refused_so c.as_mut_array.result Length _ c.in_err-status.ensures.value) both.0;
      status_after = both.1;
    }

pub returns-then-byte-gt22 : goal.returns-then-byte-gt22
unfolding edit_answer
returns-then-byte-gt22 c =
    let k = chunk (goal.at.returns-then-byte-gt22 c).In_ok-status in
    let both = shows-refusal _ _ _ _ (later (eq-eqb _ 24 k.long) (fails (lt-leb _ _ c.if-byte-gt22.true))) in
    record { result_value = both.0; status_after = k.same ∙ both.1 }

pub returns-in_err-value : goal.returns-in_err-value
unfolding edit_answer
returns-in_err-value c =
    let k = chunk (goal.at.returns-in_err-value c).In_ok-status in
    let p = err_from_is_err_and c.from_residual-in_err-value.result c.from_residual-in_err-value.ensures.1 in
    let q = c.in_err-value.ensures in
    let both = shows-refusal _ _ _ _ (later (eq-eqb _ 24 k.long) (later (le-leb _ _ c.if-byte-gt22.false) (fails (lt-leb _ _ q.1)))) in
    record { result_value = rw (p.1, p.2, q.0) both.0; status_after = k.same ∙ both.1 }

pub returns-then-not-crcc_right : goal.returns-then-not-crcc_right
unfolding edit_answer
returns-then-not-crcc_right c =
    let k = chunk (goal.at.returns-then-not-crcc_right c).In_ok-status in
    let r = sym (ap crcc_right k.same) ∙ sym c.crcc_right.ensures ∙ c.if-not-crcc_right.true in
    let both = shows-refusal _ _ _ _
    (later (eq-eqb _ 24 k.long) (later (le-leb _ _ c.if-byte-gt22.false) (later (le-leb _ _ c.in_ok-value.ensures.1) (fails r)))) in
    record { result_value = both.0; status_after = k.same ∙ both.1 }

-- the CRCC was right
right : (c : Else-not-crcc_right) → crcc_right c.in_ok-status.status.now ≡ true
right c = sym c.crcc_right.ensures ∙ c.if-not-crcc_right.false

pub put_byte-requires : goal.put_byte-requires
put_byte-requires c = (c.if-byte-gt22.false, right (goal.at.put_byte-requires c).Else-not-crcc_right)

pub returns : goal.returns
unfolding edit_answer with_byte
returns c =
    let k = chunk (goal.at.returns c).In_ok-status in
    let q = (goal.at.returns c).Else-not-crcc_right in
    let status : List ℕ = c.args.status.now in
    let byte = c.args.byte in
    let value = c.args.value in
    let new = set status byte value in
    let both = shows-acceptance _ _ _ _ _
    (eq-eqb _ 24 k.long & le-leb _ _ c.if-byte-gt22.false & le-leb _ _ c.in_ok-value.ensures.1 & (sym (ap crcc_right k.same) ∙ right q) & tt)
    (length-set new 23 (crcc_of new) ∙ length-set status byte value)
    (c.put_byte.ensures ∙ ap (λ (v : ℕ). with_byte c.in_ok-status.status.now byte v) c.in_ok-value.ensures.0 ∙ ap (λ (s : List ℕ). with_byte s byte value) k.same) in
    record { result_value = both.0; status_after = both.1 }
