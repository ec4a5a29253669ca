-- `records::judge` meets its contract. Assumes nothing.
use mathlib.Core.Path.{◌≡◌, sym, ap, ◌∙◌}
use Prim.Native.Nat.{◌≤◌}
use native.Mathlib.Omega.{arith}
use lib.ListN.{length, drop}
use Rattle.std.proofs.lemmas.Result.{err_from_is_err_and}
use Rattle.answer.specs.Answer.{Answer.accepted}
use Rattle.answer.specs.Said.{said}
use Rattle.records.specs.Record.{kind_of, by_kind}
use Rattle.records.proofs.RecordLaws.{to_the_end, kind-refused, kind-within, kind-known}
use Rattle.records.proofs.judge.Goals as goal
use Rattle.records.proofs.judge.Goals.{In_ok-kind, After-by_kind}

-- the kind that the code has
module _ (c : In_ok-kind) where
  known : kind_of c.args.body.now ≡ accepted c.in_ok-kind.kind
  known = sym c.kind_of.ensures ∙ ap said c.in_ok-kind.was

  within : 2 ≤ length c.args.body.now
  within = kind-within c.args.body.now c.in_ok-kind.kind known

pub slice_bounds-by_kind-count : goal.slice_bounds-by_kind-count
slice_bounds-by_kind-count c = omega (arith, within (goal.at.slice_bounds-by_kind-count c).In_ok-kind)

pub slice_bounds-by_kind-start : goal.slice_bounds-by_kind-start
slice_bounds-by_kind-start c = omega (arith, within (goal.at.slice_bounds-by_kind-start c).In_ok-kind)

pub slice_bounds-by_kind-end : goal.slice_bounds-by_kind-end
slice_bounds-by_kind-end c = omega (arith, within (goal.at.slice_bounds-by_kind-end c).In_ok-kind)

-- what was called with the payload and its kind; no law of the record is asked here, so that its own fault shows
of-payload : (c : After-by_kind) → said c.by_kind.result ≡ by_kind c.in_ok-kind.kind (drop 2 c.args.body.now)
of-payload c = c.by_kind.ensures ∙ ap (by_kind c.in_ok-kind.kind) (to_the_end 2 c.args.body.now)

pub returns : goal.returns
returns c =
    of-payload (goal.at.returns c).After-by_kind
    ∙ sym (kind-known c.args.body.now c.in_ok-kind.kind (known (goal.at.returns c).In_ok-kind))

pub returns-in_err-kind : goal.returns-in_err-kind
returns-in_err-kind c =
    let p = err_from_is_err_and c.from_residual.result c.from_residual.ensures.1 in
    rw (p.1, p.2) (sym (kind-refused c.args.body.now _ _ (sym c.kind_of.ensures ∙ ap said c.in_err-kind.was)))
