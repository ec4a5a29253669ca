-- `replay::packet::entry_of` meets its contract. Assumes nothing.
use mathlib.Core.Path.{◌≡◌, sym, ap, ◌∙◌}
use Prim.Native.Nat.{◌≤◌}
use native.Mathlib.Omega.{arith}
use lib.ListN.{length}
use Rattle.answer.specs.Answer.{Answer.accepted}
use Rattle.answer.specs.Said.{said}
use Rattle.records.specs.Record.{kind_of}
use Rattle.records.proofs.RecordLaws.{kind-within}
use Rattle.replay.proofs.Entries.{entry-none, entry-data, entry-control, entry_other}
use Rattle.replay.proofs.packet.entry_of.Goals as goal
use Rattle.replay.proofs.packet.entry_of.Goals.{In-Ok}

-- the kind that the code has
module _ (c : In-Ok) where
  known : kind_of c.args.body.now ≡ accepted c.in-Ok.kind
  known = sym c.kind_of.ensures ∙ ap said c.in-Ok.is

  within : 2 ≤ length c.args.body.now
  within = kind-within c.args.body.now c.in-Ok.kind known

pub slice_bounds-data-count : goal.slice_bounds-data-count
slice_bounds-data-count c = omega (arith, within (goal.at.slice_bounds-data-count c).In-Ok)

pub slice_bounds-data-start : goal.slice_bounds-data-start
slice_bounds-data-start c = omega (arith, within (goal.at.slice_bounds-data-start c).In-Ok)

pub slice_bounds-control-count : goal.slice_bounds-control-count
slice_bounds-control-count c = omega (arith, within (goal.at.slice_bounds-control-count c).In-Ok)

pub slice_bounds-control-start : goal.slice_bounds-control-start
slice_bounds-control-start c = omega (arith, within (goal.at.slice_bounds-control-start c).In-Ok)

pub returns-in_default : goal.returns-in_default
returns-in_default c = entry-none c.args.body.now (sym c.kind_of.ensures ∙ ap said c.in_default.is)

pub returns-in-2 : goal.returns-in-2
returns-in-2 c = c.«data».ensures ∙ entry-data c.args.body.now (known (goal.at.returns-in-2 c).In-Ok) c.in-2.is

pub returns-in-4 : goal.returns-in-4
returns-in-4 c = c.control.ensures ∙ entry-control c.args.body.now (known (goal.at.returns-in-4 c).In-Ok) c.in-4.is

pub returns-in_default-kind : goal.returns-in_default-kind
returns-in_default-kind c =
    let own = c.in_default-kind.in_default-kind-own.rest in
    entry_other c.args.body.now (known (goal.at.returns-in_default-kind c).In-Ok) own.0.1 own.1
