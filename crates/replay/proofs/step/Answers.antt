-- `replay::step` meets its contract. Assumes nothing.
use mathlib.Core.Path.{refl, sym}
use Rattle.replay.specs.declared.Next.TheVariants.{End, Long, Cut}
use Rattle.replay.proofs.Entries.{entry-proper}
use Rattle.replay.proofs.Changes.{proper-as}
use Rattle.replay.proofs.Steps.{stands, counts, fills}
use Rattle.replay.proofs.step.Goals as goal

pub enter-requires : goal.enter-requires
enter-requires c = proper-as (sym c.entry_of.ensures) (entry-proper _)

pub returns-then-enter : goal.returns-then-enter
returns-then-enter c =
    let both = counts _ _ _ c.turn_after.ensures c.in-Record.is c.entry_of.ensures (c.enter.ensures.value, c.enter.ensures.sheet_after) c.if-enter.true in
    record { value = both.0; sheet_after = both.1 }

pub returns-in-End : goal.returns-in-End
returns-in-End c =
    let both = stands _ _ _ c.turn_after.ensures c.in-End.is End refl refl in
    record { value = both.0; sheet_after = both.1 }

pub returns-in-Cut : goal.returns-in-Cut
returns-in-Cut c =
    let both = stands _ _ _ c.turn_after.ensures c.in-Cut.is Cut refl refl in
    record { value = both.0; sheet_after = both.1 }

pub returns-in-Long : goal.returns-in-Long
returns-in-Long c =
    let both = stands _ _ _ c.turn_after.ensures c.in-Long.is Long refl refl in
    record { value = both.0; sheet_after = both.1 }

pub returns-else-enter : goal.returns-else-enter
returns-else-enter c =
    let both = fills _ _ _ c.turn_after.ensures c.in-Record.is c.entry_of.ensures (c.enter.ensures.value, c.enter.ensures.sheet_after) c.if-enter.false in
    record { value = both.0; sheet_after = both.1 }
