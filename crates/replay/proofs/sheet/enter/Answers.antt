-- `replay::sheet::enter` meets its contract. Assumes nothing.
use mathlib.Core.Path.{sym, ap}
use mathlib.Core.List.{[]}
use native.Mathlib.Omega.{arith}
use Rattle.replay.proofs.Changes.{none_left, made, wrote_none, proper-as, changes-none, changes-data, changes-control, shown_of}
use Rattle.replay.specs.Sheet.{entry_changes}
use Rattle.replay.specs.declared.Entry.{Entry}
use Rattle.replay.proofs.sheet.enter.Goals as goal

pub overflow_sub-group : goal.overflow_sub-group
overflow_sub-group c =
    let p = proper-as c.in-Data.is c.requires in
    omega (arith, p.0)

pub enter_data-requires : goal.enter_data-requires
enter_data-requires c =
    let p = proper-as c.in-Data.is c.requires in
    (omega (arith, p.0, p.1), p.2)

pub overflow_sub-group-in-Control : goal.overflow_sub-group-in-Control
overflow_sub-group-in-Control c =
    let p = proper-as c.in-Control.is c.requires in
    omega (arith, p.0)

pub enter_one-requires : goal.enter_one-requires
enter_one-requires c =
    let p = proper-as c.in-Control.is c.requires in
    omega (arith, p.0, p.1)

pub enter_unread-requires : goal.enter_unread-requires
enter_unread-requires c =
    let p = proper-as c.in-Refused.is c.requires in
    (p.0, p.1)

pub returns-in-Passed : goal.returns-in-Passed
returns-in-Passed c =
    let s = c.args in
    let both = shown_of s.sheet.now (changes-none s.sheet.now c.in-Passed.is) (made [] s.sheet.now none_left (wrote_none s.sheet.now)) in
    record { value = both.0; sheet_after = both.1 }

pub returns-in-Data : goal.returns-in-Data
returns-in-Data c =
    let s = c.args in
    let both = shown_of s.sheet.now (changes-data s.sheet.now c.in-Data.is) (c.enter_data.ensures.value, c.enter_data.ensures.sheet_after) in
    record { value = both.0; sheet_after = both.1 }

pub returns-in-Control : goal.returns-in-Control
returns-in-Control c =
    let s = c.args in
    let both = shown_of s.sheet.now (changes-control s.sheet.now c.in-Control.is) (c.enter_one.ensures.value, c.enter_one.ensures.sheet_after) in
    record { value = both.0; sheet_after = both.1 }

pub returns-in-Refused : goal.returns-in-Refused
returns-in-Refused c =
    let s = c.args in
    let both = shown_of s.sheet.now (ap (λ (e : Entry). entry_changes e s.sheet.now) (sym c.in-Refused.is)) (c.enter_unread.ensures.value, c.enter_unread.ensures.sheet_after) in
    record { value = both.0; sheet_after = both.1 }
