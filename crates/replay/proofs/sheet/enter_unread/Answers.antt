-- `replay::sheet::enter_unread` meets its contract. Assumes nothing.
use mathlib.Core.Path.{refl}
use Rattle.replay.proofs.Changes.{changes-unlisted, changes-refused, shown_of}
use Rattle.replay.proofs.sheet.enter_unread.Goals as goal

pub returns-then-group-eq0 : goal.returns-then-group-eq0
returns-then-group-eq0 c =
    let s = c.args in
    let both = shown_of s.sheet.now (changes-unlisted s.sheet.now refl c.if-group-eq0.true) (c.enter_one.ensures.value, c.enter_one.ensures.sheet_after) in
    record { value = both.0; sheet_after = both.1 }

pub returns : goal.returns
returns c =
    let s = c.args in
    let both = shown_of s.sheet.now (changes-refused s.sheet.now refl c.if-group-eq0.false) (c.enter_refused.ensures.value, c.enter_refused.ensures.sheet_after) in
    record { value = both.0; sheet_after = both.1 }
