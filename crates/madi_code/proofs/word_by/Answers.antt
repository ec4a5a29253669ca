-- `madi_code::word_by` meets its contract: two halves, and their word where their sum shows data groups only. Assumes
-- nothing.
use borrow.Author.Tests.{lt-ltb, le-ltb}
use Prim.Native.Nat.{ℕ, ◌≤◌, ◌<◌}
use mathlib.Core.Path.{◌≡◌}
use Rattle.std.specs.Prelude.{◌^◌, Ok, Err}
use Rattle.madi_code.specs.Frame.{parted}
use Rattle.madi_code.specs.Inner.{eight_sum, eight_fours, word_by_table}
use Rattle.madi_code.proofs.word_by.Goals as goal
use Rattle.madi_code.proofs.word_by.Goals.{then-early-late-lt128, else-early-late-lt128}

on_ok : (k n : ℕ) → k ≡ n → k < 2 ^ 32 → Ok k ≡ parted (2 ^ 32) n
on_ok k n e h = rw (← e, lt-ltb k _ h)

on_err : (k n : ℕ) → k ≡ n → 2 ^ 32 ≤ k → Err k ≡ parted (2 ^ 32) n
on_err k n e h = rw (← e, le-ltb k _ h)

pub returns-then-number-lt4294967296 : goal.returns-then-number-lt4294967296
unfolding word_by_table eight_sum eight_fours
returns-then-number-lt4294967296 c =
    let early = c.four_meanings-early.ensures in
    let late = c.four_meanings-late.ensures in
    on_ok _ _
    (rw (← early.0, ← late.0, ← early.2, ← late.2)
    (elim c.if-early-late-lt128.branch [
      | then-early-late-lt128 w ↦ rw (lt-ltb _ 128 w.if-early-late-lt128.true) w.number-is
      | else-early-late-lt128 w ↦ rw (le-ltb _ 128 w.if-early-late-lt128.false) w.number-is
    ]))
    c.if-number-lt4294967296.true

pub returns-else-number-lt4294967296 : goal.returns-else-number-lt4294967296
unfolding word_by_table eight_sum eight_fours
returns-else-number-lt4294967296 c =
    let early = c.four_meanings-early.ensures in
    let late = c.four_meanings-late.ensures in
    on_err _ _
    (rw (← early.0, ← late.0, ← early.2, ← late.2)
    (elim c.if-early-late-lt128.branch [
      | then-early-late-lt128 w ↦ rw (lt-ltb _ 128 w.if-early-late-lt128.true) w.number-is
      | else-early-late-lt128 w ↦ rw (le-ltb _ 128 w.if-early-late-lt128.false) w.number-is
    ]))
    c.if-number-lt4294967296.false
