-- `replay::sheet::enter_data` meets its contract. Assumes nothing.
use mathlib.Core.Path.{ap, ◌∙◌}
use native.Mathlib.Omega.{arith}
use Rattle.replay.proofs.Changes.{no-fit, one-fits, none_left, left_out, made, wrote_as}
use Prim.Native.Nat.{ℕ, ◌+◌}
use lib.ListN.{get_or}
use Rattle.replay.proofs.sheet.enter_data.Goals as goal

pub returns-then-x-gt-MOST : goal.returns-then-x-gt-MOST
returns-then-x-gt-MOST c =
    let s = c.args in
    let both = left_out _ _ (no-fit _ _ _ (omega (arith, c.with_more-x.ensures, c.if-x-gt-MOST.true))) in
    record { value = both.0; sheet_after = both.1 }

pub returns-then-y-gt-MOST : goal.returns-then-y-gt-MOST
returns-then-y-gt-MOST c =
    let s = c.args in
    let both = left_out _ _ (one-fits _ _ _ (omega (arith, c.with_more-x.ensures, c.if-x-gt-MOST.false)) ∙ no-fit _ _ _ (omega (arith, c.with_more-y.ensures, c.if-y-gt-MOST.true))) in
    record { value = both.0; sheet_after = both.1 }

pub returns-then-z-gt-MOST : goal.returns-then-z-gt-MOST
returns-then-z-gt-MOST c =
    let s = c.args in
    let both = left_out _ _ (one-fits _ _ _ (omega (arith, c.with_more-x.ensures, c.if-x-gt-MOST.false)) ∙ one-fits _ _ _ (omega (arith, c.with_more-y.ensures, c.if-y-gt-MOST.false))
    ∙ no-fit _ _ _ (omega (arith, (c.with_more-z.ensures ∙ ap (λ (n : ℕ). get_or s.sheet.now (s.start + 22) 0 + n) c.break_of-broken.ensures.value), c.if-z-gt-MOST.true))) in
    record { value = both.0; sheet_after = both.1 }

pub returns : goal.returns
returns c =
    let s = c.args in
    let breaks = c.with_more-z.ensures ∙ ap (λ (n : ℕ). get_or s.sheet.now (s.start + 22) 0 + n) c.break_of-broken.ensures.value in
    let both = made _ _
    (one-fits _ _ _ (omega (arith, c.with_more-x.ensures, c.if-x-gt-MOST.false)) ∙ one-fits _ _ _ (omega (arith, c.with_more-y.ensures, c.if-y-gt-MOST.false))
    ∙ one-fits _ _ _ (omega (arith, breaks, c.if-z-gt-MOST.false)) ∙ one-fits _ _ _ (omega arith)
    ∙ one-fits _ _ _ (omega (arith, c.requires.1)) ∙ none_left)
    (wrote_as s.start s.dbn s.sheet.now c.with_more-x.ensures c.with_more-y.ensures breaks c.put_data.ensures) in
    record { value = both.0; sheet_after = both.1 }
