-- `replay::sheet::enter_one` meets its contract. Assumes nothing.
use mathlib.Core.Path.{◌∙◌}
use native.Mathlib.Omega.{arith}
use Rattle.replay.proofs.Changes.{no-fit, one-fits, none_left, left_out, made, wrote, wrote_none}
use Rattle.replay.proofs.sheet.enter_one.Goals as goal

pub returns-then-x-gt-MOST : goal.returns-then-x-gt-MOST
returns-then-x-gt-MOST c =
    let both = left_out _ _ (no-fit _ _ _ (omega (arith, c.with_more-x.ensures, c.if-x-gt-MOST.true))) in
    record { value = both.0; sheet_after = both.1 }

pub returns : goal.returns
returns c =
    let both = made _ _ (one-fits _ _ _ (omega (arith, c.with_more-x.ensures, c.if-x-gt-MOST.false)) ∙ none_left) (wrote _ _ _ _ c.put.ensures c.with_more-x.ensures (wrote_none _)) in
    record { value = both.0; sheet_after = both.1 }
