-- `subframe::in_range` meets its contract. Assumes nothing.
use mir.Facts.{to_z-of_z}
use Rattle.subframe.proofs.SignedLaws.{below-range, above-range}
use Rattle.subframe.proofs.in_range.Goals as goal

pub returns-then-sample-ltminus8388608 : goal.returns-then-sample-ltminus8388608
returns-then-sample-ltminus8388608 c = below-range 8388607 c.args.sample (rw (to_z-of_z c.ranges.sample) at c.if-sample-ltminus8388608.true)

pub returns : goal.returns
returns c =
    let e = to_z-of_z c.ranges.sample in
    rw e (above-range 8388607 c.args.sample (rw e at c.if-sample-ltminus8388608.false))
