-- `levels::channel::Levels::join` meets its contract, field by field. Assumes nothing.
use native.Mathlib.Omega.{arith}
use Rattle.std.proofs.Common.{rules}
use mir.Syntax.{w64}
use mir.Val.{SFits}
use Rattle.levels.proofs.Levels.{back, sum-fits, sum-back, low-back, high-back}
use Rattle.levels.proofs.channel.Levels.join.Goals as goal

pub overflow_add-result-3 : goal.overflow_add-result-3
overflow_add-result-3 c = rw (back c.args.self.ends (omega arith), back c.args.later.ends (omega arith)) (sum-fits c.args.self.ends c.args.later.ends c.requires.0.2 c.requires.1.2)

pub overflow_add-result-4 : goal.overflow_add-result-4
overflow_add-result-4 c = rw (back c.args.self.v_frames (omega arith), back c.args.later.v_frames (omega arith)) (sum-fits c.args.self.v_frames c.args.later.v_frames c.requires.0.3 c.requires.1.3)

pub overflow_add-result-5 : goal.overflow_add-result-5
overflow_add-result-5 c = rw (back c.args.self.e_frames (omega arith), back c.args.later.e_frames (omega arith)) (sum-fits c.args.self.e_frames c.args.later.e_frames c.requires.0.4 c.requires.1.4)

pub overflow_add-result-6 : goal.overflow_add-result-6
overflow_add-result-6 c = rw (back c.args.self.right (omega arith), back c.args.later.right (omega arith)) (sum-fits c.args.self.right c.args.later.right c.requires.0.5 c.requires.1.5)

pub returns : goal.returns
returns c =
    let x = c.args.self in
    let y = c.args.later in
    let p = c.requires.0 in
    let q = c.requires.1 in
    let xs : SFits w64 x.smallest = search rules in
    let ys : SFits w64 y.smallest = search rules in
    let xl : SFits w64 x.largest = search rules in
    let yl : SFits w64 y.largest = search rules in
    let xm : SFits w64 x.magnitude = search rules in
    let ym : SFits w64 y.magnitude = search rules in
    rw (
      sum-back x.samples y.samples p.0 q.0,
      low-back c.min.result x.smallest y.smallest c.min.type_inv xs.sfits ys.sfits c.min.ensures.value,
      high-back c.max.result x.largest y.largest c.max.type_inv xl.sfits yl.sfits c.max.ensures.value,
      high-back c.max-2.result x.magnitude y.magnitude c.max-2.type_inv xm.sfits ym.sfits c.max-2.ensures.value,
      sum-back x.total y.total p.1 q.1,
      sum-back x.ends y.ends p.2 q.2,
      sum-back x.v_frames y.v_frames p.3 q.3,
      sum-back x.e_frames y.e_frames p.4 q.4,
      sum-back x.right y.right p.5 q.5,
    )
