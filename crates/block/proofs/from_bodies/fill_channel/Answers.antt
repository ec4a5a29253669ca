-- `block::from_bodies::fill_channel` meets its contract: after j turns each column has its first j octets. Assumes nothing.
use mathlib.Core.Path.{subst, sym, ◌∙◌}
use Prim.Native.Nat.{◌+◌}
use native.Mathlib.Omega.{arith}
use Rattle.block.specs.Inner.{number_of}
use Rattle.block.proofs.Columns.{Upto, turn, whole}
use Rattle.block.proofs.from_bodies.fill_channel.Goals as goal

pub loop-j-preserved : goal.loop-j-preserved
loop-j-preserved c =
    let laid = c.lay_octets in
    let bodies = c.args.bodies.now in
    let channel = number_of c.args.channel in
    let v = c.loop-j in
    subst (Upto bodies channel (v.j + 1)) (sym laid.ensures)
    (turn bodies channel v.j c.channel_octets.result v.part c.loop-j-test.true (v.auto.part ∙ c.requires) c.channel_octets.ensures v.invariant)

pub returns : goal.returns
returns c =
    let v = c.loop-j in
    whole c.args.bodies.now (number_of c.args.channel) v.part (v.auto.part ∙ c.requires)
    (λ k o hk ho. v.invariant k o hk (omega arith))
