-- `block::from_bodies::fill_channel` meets its contract: after j turns each column has its first j octets. Assumes nothing.
use Rattle.block.specs.Inner.{number_of}
use Rattle.block.proofs.Columns.{Upto}
use Rattle.block.proofs.from_bodies.fill_channel.Given as goal

abbrev pub invariant-loop-j : goal.invariant-loop-j
invariant-loop-j l = Upto l.bodies (number_of l.channel) l.j l.part
