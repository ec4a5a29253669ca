-- `block::one_pass::gather` meets its contract: each pair goes to what was gathered before it. Assumes nothing.
use Rattle.block.specs.Inner.{Gathers}
use Rattle.block.proofs.one_pass.gather.Given as goal

abbrev pub invariant-loop-k : goal.invariant-loop-k
invariant-loop-k l = Gathers l.samples l.k l.sum
