-- `block::fault_map::sixteen_faults` meets its contract. Assumes nothing.
use Rattle.block.specs.Inner.{faults_of}
use Rattle.block.proofs.fault_map.sixteen_faults.Goals as goal

pub returns : goal.returns
unfolding faults_of
returns c = rw (c.from.ensures, c.from-2.ensures)
