-- `block::fault_map::is_faulty` meets its contract: its bit of the octet. Assumes nothing.
use Rattle.block.proofs.Faults.{by-octet}
use Rattle.block.proofs.fault_map.is_faulty.Goals as goal

pub returns : goal.returns
returns c = by-octet c.args.side.now c.args.i c.requires
