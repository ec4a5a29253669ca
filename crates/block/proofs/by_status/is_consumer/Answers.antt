-- `block::by_status::is_consumer` meets its contract. Assumes nothing.
use native.Mathlib.Nat.{div-one}
use Rattle.block.specs.Check.{consumer}
use Rattle.block.proofs.by_status.is_consumer.Goals as goal

pub returns : goal.returns
unfolding consumer
returns c = simp (c.status_byte.ensures, div-one)
