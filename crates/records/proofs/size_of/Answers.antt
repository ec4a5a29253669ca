-- `records::size_of` meets its contract. Assumes nothing.
use native.Mathlib.Omega.{arith}
use Rattle.records.specs.Head.{size_of}
use Rattle.records.proofs.size_of.Goals as goal

pub returns : goal.returns
unfolding size_of
returns c = omega (arith, c.from_be_bytes.ensures)
