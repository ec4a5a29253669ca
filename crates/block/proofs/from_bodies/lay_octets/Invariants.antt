-- `block::from_bodies::lay_octets` meets its contract: the octets laid, with those that are left to lay, are all of them. Assumes
-- nothing.
use mathlib.Core.Path.{◌≡◌}
use Prim.Native.Nat.{◌-◌}
use Rattle.block.specs.Side.{columns}
use Rattle.block.specs.Inner.{laid}
use Rattle.block.proofs.from_bodies.lay_octets.Given as goal

abbrev pub invariant-loop-k : goal.invariant-loop-k
invariant-loop-k l = laid l.k (columns - l.k) l.j l.left l.part ≡ laid 0 columns l.j l.octets l.initial.part
