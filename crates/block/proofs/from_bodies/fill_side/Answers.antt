-- `block::from_bodies::fill_side` meets its contract: the table is that of A, then that of B. Assumes nothing.
use mathlib.Core.Path.{ap₂, ◌∙◌}
use mathlib.Core.List.{List, ◌++◌}
use Prim.Native.Nat.{ℕ}
use Rattle.block.proofs.Columns.{side-halves}
use Rattle.block.proofs.from_bodies.fill_side.Goals as goal

pub returns : goal.returns
returns c =
    ap₂ (λ (a b : List ℕ). a ++ b) c.fill_channel.ensures c.fill_channel-2.ensures ∙ side-halves c.args.bodies.now
