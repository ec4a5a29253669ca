-- `line::biphase_coding` meets its contract. Assumes nothing.
use mathlib.Core.Path.{ap₂}
use mathlib.Core.List.{List}
use Prim.Native.Nat.{ℕ}
use lib.ListN.{get_or}
use Rattle.line.proofs.BiphaseConstants.{constants-right}
use Rattle.line.proofs.biphase_coding.Goals as goal

pub returns : goal.returns
returns c = ap₂ (λ (t : List ℕ) (o : ℕ). get_or t o 0) constants-right c.from.ensures
