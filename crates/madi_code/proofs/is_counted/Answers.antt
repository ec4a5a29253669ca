-- `madi_code::is_counted` meets its contract. Assumes nothing.
use mathlib.Core.Path.{◌≡◌}
use mathlib.Core.Logic.{⊎_elim}
use Prim.Native.Nat.{ℕ}
use native.Mathlib.Omega.{arith}
use borrow.Author.Tests.{ne_eqb}
use Rattle.std.proofs.lemmas.Bool.Decides.{nat_tests}
use Rattle.madi_code.specs.Frame.{counted}
use Rattle.madi_code.proofs.is_counted.Goals as goal

pub returns-in-56 : goal.returns-in-56
unfolding counted
returns-in-56 c = let n : ℕ = c.args.channels in ⊎_elim (λ (e : n ≡ 56). rw e) (λ (e : n ≡ 64). rw e) c.in-56.is

pub returns-in_default : goal.returns-in_default
unfolding counted
returns-in_default c =
    rw (ne_eqb c.args.channels 56 (grind (arith, nat_tests)), ne_eqb c.args.channels 64 (grind (arith, nat_tests)))
