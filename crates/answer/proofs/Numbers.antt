-- The numbers that demands refuse with, and that no other comes back. Assumes nothing.
use mathlib.Core.Path.{◌≡◌}
use mathlib.Core.Bool.{Bool, true, ◌&&◌}
use mathlib.Core.List.{List, [], ◌∷◌}
use Prim.Native.Nat.{ℕ, ◌<◌}
use borrow.Author.Tests.{ltb-true}
use lib.Dec.{ltb}
use Rattle.bits.proofs.Tests.{both_true}
use Rattle.answer.specs.Answer.{Answer.accepted, Answer.refused}
use Rattle.answer.specs.Demand.{Demand, provided, Stops}
use Rattle.answer.specs.Demand.Stops.{fails, found, later}
use Rattle.answer.proofs.Chains.{stops}

abbrev pub number_of : Demand → ℕ
number_of (Demand.asks number place t) = number
number_of (Demand.finds_none number p k n) = number

-- each is below a bound
abbrev pub numbers_below : ℕ → List Demand → Bool
numbers_below bound [] = true
numbers_below bound (d ∷ ds) = ltb (number_of d) bound && numbers_below bound ds

stops-below : (bound : ℕ) {ds : List Demand} {number place : ℕ} → Stops ds number place → numbers_below bound ds ≡ true → number < bound
stops-below bound (fails {number} {place} {t} {ds} f) b =
    ltb-true number bound (both_true (ltb number bound) (numbers_below bound ds) b).0
stops-below bound (found {number} {k} {n} {i} {p} {ds} l m t before) b =
    ltb-true number bound (both_true (ltb number bound) (numbers_below bound ds) b).0
stops-below bound (later {d} {ds} m s) b = stops-below bound s (both_true (ltb (number_of d) bound) (numbers_below bound ds) b).1

-- so is the number of a refusal
pub refused-below : {A : Type 0} (v : A) (ds : List Demand) (bound : ℕ) {number place : ℕ} → provided ds (accepted v) ≡ refused number place
    → numbers_below bound ds ≡ true → number < bound
refused-below v ds bound {number} {place} e b = stops-below bound (stops v ds number place e) b
