-- Demands with one refusal that the code asks at once, and what a search found of one. Assumes nothing.
use mathlib.Core.Path.{◌≡◌, refl}
use mathlib.Core.Bool.{Bool, true, false, ◌&&◌}
use mathlib.Core.List.{List, ◌∷◌}
use Prim.Native.Nat.{ℕ, ◌+◌, ◌≤◌, ◌<◌}
use native.Mathlib.Omega.{arith}
use Rattle.std.specs.Prelude.{Option, Some, None}
use Rattle.bits.specs.Pick.{first}
use Rattle.answer.proofs.Chains.{search-cases}
use Rattle.answer.specs.Demand.{Demand, Demand.asks, Demand.finds_none, Stops}
use Rattle.answer.specs.Demand.Stops.{fails, found, later}

pub one_of_two : {number place : ℕ} {ds : List Demand} (a b : Bool) → (a && b) ≡ false
    → Stops (asks number place a ∷ asks number place b ∷ ds) number place
one_of_two true b e = later refl (fails e)
one_of_two false b e = fails refl

-- ---- what a search found

module _ (p : ℕ → Bool) (n : ℕ) where
  pub all-passed : None ≡ first p 0 n (λ i. Some i) None → (i : ℕ) → 0 ≤ i → i < 0 + n → p i ≡ false
  all-passed e =
      search-cases p (λ i. Some i) None 0 n (λ (o : Option ℕ). None ≡ o → (i : ℕ) → 0 ≤ i → i < 0 + n → p i ≡ false)
      (λ i l m t before q. absurd (clash i q)) (λ none q. none) e
    where
      clash : (i : ℕ) → None ≡ Some i → ⊥
      clash i q = cc

  module _ (r : ℕ) (e : Some r ≡ first p 0 n (λ i. Some i) None) where
    clash : Some r ≡ None → ⊥
    clash q = cc

    same : (i : ℕ) → Some r ≡ Some i → i ≡ r
    same i q = cc

    pub found-below : r < n
    found-below =
        search-cases p (λ i. Some i) None 0 n (λ (o : Option ℕ). Some r ≡ o → r < n)
        (λ i l m t before q. let h = same i q in omega arith) (λ none q. absurd (clash q)) e

    pub found-at : {number : ℕ} {ds : List Demand} → Stops (finds_none number p 0 n ∷ ds) number r
    found-at {number = number} {ds = ds} =
        search-cases p (λ i. Some i) None 0 n (λ (o : Option ℕ). Some r ≡ o → Stops (finds_none number p 0 n ∷ ds) number r)
        (λ i l m t before q. rw (same i q) at (found {number = number} {k = 0} {n = n} {i = i} {p = p} {ds = ds} l m t before)) (λ none q. absurd (clash q)) e
