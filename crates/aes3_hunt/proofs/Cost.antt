-- What a candidate's cost means, symbol by symbol, and which symbols of a candidate that fits differ: none. Assumes
-- nothing.
use mathlib.Core.Path.{◌≡◌, refl, sym, ◌∙◌}
use mathlib.Core.Logic.{⊎_elim}
use mathlib.Core.Bool.{Bool, true, false}
use Prim.Native.Nat.{ℕ, ◌+◌, ◌≤◌, ◌<◌}
use native.Mathlib.Omega.{arith}
use lib.ListN.{get_or}
use lib.Seq.{ext_get_or}
use Rattle.bits.specs.Row.{Row}
use Rattle.bits.proofs.Tests.{no-yes, order}
use Rattle.answer.proofs.Chains.{search-cases}
use Rattle.aes3_hunt.specs.Hunt.{fits, standing, required, differs, cost}
use Rattle.aes3_hunt.proofs.SameLaws.{same-means, same_self, no_difference, xor_self}
use Rattle.aes3_hunt.proofs.Symbols.{fits_all, length-standing, length-required}

module _ (r : Row) (p : ℕ) where
  -- none of the first k symbols differs from the one required
  abbrev pub NoneBefore : ℕ → Type 0
  NoneBefore k = (j : ℕ) → j < k → differs r p j ≡ false

  -- ---- a candidate fits exactly if none of the sixteen differs

  pub fits-same : NoneBefore 16 → fits r p ≡ true
  unfolding differs
  fits-same h =
      let e : standing r p ≡ required r p =
      ext_get_or false (standing r p) (required r p) (length-standing r p ∙ sym (length-required r p))
      (λ i l. no_difference _ _ (h i (rw (length-standing r p) at l))) in
      fits_all r p ∙ rw e (same_self (required r p))

  pub fit-differs-nowhere : fits r p ≡ true → (k : ℕ) → differs r p k ≡ false
  unfolding differs
  fit-differs-nowhere f k =
      rw (same-means (standing r p) (required r p) (sym (fits_all r p) ∙ f)) (xor_self (get_or (required r p) k false))

  pub misfit : (k : ℕ) → differs r p k ≡ true → fits r p ≡ false
  misfit k d = go (fits r p) refl
    where
      go : (t : Bool) → fits r p ≡ t → fits r p ≡ false
      go false e = e
      go true e = no-yes (differs r p k) (fit-differs-nowhere e k) d

  -- ---- the cost

  -- up to and including the first that differs
  pub cost-differs : (k : ℕ) → k < 16 → NoneBefore k → differs r p k ≡ true → cost r p ≡ k + 1
  unfolding cost
  cost-differs k h before d =
      search-cases (differs r p) (λ i. i + 1) 16 0 16 (λ x. x ≡ k + 1)
      (λ i l m t none. ⊎_elim
      (λ (a : k ≤ i). ⊎_elim (λ (b : i ≤ k). omega arith) (λ (b : k < i). no-yes (differs r p k) (none k (omega arith) b) d) (order i k))
      (λ (a : i < k). no-yes (differs r p i) (before i a) t) (order k i))
      (λ none. no-yes (differs r p k) (none k (omega arith) (omega arith)) d)

  -- or 16
  pub cost-same : NoneBefore 16 → cost r p ≡ 16
  unfolding cost
  cost-same h =
      search-cases (differs r p) (λ i. i + 1) 16 0 16 (λ x. x ≡ 16) (λ i l m t none. no-yes (differs r p i) (h i (omega arith)) t) (λ none. refl)

  pub cost-fits : fits r p ≡ true → cost r p ≡ 16
  cost-fits f = cost-same (λ j h. fit-differs-nowhere f j)

  -- from 1 to 16
  pub cost-most : cost r p ≤ 16
  unfolding cost
  cost-most = search-cases (differs r p) (λ i. i + 1) 16 0 16 (λ x. x ≤ 16) (λ i l m t none. omega arith) (λ none. omega arith)

  pub cost-least : 1 ≤ cost r p
  unfolding cost
  cost-least = search-cases (differs r p) (λ i. i + 1) 16 0 16 (λ x. 1 ≤ x) (λ i l m t none. omega arith) (λ none. omega arith)
