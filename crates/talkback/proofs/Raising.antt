-- All samples at once: what a raised sample tells of its sample, and what the bits of all together tell of each. Assumes
-- nothing.
use mathlib.Core.Path.{◌≡◌, sym, ap, subst}
use mathlib.Core.Logic.{⊎_elim}
use mathlib.Core.Bool.{Bool, true, false, ◌&&◌}
use mathlib.Core.List.{List}
use Prim.Native.Nat.{ℕ, ◌+◌, ◌*◌, ◌%◌, ◌^◌, ◌≤◌, ◌<◌}
use native.Mathlib.Omega.{arith}
use borrow.Author.Tests.{lt-ltb, le-ltb, ltb-true}
use lib.Bits.{bit_or, or_mod, or_add_and, and_le_l, and_le_r}
use lib.Dec.{ltb}
use lib.IntN.{ℤ, pos}
use lib.ListN.{get_or}
use lib.Signed.{mag}
use Rattle.bits.specs.Pick.{first}
use Rattle.bits.proofs.Beside.{same_or_not}
use Rattle.bits.proofs.Tests.{both_true, no-yes, order}
use Rattle.answer.proofs.Chains.{search-cases}
use Rattle.talkback.specs.Talkback.{auxiliary}
use Rattle.talkback.specs.Inner.{Raises, Unites, fitting, unfitting}

-- ---- all of them

-- two numbers together are no less than either
or_left : (a b : ℕ) → a ≤ bit_or a b
or_left a b = omega (arith, or_add_and a b, and_le_r a b)

or_right : (a b : ℕ) → b ≤ bit_or a b
or_right a b = omega (arith, or_add_and a b, and_le_l a b)

module _ (half : ℕ) (samples : List ℤ) where
  pub unites-first : Unites half samples 0 0
  unites-first i h = absurd (omega arith)

  pub unites-next : (n all x : ℕ) → Raises half (get_or samples n (pos 0)) x → Unites half samples n all → Unites half samples (n + 1) (bit_or all x)
  unites-next n all x r u i h =
      ⊎_elim
      (λ (s : i ≡ n). (
        x,
        subst (λ (j : ℕ). Raises half (get_or samples j (pos 0)) x) (sym s) r,
        or_right all x,
        rw (or_mod all x 4) (or_right (all % 2 ^ 4) (x % 2 ^ 4)),
      ))
      (λ (d : i ≡ n → ⊥). let g = u i (before d) in
      (g.0, g.1, omega (arith, g.2, or_left all x), rw (or_mod all x 4) (omega (arith, g.3, or_left (all % 2 ^ 4) (x % 2 ^ 4)))))
      (same_or_not i n)
    where
      before : (i ≡ n → ⊥) → i < n
      before d = omega (arith, d, h)

  -- where they fit together, each fits
  pub all-fitting : (free n all : ℕ) → Unites half samples n all → (ltb all (2 * half) && ltb (all % 2 ^ 4) free) ≡ true
      → (i : ℕ) → i < n → unfitting half free samples i ≡ false
  unfolding unfitting
  all-fitting free n all u e i l =
      let t = both_true (ltb all (2 * half)) (ltb (all % 2 ^ 4) free) e in
      let h : all < 2 * half = ltb-true all (2 * half) t.0 in
      let f : all % 2 ^ 4 < free = ltb-true (all % 2 ^ 4) free t.1 in
      let g = u i l in
      let x = g.0 in
      let z = get_or samples i (pos 0) in
      let m : mag z < half = g.1.0 (omega (arith, g.2)) in
      let a : auxiliary z < free = omega (arith, g.1.2 m, g.3) in
      rw (lt-ltb (mag z) half m, lt-ltb (auxiliary z) free a)

-- a raised sample is tested as the sample is
pub raised-fits : (half free : ℕ) (z : ℤ) (x : ℕ) → Raises half z x → (ltb x (2 * half) && ltb (x % 2 ^ 4) free) ≡ fitting half free z
raised-fits half free z x r =
    ⊎_elim
    (λ (m : half ≤ mag z). rw (le-ltb (mag z) half m, le-ltb x (2 * half) (above m)))
    (λ (m : mag z < half). rw (lt-ltb (mag z) half m, lt-ltb x (2 * half) (r.1 m)) (ap (λ (n : ℕ). ltb n free) (sym (r.2 m))))
    (order half (mag z))
  where
    above : half ≤ mag z → 2 * half ≤ x
    above m =
        ⊎_elim (λ (l : 2 * half ≤ x). l) (λ (l : x < 2 * half). let b = r.0 l in absurd (omega arith)) (order (2 * half) x)

-- ---- a search for the first of them, as code makes it

module _ {A : Type 0} (p : ℕ → Bool) (hit : ℕ → A) (miss : A) (n i : ℕ) (t : p i ≡ true) (before : (k : ℕ) → k < i → p k ≡ false) where
  same : (j : ℕ) → p j ≡ true → ((k : ℕ) → 0 ≤ k → k < j → p k ≡ false) → i ≡ j
  same j tj bj =
      ⊎_elim (λ (l : i ≤ j). ⊎_elim (λ (m : j ≤ i). omega arith) (λ (m : i < j). no-yes (p i) (bj i (omega arith) m) t) (order j i))
      (λ (l : j < i). no-yes (p j) (before j l) tj) (order i j)

  pub first-at : i < n → hit i ≡ first p 0 n hit miss
  first-at h =
      search-cases p hit miss 0 n (λ x. hit i ≡ x) (λ j l u tj bj. ap hit (same j tj bj))
      (λ none. no-yes (p i) (none i (omega arith) (omega arith)) t)
