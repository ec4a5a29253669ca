-- All samples at once: what a lifted sample tells of its sample, and what is gathered of pairs of them. Assumes nothing.
use mathlib.Core.Path.{◌≡◌, refl, sym, ap, ◌∙◌, subst}
use mathlib.Core.Logic.{⊎_elim}
use mathlib.Core.Bool.{true, false, not}
use mathlib.Core.List.{List}
use Prim.Native.Nat.{ℕ, ◌+◌, ◌-◌, ◌*◌, ◌/◌, ◌%◌, ◌^◌, ◌<◌}
use native.Mathlib.Nat.{mod-eq_of_lt}
use native.Mathlib.Omega.{arith}
use borrow.Author.Tests.{eq-eqb}
use lib.Arith.{bin_ind}
use lib.Bits.{bit_and, bit_or, and_zero_l, or_zero_l, and_shr, or_shr, and_mod, or_mod, or_add_and, and_le_l, and_le_r, and_block, and_high}
use lib.Dec.{eqb}
use lib.IntN.{ℤ, pos}
use lib.ListN.{get_or}
use Rattle.bits.proofs.Beside.{same_or_not}
use Rattle.bits.proofs.Digits.{digit-cases}
use Rattle.subframe.specs.Signed.{in_range, code_of}
use Rattle.block.specs.Check.{outside}
use Rattle.block.specs.Inner.{masked, AllInRange, Lifts, Spared, Gathers}
use Rattle.block.proofs.LengthLaws.{masked-A, masked-B}

-- ---- and over or

one-digit : (p q r : ℕ) → p < 2 → q < 2 → r < 2 → bit_and (bit_or p q) r ≡ bit_or (bit_and p r) (bit_and q r)
one-digit p q r hp hq hr =
    digit-cases (λ (x : ℕ). bit_and (bit_or x q) r ≡ bit_or (bit_and x r) (bit_and q r))
    (digit-cases (λ (y : ℕ). bit_and (bit_or 0 y) r ≡ bit_or (bit_and 0 r) (bit_and y r))
    (digit-cases (λ (z : ℕ). bit_and (bit_or 0 0) z ≡ bit_or (bit_and 0 z) (bit_and 0 z)) refl refl r hr)
    (digit-cases (λ (z : ℕ). bit_and (bit_or 0 1) z ≡ bit_or (bit_and 0 z) (bit_and 1 z)) refl refl r hr) q hq)
    (digit-cases (λ (y : ℕ). bit_and (bit_or 1 y) r ≡ bit_or (bit_and 1 r) (bit_and y r))
    (digit-cases (λ (z : ℕ). bit_and (bit_or 1 0) z ≡ bit_or (bit_and 1 z) (bit_and 0 z)) refl refl r hr)
    (digit-cases (λ (z : ℕ). bit_and (bit_or 1 1) z ≡ bit_or (bit_and 1 z) (bit_and 1 z)) refl refl r hr) q hq)
    p hp

by-halves : (x y : ℕ) → x / 2 ≡ y / 2 → x % 2 ≡ y % 2 → x ≡ y
by-halves x y e f = omega arith

and-or : (s x m : ℕ) → bit_and (bit_or s x) m ≡ bit_or (bit_and s m) (bit_and x m)
and-or s =
    bin_ind (λ (n : ℕ). (x m : ℕ) → bit_and (bit_or n x) m ≡ bit_or (bit_and n m) (bit_and x m))
    (λ x m. ap (λ (y : ℕ). bit_and y m) (or_zero_l x)
    ∙ sym (ap (λ (y : ℕ). bit_or y (bit_and x m)) (and_zero_l m) ∙ or_zero_l (bit_and x m)))
    (λ n ih x m. by-halves _ _
    (and_shr (bit_or n x) m 1 ∙ ap (λ (y : ℕ). bit_and y (m / 2)) (or_shr n x 1) ∙ ih (x / 2) (m / 2)
    ∙ sym (or_shr (bit_and n m) (bit_and x m) 1 ∙ rw (and_shr n m 1, and_shr x m 1)))
    (and_mod (bit_or n x) m 1 ∙ ap (λ (y : ℕ). bit_and y (m % 2)) (or_mod n x 1)
    ∙ one-digit (n % 2) (x % 2) (m % 2) (omega arith) (omega arith) (omega arith)
    ∙ sym (or_mod (bit_and n m) (bit_and x m) 1 ∙ rw (and_mod n m 1, and_mod x m 1))))
    s

-- a mask that has nothing of two numbers together has nothing of either
neither : (s x m : ℕ) → bit_and (bit_or s x) m ≡ 0 → (bit_and s m ≡ 0) × (bit_and x m ≡ 0)
neither s x m e =
    let z : bit_or (bit_and s m) (bit_and x m) ≡ 0 = sym (and-or s x m) ∙ e in (
      omega (arith, z, or_add_and (bit_and s m) (bit_and x m), and_le_r (bit_and s m) (bit_and x m)),
      omega (arith, z, or_add_and (bit_and s m) (bit_and x m), and_le_l (bit_and s m) (bit_and x m)),
    )

-- and the same of two numbers side by side
side_by_side : (h l b a : ℕ) → l < 2 ^ 32 → a < 2 ^ 32 → bit_and (h * 2 ^ 32 + l) (b * 2 ^ 32 + a) ≡ 0 → (bit_and l a ≡ 0) × (bit_and h b ≡ 0)
side_by_side h l b a hl ha e =
    let s = sym (and_block 32 h b l a hl ha) ∙ e in
    (omega (arith, s), omega (arith, s))

-- ---- all of them

module _ (samples : List ℤ) where
  pub gathers-first : Gathers samples 0 0
  gathers-first a b ha e k h = absurd (omega arith)

  pub gathers-next : (n all x y : ℕ) → Lifts (get_or samples (2 * n) (pos 0)) x → Lifts (get_or samples (2 * n + 1) (pos 0)) y
      → Gathers samples n all → Gathers samples (n + 1) (bit_or all (y * 2 ^ 32 + x))
  gathers-next n all x y lx ly g a b ha e k h =
      let both = neither all (y * 2 ^ 32 + x) (b * 2 ^ 32 + a) e in
      let apart = side_by_side y x b a lx.0 ha both.1 in
      ⊎_elim
      (λ (s : k ≡ n). subst (λ (j : ℕ). Spared samples a (2 * j) × Spared samples b (2 * j + 1)) (sym s) ((x, lx, apart.0), (y, ly, apart.1)))
      (λ (d : k ≡ n → ⊥). g a b ha both.0 k (before d)) (same_or_not k n)
    where
      before : (k ≡ n → ⊥) → k < n
      before d = omega (arith, d, h)

  -- what holds of the samples of A and of B holds of all
  of-all : (P : ℕ → Type 0) → ((k : ℕ) → k < 192 → P (2 * k)) → ((k : ℕ) → k < 192 → P (2 * k + 1)) → (i : ℕ) → i < 384 → P i
  of-all P even odd i h =
      let e : 2 * (i / 2) + i % 2 ≡ i = omega arith in
      let z : 2 * (i / 2) ≡ 2 * (i / 2) + 0 = omega arith in
      subst P e (digit-cases (λ (d : ℕ). P (2 * (i / 2) + d)) (subst P z (even (i / 2) (omega arith))) (odd (i / 2) (omega arith)) (i % 2) (omega arith))

  -- nothing from 2 ^ 24 on: all are in range
  low : (x : ℕ) → x < 2 ^ 32 → bit_and x (2 ^ 32 - 2 ^ 24) ≡ 0 → x < 2 ^ 24
  low x h e =
      let s : x / 16777216 % 256 * 16777216 ≡ 0 = sym (and_high x 8 24) ∙ e in
      let q : x / 16777216 % 256 ≡ x / 16777216 = mod-eq_of_lt (omega arith) in
      omega (arith, rw q at s)

  within : (j : ℕ) → Spared samples (2 ^ 32 - 2 ^ 24) j → outside samples j ≡ false
  unfolding outside
  within j s = ap not (s.1.1 (low s.0 s.1.0 s.2))

  pub none-outside : (all : ℕ) → Gathers samples 192 all → bit_and all 0xFF000000FF000000 ≡ 0 → (i : ℕ) → i < 384 → outside samples i ≡ false
  none-outside all g e =
      of-all (λ (i : ℕ). outside samples i ≡ false)
      (λ k h. within (2 * k) (g (2 ^ 32 - 2 ^ 24) (2 ^ 32 - 2 ^ 24) (omega arith) e k h).0)
      (λ k h. within (2 * k + 1) (g (2 ^ 32 - 2 ^ 24) (2 ^ 32 - 2 ^ 24) (omega arith) e k h).1)

  -- nothing under two masks of 23 bits: no sample in range has a 1 there
  kept : (z : ℤ) (x mask : ℕ) → in_range 24 z ≡ true → Lifts z x → mask < 2 ^ 23 → bit_and x mask ≡ 0 → bit_and (code_of 24 z) mask ≡ 0
  kept z x mask h l m e =
      let small : (y : ℕ) → bit_and y mask ≡ bit_and (y % 2 ^ 23) mask =
      λ y. sym (mod-eq_of_lt (omega (arith, and_le_r y mask))) ∙ and_mod y mask 23 ∙ ap (bit_and (y % 2 ^ 23)) (mod-eq_of_lt m) in
      small (code_of 24 z) ∙ ap (λ (y : ℕ). bit_and y mask) (sym (l.2 h)) ∙ sym (small x) ∙ e

  spared : AllInRange samples → (mask j : ℕ) → j < 384 → mask < 2 ^ 23 → Spared samples mask j
      → not (eqb (bit_and (code_of 24 (get_or samples j (pos 0))) mask) 0) ≡ false
  spared r mask j h m s = ap not (eq-eqb _ 0 (kept (get_or samples j (pos 0)) s.0 mask (r j h) s.1 m s.2))

  pub none-masked : (all a b : ℕ) → AllInRange samples → Gathers samples 192 all → a < 2 ^ 23 → b < 2 ^ 23
      → bit_and all (b * 2 ^ 32 + a) ≡ 0 → (i : ℕ) → i < 384 → masked samples a b i ≡ false
  none-masked all a b r g ha hb e =
      of-all (λ (i : ℕ). masked samples a b i ≡ false)
      (λ k h. masked-A samples a b (2 * k) (omega arith) ∙ spared r a (2 * k) (omega arith) ha (g a b (omega arith) e k h).0)
      (λ k h. masked-B samples a b (2 * k + 1) (omega arith) ∙ spared r b (2 * k + 1) (omega arith) hb (g a b (omega arith) e k h).1)
