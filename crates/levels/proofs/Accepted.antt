-- What an accepted sheet says of each line. Assumes nothing.
use mathlib.Core.Path.{◌≡◌, refl}
use mathlib.Core.Bool.{Bool, true, false}
use mathlib.Core.List.{List}
use Prim.Native.Nat.{ℕ, ◌+◌, ◌*◌, ◌/◌, ◌%◌, ◌≤◌, ◌<◌, ◌^◌}
use native.Mathlib.Omega.{arith}
use borrow.Author.Tests.{ltb-true, leb-true}
use borrow.Author.Tests.{ne_eqb, not-false}
use lib.Dec.{eqb}
use lib.IntN.{ℤ, pos, negsuc, nat_abs}
use lib.Signed.{mag}
use Rattle.bits.specs.Pick.{pick}
use Rattle.bits.proofs.Tests.{pick-cases, no-yes}
use Rattle.answer.proofs.Chains.{search-cases}
use Rattle.levels.specs.Lines.{inside, low_of, high_of, mark_right, line_sound, line_at, samples_on, unsound_at, sheet_sound}

-- ---- a sheet, by its lines

module _ (s : List ℤ) where
  pub sound-at : sheet_sound s ≡ true → (k : ℕ) → k < 20 → line_sound (k % 10) (samples_on s k) (line_at s k) ≡ true
  unfolding sheet_sound
  sound-at e k h =
      search-cases (unsound_at s) (λ i. false) true 0 20 (λ x. x ≡ true → line_sound (k % 10) (samples_on s k) (line_at s k) ≡ true)
      (λ i l m t before q. no-yes false refl q) (λ none q. not-false _ (none k (omega arith) (omega arith))) e

  pub all_sound : ((k : ℕ) → k < 20 → unsound_at s k ≡ false) → sheet_sound s ≡ true
  unfolding sheet_sound
  all_sound all =
      search-cases (unsound_at s) (λ i. false) true 0 20 (λ x. x ≡ true)
      (λ i l m t before. no-yes (unsound_at s i) (all i (omega arith)) t) (λ none. refl)

-- ---- a line

-- both tests of a line
pub line-parts : (j n : ℕ) (x : ℤ) → line_sound j n x ≡ true → (inside (low_of j n) (high_of j n) x ≡ true) × (mark_right j n x ≡ true)
unfolding line_sound
line-parts j n x e =
    pick-cases (λ (y : Bool). y ≡ true → (inside (low_of j n) (high_of j n) x ≡ true) × (mark_right j n x ≡ true))
    (inside (low_of j n) (high_of j n) x) (mark_right j n x) false (λ t m. (t, m)) (λ t m. no-yes false refl m) e

pub line_made : (j n : ℕ) (x : ℤ) → inside (low_of j n) (high_of j n) x ≡ true → mark_right j n x ≡ true → line_sound j n x ≡ true
unfolding line_sound
line_made j n x i m = rw i m

inside-small : (l h : ℕ) (x : ℤ) → inside l h x ≡ true → mag x ≤ l + h
inside-small l h (pos n) e = omega (arith, leb-true n h e)
inside-small l h (negsuc n) e = omega (arith, ltb-true n l e)

lows : (t u v w : Bool) (n : ℕ) → n ≤ 4294967296
    → pick t (8388608 * n) (pick u (pick w 0 8388608) (pick v (pick w 0 8388608) 0)) ≤ 36028797018963968
lows true u v w n h = omega arith
lows false true v true n h = omega arith
lows false true v false n h = omega arith
lows false false true true n h = omega arith
lows false false true false n h = omega arith
lows false false false w n h = omega arith

low_small : (j n : ℕ) → n ≤ 4294967296 → low_of j n ≤ 36028797018963968
unfolding low_of
low_small j n h = lows (eqb j 5) (eqb j 2) (eqb j 3) (eqb n 0) n h

highs : (s t u v w x z : Bool) (n : ℕ) → n ≤ 4294967296
    → pick s 4294967296 (pick t (pick z 1 0) (pick u (pick z 0 8388607) (pick v (pick z 0 8388607) (pick w (pick z 0 8388608)
    (pick x (8388608 * n) n))))) ≤ 36028797018963968
highs true t u v w x z n h = omega arith
highs false true u v w x true n h = omega arith
highs false true u v w x false n h = omega arith
highs false false true v w x true n h = omega arith
highs false false true v w x false n h = omega arith
highs false false false true w x true n h = omega arith
highs false false false true w x false n h = omega arith
highs false false false false true x true n h = omega arith
highs false false false false true x false n h = omega arith
highs false false false false false true z n h = omega arith
highs false false false false false false z n h = omega arith

high_small : (j n : ℕ) → n ≤ 4294967296 → high_of j n ≤ 36028797018963968
unfolding high_of
high_small j n h = highs (eqb j 0) (eqb j 1) (eqb j 2) (eqb j 3) (eqb j 4) (eqb j 5) (eqb n 0) n h

pub line_small : (j n : ℕ) (x : ℤ) → n ≤ 4294967296 → line_sound j n x ≡ true → mag x < 2 ^ 60
line_small j n x h e =
    omega (arith, inside-small (low_of j n) (high_of j n) x (line-parts j n x e).0, low_small j n h, high_small j n h)

-- the samples: at most 2 ^ 32, and not below 0
pub head-parts : (n : ℕ) (x : ℤ) → line_sound 0 n x ≡ true → (nat_abs x ≤ 4294967296) × (x ≡ pos (nat_abs x))
unfolding low_of high_of
head-parts n (pos a) e = (leb-true a 4294967296 (line-parts 0 n (pos a) e).0, refl)
head-parts n (negsuc a) e = absurd (omega (arith, ltb-true a 0 (line-parts 0 n (negsuc a) e).0))

-- ---- the head of a line in an accepted sheet, and its size

module _ (s : List ℤ) (e : sheet_sound s ≡ true) (k : ℕ) (h : k < 20) where
  pub head-sound : line_sound 0 (samples_on s k) (line_at s (k / 10 * 10)) ≡ true
  head-sound =
      let q : k / 10 * 10 / 10 * 10 ≡ k / 10 * 10 = omega arith in
      let z : k / 10 * 10 % 10 ≡ 0 = omega arith in
      rw (z, q) at (sound-at s e (k / 10 * 10) (omega arith))

  pub head_small : samples_on s k ≤ 4294967296
  head_small = (head-parts (samples_on s k) (line_at s (k / 10 * 10)) head-sound).0

  pub at_small : mag (line_at s k) < 2 ^ 60
  at_small = line_small (k % 10) (samples_on s k) (line_at s k) head_small (sound-at s e k h)

-- ---- the reach of the lines from 6 on: counts

pub tail-reach : (j n : ℕ) → 6 ≤ j → (low_of j n ≡ 0) × (high_of j n ≡ n)
unfolding low_of high_of
tail-reach j n h = (
  rw (ne_eqb j 5 (λ e. omega arith), ne_eqb j 2 (λ e. omega arith), ne_eqb j 3 (λ e. omega arith)),
  rw (
    ne_eqb j 0 (λ e. omega arith),
    ne_eqb j 1 (λ e. omega arith),
    ne_eqb j 2 (λ e. omega arith),
    ne_eqb j 3 (λ e. omega arith),
    ne_eqb j 4 (λ e. omega arith),
    ne_eqb j 5 (λ e. omega arith),
  ),
)
