-- Smallest and largest of samples: one of them each, and every sample lies between them; the magnitude is the larger of
-- theirs. Assumes nothing.
use mathlib.Core.Path.{◌≡◌, refl, sym, ap, ◌∙◌}
use mathlib.Core.Logic.{◌⊎◌, inl, inr, ⊎_elim}
use mathlib.Core.Bool.{Bool, true, false}
use mathlib.Core.List.{List, [], ◌∷◌}
use Prim.Native.Nat.{ℕ, zero, suc, ◌<◌}
use native.Mathlib.Omega.{arith}
use borrow.Author.Tests.{lt-ltb, ltb-true, leb-true, le-leb}
use lib.IntN.{ℤ, pos, negsuc, nat_abs}
use lib.ListN.{length, get_or}
use lib.Signed.{le_z}
use Rattle.bits.proofs.Tests.{pick-cases, no-yes}
use Rattle.subframe.specs.Signed.{in_range}
use Rattle.levels.specs.Lines.{least, most, both}
use Rattle.levels.specs.Sheets.{of_one, of_samples}
use Rattle.levels.specs.Inner.{magnitude_of}
use Rattle.levels.proofs.Wholes.{le-self, le-turn, le_then, least-left, least-right, most-left, most-right}
use Rattle.levels.proofs.Wholes.{most-above, most-below, most-turn, most-assoc}

-- every sample lies between the smallest and the largest
pub between : (xs : List ℤ) (i : ℕ) → i < length xs
    → (le_z (of_samples 2 xs) (get_or xs i (pos 0)) ≡ true) × (le_z (get_or xs i (pos 0)) (of_samples 3 xs) ≡ true)
unfolding of_samples of_one both
between [] i h = absurd (omega arith)
between (x ∷ []) zero h = (le-self x, le-self x)
between (x ∷ []) (suc i) h = absurd (omega arith)
between (x ∷ y ∷ ys) zero h = (least-left x (of_samples 2 (y ∷ ys)), most-left x (of_samples 3 (y ∷ ys)))
between (x ∷ y ∷ ys) (suc i) h =
    let r = between (y ∷ ys) i (omega arith) in (
      le_then (least x (of_samples 2 (y ∷ ys))) (of_samples 2 (y ∷ ys)) (get_or (y ∷ ys) i (pos 0)) (least-right x (of_samples 2 (y ∷ ys))) r.0,
      le_then (get_or (y ∷ ys) i (pos 0)) (of_samples 3 (y ∷ ys)) (most x (of_samples 3 (y ∷ ys))) r.1 (most-right x (of_samples 3 (y ∷ ys))),
    )

pub in_order : (xs : List ℤ) → 0 < length xs → le_z (of_samples 2 xs) (of_samples 3 xs) ≡ true
in_order xs h = let r = between xs 0 h in le_then (of_samples 2 xs) (get_or xs 0 (pos 0)) (of_samples 3 xs) r.0 r.1

-- and each of them is a sample
abbrev Among : List ℤ → ℤ → Type 0
Among xs z = (i : ℕ) × (i < length xs) × (z ≡ get_or xs i (pos 0))

here : (x : ℤ) (xs : List ℤ) → Among (x ∷ xs) x
here x xs = (0, omega arith, refl)

further : (x : ℤ) (xs : List ℤ) (z : ℤ) → Among xs z → Among (x ∷ xs) z
further x xs z a = (suc a.0, omega (arith, a.1), a.2)

pub extremes-among : (xs : List ℤ) → 0 < length xs → Among xs (of_samples 2 xs) × Among xs (of_samples 3 xs)
unfolding of_samples of_one both
extremes-among [] h = absurd (omega arith)
extremes-among (x ∷ []) h = (here x [], here x [])
extremes-among (x ∷ y ∷ ys) h =
    let l = of_samples 2 (y ∷ ys) in
    let m = of_samples 3 (y ∷ ys) in
    let r = extremes-among (y ∷ ys) (omega arith) in (
      pick-cases (Among (x ∷ y ∷ ys)) (le_z x l) x l (λ t. here x (y ∷ ys)) (λ t. further x (y ∷ ys) l r.0),
      pick-cases (Among (x ∷ y ∷ ys)) (le_z x m) m x (λ t. further x (y ∷ ys) m r.1) (λ t. here x (y ∷ ys)),
    )

-- ---- so all are in range where both are

range-between : (a b c : ℤ) → le_z a b ≡ true → le_z b c ≡ true → in_range 24 a ≡ true → in_range 24 c ≡ true → in_range 24 b ≡ true
range-between a (pos n) (pos m) e f p q = lt-ltb n 8388608 (omega (arith, leb-true n m f, ltb-true m 8388608 q))
range-between a (pos n) (negsuc m) e f p q = no-yes false refl f
range-between (pos m) (negsuc n) c e f p q = no-yes false refl e
range-between (negsuc m) (negsuc n) c e f p q = lt-ltb n 8388608 (omega (arith, leb-true n m e, ltb-true m 8388608 p))

pub all-in-range : (xs : List ℤ) → in_range 24 (of_samples 2 xs) ≡ true → in_range 24 (of_samples 3 xs) ≡ true
    → (i : ℕ) → i < length xs → in_range 24 (get_or xs i (pos 0)) ≡ true
all-in-range xs p q i h =
    let r = between xs i h in
    range-between (of_samples 2 xs) (get_or xs i (pos 0)) (of_samples 3 xs) r.0 r.1 p q

-- ---- the magnitude

abbrev size : ℤ → ℤ
size x = pos (nat_abs x)

-- a number between two is not farther from 0 than both
nearer : (a b c : ℤ) → le_z a b ≡ true → le_z b c ≡ true → (le_z (size b) (size a) ≡ true) ⊎ (le_z (size b) (size c) ≡ true)
nearer a (pos n) (pos m) e f = inr f
nearer a (pos n) (negsuc m) e f = no-yes false refl f
nearer (pos m) (negsuc n) c e f = no-yes false refl e
nearer (negsuc m) (negsuc n) c e f = inl (le-leb (suc n) (suc m) (omega (arith, leb-true n m e)))

-- one sample more
module _ (x l m : ℤ) (le : le_z l m ≡ true) where
  abbrev X : ℤ
  X = size x

  abbrev L : ℤ
  L = size l

  abbrev M : ℤ
  M = size m

  more_by : (s t : Bool) → le_z x l ≡ s → le_z x m ≡ t → most X (most L M) ≡ magnitude_of (least x l) (most x m)
  more_by true true e f =
      rw (e, f)
      (⊎_elim (λ (n : le_z L X ≡ true). sym (most-assoc X L M) ∙ ap (λ (z : ℤ). most z M) (most-below X L n))
      (λ (n : le_z L M ≡ true). ap (most X) (most-above L M n)) (nearer x l m e le))
  more_by true false e f = no-yes (le_z x m) f (le_then x l m e le)
  more_by false true e f =
      rw (e, f)
      (⊎_elim (λ (n : le_z X L ≡ true). sym (most-assoc X L M) ∙ ap (λ (z : ℤ). most z M) (most-above X L n))
      (λ (n : le_z X M ≡ true). sym (most-assoc X L M) ∙ ap (λ (z : ℤ). most z M) (most-turn X L) ∙ most-assoc L X M
      ∙ ap (most L) (most-above X M n)) (nearer l x m (le-turn x l e) f))
  more_by false false e f =
      rw (e, f)
      (⊎_elim (λ (n : le_z M L ≡ true). ap (most X) (most-below L M n) ∙ most-turn X L)
      (λ (n : le_z M X ≡ true). most-turn X (most L M) ∙ most-assoc L M X ∙ ap (most L) (most-above M X n))
      (nearer l m x le (le-turn x m f)))

pub magnitude-of-extremes : (xs : List ℤ) → 0 < length xs → of_samples 4 xs ≡ magnitude_of (of_samples 2 xs) (of_samples 3 xs)
unfolding of_samples of_one both
magnitude-of-extremes [] h = absurd (omega arith)
magnitude-of-extremes (x ∷ []) h = sym (most-above (size x) (size x) (le-self (size x)))
magnitude-of-extremes (x ∷ y ∷ ys) h =
    let l = of_samples 2 (y ∷ ys) in
    let m = of_samples 3 (y ∷ ys) in
    ap (most (size x)) (magnitude-of-extremes (y ∷ ys) (omega arith))
    ∙ more_by x l m (in_order (y ∷ ys) (omega arith)) (le_z x l) (le_z x m) refl refl
