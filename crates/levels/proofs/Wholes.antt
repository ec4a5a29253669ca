-- Whole numbers, for which there is no `omega`: size of a sum, the order read in ℕ by a distance, smallest and largest of
-- three.
-- Assumes nothing.
use mathlib.Core.Path.{◌≡◌, refl, sym, ap}
use mathlib.Core.Bool.{Bool, true, false}
use mathlib.Core.Logic.{⊎_elim}
use Prim.Native.Nat.{ℕ, suc, ◌+◌, ◌-◌, ◌≤◌, ◌<◌}
use native.Mathlib.Omega.{arith}
use borrow.Author.Tests.{lt-ltb, le-ltb, leb-true, leb-false, le-leb}
use lib.IntN.{ℤ, pos, negsuc, sub_ℕ, ◌+ℤ◌}
use lib.Signed.{mag, le_z}
use Rattle.bits.proofs.Tests.{order, pick-cases, no-yes}
use Rattle.levels.specs.Lines.{least, most}

-- ---- a difference of two naturals, by their order

pub sub-below : (a b : ℕ) → a < b → sub_ℕ a b ≡ negsuc (b - suc a)
sub-below a b h = rw (lt-ltb a b h)

pub sub-above : (a b : ℕ) → b ≤ a → sub_ℕ a b ≡ pos (a - b)
sub-above a b h = rw (le-ltb a b h)

-- ---- the size of a sum

mag-sub : (a b : ℕ) → mag (sub_ℕ a (suc b)) ≤ a + b
mag-sub a b =
    ⊎_elim (λ (h : suc b ≤ a). rw (sub-above a (suc b) h) (omega arith)) (λ (h : a < suc b). rw (sub-below a (suc b) h) (omega arith))
    (order (suc b) a)

pub mag_sum : (x y : ℤ) → mag (x +ℤ y) ≤ suc (mag x + mag y)
mag_sum (pos a) (pos b) = omega arith
mag_sum (pos a) (negsuc b) = omega (arith, mag-sub a b)
mag_sum (negsuc a) (pos b) = omega (arith, mag-sub b a)
mag_sum (negsuc a) (negsuc b) = omega arith

-- ---- the distance from -h

abbrev pub up : ℕ → ℤ → ℕ
up h (pos n) = h + n
up h (negsuc n) = h - suc n

pub up_le : (h : ℕ) (x y : ℤ) → mag x < h → mag y < h → le_z x y ≡ true → up h x ≤ up h y
up_le h (pos a) (pos b) p q e = omega (arith, leb-true a b e)
up_le h (pos a) (negsuc b) p q e = absurd (let z : ◌≡◌ {A = ℕ} 0 1 = cc in omega arith)
up_le h (negsuc a) (pos b) p q e = omega arith
up_le h (negsuc a) (negsuc b) p q e = omega (arith, leb-true b a e)

pub up-gt : (h : ℕ) (x y : ℤ) → mag x < h → mag y < h → le_z x y ≡ false → up h y < up h x
up-gt h (pos a) (pos b) p q e = omega (arith, leb-false a b e)
up-gt h (pos a) (negsuc b) p q e = omega arith
up-gt h (negsuc a) (pos b) p q e = absurd (let z : ◌≡◌ {A = ℕ} 0 1 = cc in omega arith)
up-gt h (negsuc a) (negsuc b) p q e = omega (arith, leb-false b a e)

-- ---- the order itself

pub le-self : (x : ℤ) → le_z x x ≡ true
le-self (pos n) = le-leb n n (omega arith)
le-self (negsuc n) = le-leb n n (omega arith)

pub le-turn : (x y : ℤ) → le_z x y ≡ false → le_z y x ≡ true
le-turn (pos a) (pos b) e = le-leb b a (omega (arith, leb-false a b e))
le-turn (pos a) (negsuc b) e = refl
le-turn (negsuc a) (pos b) e = no-yes true e refl
le-turn (negsuc a) (negsuc b) e = le-leb a b (omega (arith, leb-false b a e))

pub le_then : (x y z : ℤ) → le_z x y ≡ true → le_z y z ≡ true → le_z x z ≡ true
le_then (pos a) (pos b) (pos c) e f = le-leb a c (omega (arith, leb-true a b e, leb-true b c f))
le_then (pos a) (pos b) (negsuc c) e f = no-yes false refl f
le_then (pos a) (negsuc b) z e f = no-yes false refl e
le_then (negsuc a) y (pos c) e f = refl
le_then (negsuc a) (pos b) (negsuc c) e f = no-yes false refl f
le_then (negsuc a) (negsuc b) (negsuc c) e f = le-leb c a (omega (arith, leb-true b a e, leb-true c b f))

le-both : (x y : ℤ) → le_z x y ≡ true → le_z y x ≡ true → x ≡ y
le-both (pos a) (pos b) e f = ap pos (omega (arith, leb-true a b e, leb-true b a f))
le-both (pos a) (negsuc b) e f = no-yes false refl e
le-both (negsuc a) (pos b) e f = no-yes false refl f
le-both (negsuc a) (negsuc b) e f = ap negsuc (omega (arith, leb-true b a e, leb-true a b f))

-- ---- smallest and largest of two

module _ (x y : ℤ) where
  pub least-left : le_z (least x y) x ≡ true
  least-left = pick-cases (λ (z : ℤ). le_z z x ≡ true) (le_z x y) x y (λ t. le-self x) (λ t. le-turn x y t)

  pub least-right : le_z (least x y) y ≡ true
  least-right = pick-cases (λ (z : ℤ). le_z z y ≡ true) (le_z x y) x y (λ t. t) (λ t. le-self y)

  pub most-left : le_z x (most x y) ≡ true
  most-left = pick-cases (λ (z : ℤ). le_z x z ≡ true) (le_z x y) y x (λ t. t) (λ t. le-self x)

  pub most-right : le_z y (most x y) ≡ true
  most-right = pick-cases (λ (z : ℤ). le_z y z ≡ true) (le_z x y) y x (λ t. le-self y) (λ t. le-turn x y t)

  pub most-above : le_z x y ≡ true → most x y ≡ y
  most-above e = rw e

  pub most-below : le_z y x ≡ true → most x y ≡ x
  most-below e = pick-cases (λ (z : ℤ). z ≡ x) (le_z x y) y x (λ t. le-both y x e t) (λ t. refl)

pub most-turn : (x y : ℤ) → most x y ≡ most y x
most-turn x y =
    pick-cases (λ (z : ℤ). z ≡ most y x) (le_z x y) y x (λ t. sym (most-below y x t)) (λ t. sym (most-above y x (le-turn x y t)))

-- ---- smallest and largest of three

module _ (x y z : ℤ) where
  abbrev far : ℕ
  far = suc (mag x + mag y + mag z)

  clash {ℓ} : {P : Type ℓ} (a b c : ℤ) → mag a < far → mag b < far → mag c < far
      → le_z a b ≡ true → le_z b c ≡ true → le_z a c ≡ false → P
  clash a b c p q r e f g = absurd (omega (arith, up_le far a b p q e, up_le far b c q r f, up-gt far a c p r g))

  clash' {ℓ} : {P : Type ℓ} (a b c : ℤ) → mag a < far → mag b < far → mag c < far
      → le_z a b ≡ false → le_z b c ≡ false → le_z a c ≡ true → P
  clash' a b c p q r e f g = absurd (omega (arith, up-gt far a b p q e, up-gt far b c q r f, up_le far a c p r g))

  least-three : (s t u : Bool) → le_z x y ≡ s → le_z y z ≡ t → le_z x z ≡ u → least (least x y) z ≡ least x (least y z)
  least-three true true true e f g = simp (e, f, g)
  least-three true true false e f g = clash x y z (omega arith) (omega arith) (omega arith) e f g
  least-three true false u e f g = simp (e, f)
  least-three false true u e f g = simp (e, f)
  least-three false false true e f g = clash' x y z (omega arith) (omega arith) (omega arith) e f g
  least-three false false false e f g = simp (e, f, g)

  most-three : (s t u : Bool) → le_z x y ≡ s → le_z y z ≡ t → le_z x z ≡ u → most (most x y) z ≡ most x (most y z)
  most-three true true true e f g = simp (e, f, g)
  most-three true true false e f g = clash x y z (omega arith) (omega arith) (omega arith) e f g
  most-three true false u e f g = simp (e, f)
  most-three false true u e f g = simp (e, f)
  most-three false false true e f g = clash' x y z (omega arith) (omega arith) (omega arith) e f g
  most-three false false false e f g = simp (e, f, g)

  pub least-assoc : least (least x y) z ≡ least x (least y z)
  least-assoc = least-three (le_z x y) (le_z y z) (le_z x z) refl refl refl

  pub most-assoc : most (most x y) z ≡ most x (most y z)
  most-assoc = most-three (le_z x y) (le_z y z) (le_z x z) refl refl refl
