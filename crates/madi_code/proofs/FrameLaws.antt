-- What a channel count can be, and what a list of commands holds. Assumes nothing.
use mathlib.Core.Path.{◌≡◌, refl}
use mathlib.Core.Bool.{Bool, true, false, ◌&&◌, ◌||◌}
use mathlib.Core.List.{List, [], ◌∷◌, ◌++◌}
use Prim.Native.Nat.{ℕ, zero, suc, ◌≤◌, ◌<◌}
use native.Mathlib.Omega.{arith}
use borrow.Author.Tests.{leb-true, le-leb, eqb-true, eq-eqb, ne_eqb, ltb-true, ltb-false, lt-ltb}
use lib.Dec.{eqb, leb, ltb}
use Rattle.std.specs.Prelude.{Some, None, Ok, Err}
use Rattle.std.specs.Result.{result_ok}
use Rattle.bits.specs.Pick.{pick}
use lib.ListN.{length, get_or}
use Rattle.bits.proofs.Tests.{both_true, no-yes}
use Rattle.madi_code.specs.Frame.{counted, numbered, synced, below, parted}

pub counted-le : (channels : ℕ) → counted channels ≡ true → channels ≤ 64
unfolding counted
counted-le channels h = go (eqb channels 56) refl h
  where
    go : (t : Bool) → eqb channels 56 ≡ t → (t || eqb channels 64) ≡ true → channels ≤ 64
    go true e h = omega (arith, eqb-true channels 56 e)
    go false e h = omega (arith, eqb-true channels 64 h)

pub counted-some : (channels : ℕ) → counted channels ≡ true → 0 < channels
unfolding counted
counted-some channels h = go (eqb channels 56) refl h
  where
    go : (t : Bool) → eqb channels 56 ≡ t → (t || eqb channels 64) ≡ true → 0 < channels
    go true e h = omega (arith, eqb-true channels 56 e)
    go false e h = omega (arith, eqb-true channels 64 h)

-- ---- command 0 is among them, or is not

pub synced-at : (cs : List ℕ) (k : ℕ) → k < length cs → get_or cs k 0 ≡ 0 → synced cs ≡ true
unfolding synced
synced-at [] k h e = absurd (omega arith)
synced-at (c ∷ cs) zero h e = rw (eq-eqb c 0 e)
synced-at (c ∷ cs) (suc k) h e = either (eqb c 0) (synced-at cs k (omega arith) e)
  where
    either : (t : Bool) {u : Bool} → u ≡ true → (t || u) ≡ true
    either true q = refl
    either false q = q

pub synced-nowhere : (cs : List ℕ) → ((k : ℕ) → k < length cs → get_or cs k 0 ≡ 0 → ⊥) → synced cs ≡ false
unfolding synced
synced-nowhere [] other = refl
synced-nowhere (c ∷ cs) other = rw (ne_eqb c 0 (other 0 (omega arith))) (synced-nowhere cs (λ k h. other (suc k) (omega arith)))

pub synced-some : (cs : List ℕ) → synced cs ≡ true → 1 ≤ length cs
unfolding synced
synced-some [] e = no-yes false refl e
synced-some (c ∷ cs) e = omega arith

-- ---- none is above 15

pub numbered-at : (cs : List ℕ) → numbered cs ≡ true → (k : ℕ) → k < length cs → get_or cs k 0 < 16
unfolding numbered
numbered-at [] e k h = absurd (omega arith)
numbered-at (c ∷ cs) e zero h = let b = both_true (leb c 15) (numbered cs) e in omega (arith, leb-true c 15 b.0)
numbered-at (c ∷ cs) e (suc k) h = numbered-at cs (both_true (leb c 15) (numbered cs) e).1 k (omega arith)

pub numbered-all : (cs : List ℕ) → ((k : ℕ) → k < length cs → get_or cs k 0 < 16) → numbered cs ≡ true
unfolding numbered
numbered-all [] all = refl
numbered-all (c ∷ cs) all = rw (le-leb c 15 (let h : c < 16 = all 0 (omega arith) in omega arith)) (numbered-all cs (λ k h. all (suc k) (omega arith)))

pub numbered_next : (c : ℕ) (cs : List ℕ) → c < 16 → numbered cs ≡ true → numbered (c ∷ cs) ≡ true
unfolding numbered
numbered_next c cs h e = rw (le-leb c 15 (omega arith)) e

-- one command more, and none
pub numbered-push : (ys : List ℕ) (x : ℕ) → numbered (ys ++ x ∷ []) ≡ (numbered ys && leb x 15)
unfolding numbered
numbered-push [] x = and-true (leb x 15)
  where
    and-true : (t : Bool) → (t && true) ≡ t
    and-true true = refl
    and-true false = refl
numbered-push (y ∷ ys) x = rw (numbered-push ys x) (assoc (leb y 15) (numbered ys) (leb x 15))
  where
    assoc : (t u v : Bool) → (t && (u && v)) ≡ ((t && u) && v)
    assoc true u v = refl
    assoc false u v = refl

pub none-numbered : true ≡ numbered []
unfolding numbered
none-numbered = refl

-- ---- a number below a limit, or none

pub below-some : (n x y : ℕ) → below n x ≡ Some y → (x < n) × (x ≡ y)
below-some n x y = go (ltb x n) refl
  where
    go : (t : Bool) → ltb x n ≡ t → pick t (Some x) None ≡ Some y → (x < n) × (x ≡ y)
    go true e q = (ltb-true x n e, cc)
    go false e q = cc

pub below-none : (n x : ℕ) → below n x ≡ None → n ≤ x
below-none n x = go (ltb x n) refl
  where
    go : (t : Bool) → ltb x n ≡ t → pick t (Some x) None ≡ None → n ≤ x
    go true e q = cc
    go false e q = omega (arith, ltb-false x n e)

-- a number that is below it
pub below-is : (n x y : ℕ) → y < n → x ≡ y → below n x ≡ Some y
below-is n x y h e = rw (e, lt-ltb y n h)

-- ---- a number on one of two sides of a limit

pub parted-ok : (n x y : ℕ) → parted n x ≡ Ok y → (x < n) × (x ≡ y)
parted-ok n x y = go (ltb x n) refl
  where
    go : (t : Bool) → ltb x n ≡ t → pick t (Ok x) (Err x) ≡ Ok y → (x < n) × (x ≡ y)
    go true e q = (ltb-true x n e, cc)
    go false e q = cc

pub parted-err : (n x y : ℕ) → parted n x ≡ Err y → (n ≤ x) × (x ≡ y)
parted-err n x y = go (ltb x n) refl
  where
    go : (t : Bool) → ltb x n ≡ t → pick t (Ok x) (Err x) ≡ Err y → (n ≤ x) × (x ≡ y)
    go true e q = cc
    go false e q = (omega (arith, ltb-false x n e), cc)

pub parted-some : (n x y : ℕ) → result_ok (parted n x) ≡ Some y → (x < n) × (x ≡ y)
parted-some n x y = go (ltb x n) refl
  where
    go : (t : Bool) → ltb x n ≡ t → result_ok (pick t (Ok x) (Err x)) ≡ Some y → (x < n) × (x ≡ y)
    go true e q = (ltb-true x n e, cc)
    go false e q = cc
