-- How many slots a tenant holds after a grant and after a return. Assumes nothing.
use mathlib.Core.Path.{◌≡◌, refl, sym, ap, ◌∙◌}
use mathlib.Core.Logic.{◌≢◌}
use mathlib.Core.Bool.{Bool, true, false}
use mathlib.Core.List.{List, [], ◌∷◌, ◌++◌}
use Prim.Native.Nat.{ℕ, zero, suc, ◌+◌, ◌≤◌}
use native.Mathlib.Omega.{arith}
use borrow.Author.Tests.{eq-eqb, ne_eqb, eqb-true, eqb-false}
use lib.Dec.{eqb}
use lib.ListN.{length, replicate, length-map}
use Rattle.bits.specs.Pick.{pick}
use Rattle.bits.specs.Row.{digit, count, little}
use Rattle.leases.specs.Table.{held_by, slots_of, granted, returned}

-- a slot is of a tenant or it is not
pub own-or-other {ℓ} : {P : Type ℓ} (x t : ℕ) → (x ≡ t → P) → (x ≢ t → P) → P
own-or-other {P = P} x t own other = go (eqb x t) refl
  where
    go : (b : Bool) → eqb x t ≡ b → P
    go true e = own (eqb-true x t e)
    go false e = other (eqb-false x t e)

-- ---- slot by slot

pub held_more : (t x : ℕ) (table : List ℕ) → held_by t (x ∷ table) ≡ digit (eqb x t) + held_by t table
unfolding held_by count
held_more t x table = refl

pub held-own : (t x : ℕ) (table : List ℕ) → x ≡ t → held_by t (x ∷ table) ≡ suc (held_by t table)
held-own t x table e = held_more t x table ∙ rw (eq-eqb x t e) (omega arith)

pub held-other : (t x : ℕ) (table : List ℕ) → x ≢ t → held_by t (x ∷ table) ≡ held_by t table
held-other t x table d = held_more t x table ∙ rw (ne_eqb x t d) (omega arith)

pub held-append : (t : ℕ) (a b : List ℕ) → held_by t (a ++ b) ≡ held_by t a + held_by t b
unfolding held_by count
held-append t [] b = omega arith
held-append t (x ∷ a) b = omega (arith, held-append t a b)

-- free slots are no tenant's
pub held-free : (t : ℕ) → t ≢ 0 → (n : ℕ) → held_by t (replicate n 0) ≡ 0
unfolding held_by count
held-free t nz zero = refl
held-free t nz (suc n) = rw (ne_eqb 0 t (λ e. nz (sym e))) (omega (arith, held-free t nz n))

-- ---- asking

pub granted-none : (t : ℕ) (table : List ℕ) → granted t 0 table ≡ table
unfolding granted
granted-none t [] = refl
granted-none t (x ∷ table) = refl

pub granted-nowhere : (t n : ℕ) → granted t n [] ≡ []
unfolding granted
granted-nowhere t n = refl

pub granted-free : (t n x : ℕ) (table : List ℕ) → x ≡ 0 → granted t (suc n) (x ∷ table) ≡ t ∷ granted t n table
unfolding granted
granted-free t n x table e = rw (eq-eqb x 0 e)

pub granted-taken : (t n x : ℕ) (table : List ℕ) → x ≢ 0 → granted t (suc n) (x ∷ table) ≡ x ∷ granted t (suc n) table
unfolding granted
granted-taken t n x table d = rw (ne_eqb x 0 d)

module _ (t : ℕ) (nz : t ≢ 0) where
  -- a tenant that asks for no more than is free holds so many more
  pub granted-own : (n : ℕ) (table : List ℕ) → n ≤ held_by 0 table → held_by t (granted t n table) ≡ held_by t table + n
  unfolding held_by count
  granted-own zero table h = rw (granted-none t table) (omega arith)
  granted-own (suc n) [] h = absurd (omega arith)
  granted-own (suc n) (x ∷ table) h =
      own-or-other x 0
      (λ e. ap (held_by t) (granted-free t n x table e)
      ∙ omega (
        arith,
        held-own t t (granted t n table) refl,
        held-own 0 x table e,
        held-other t x table (λ q. nz (sym q ∙ e)),
        granted-own n table (omega (arith, held-own 0 x table e)),
      ))
      (λ d. ap (held_by t) (granted-taken t n x table d)
      ∙ omega (
        arith,
        held_more t x (granted t (suc n) table),
        held_more t x table,
        held-other 0 x table d,
        granted-own (suc n) table (omega (arith, held-other 0 x table d)),
      ))

  -- and no other tenant holds more or less
  pub granted-other : (u : ℕ) → u ≢ 0 → t ≢ u → (n : ℕ) (table : List ℕ) → held_by u (granted t n table) ≡ held_by u table
  granted-other u uz ne zero table = ap (held_by u) (granted-none t table)
  granted-other u uz ne (suc n) [] = ap (held_by u) (granted-nowhere t (suc n))
  granted-other u uz ne (suc n) (x ∷ table) =
      own-or-other x 0
      (λ e. ap (held_by u) (granted-free t n x table e) ∙ held-other u t (granted t n table) ne ∙ granted-other u uz ne n table
      ∙ sym (held-other u x table (λ q. uz (sym q ∙ e))))
      (λ d. ap (held_by u) (granted-taken t n x table d)
      ∙ omega (arith, held_more u x (granted t (suc n) table), held_more u x table, granted-other u uz ne (suc n) table))

  -- ---- giving back

  pub returned-own : (table : List ℕ) → held_by t (returned t table) ≡ 0
  unfolding held_by count returned
  returned-own [] = refl
  returned-own (x ∷ table) =
      own-or-other x t
      (λ e. rw (eq-eqb x t e, ne_eqb 0 t (λ q. nz (sym q))) (omega (arith, returned-own table)))
      (λ d. rw (ne_eqb x t d, ne_eqb x t d) (omega (arith, returned-own table)))

  pub returned-other : (u : ℕ) → u ≢ 0 → t ≢ u → (table : List ℕ) → held_by u (returned t table) ≡ held_by u table
  unfolding held_by count returned
  returned-other u uz ne [] = refl
  returned-other u uz ne (x ∷ table) =
      own-or-other x t
      (λ e. rw (eq-eqb x t e, ne_eqb 0 u (λ q. uz (sym q)), ne_eqb x u (λ q. ne (sym e ∙ q)))
      (omega (arith, returned-other u uz ne table)))
      (λ d. rw (ne_eqb x t d) (omega (arith, returned-other u uz ne table)))

  -- none of the slots is the tenant's then
  pub returned-slots : (table : List ℕ) → slots_of t (returned t table) ≡ 0
  unfolding slots_of little returned
  returned-slots [] = refl
  returned-slots (x ∷ table) =
      own-or-other x t
      (λ e. rw (eq-eqb x t e, ne_eqb 0 t (λ q. nz (sym q))) (omega (arith, returned-slots table)))
      (λ d. rw (ne_eqb x t d, ne_eqb x t d) (omega (arith, returned-slots table)))

-- ---- the table stays as long as it was

pub length-granted : (t n : ℕ) (table : List ℕ) → length (granted t n table) ≡ length table
unfolding granted
length-granted t n [] = refl
length-granted t zero (x ∷ table) = refl
length-granted t (suc n) (x ∷ table) =
    own-or-other x 0
    (λ e. rw (eq-eqb x 0 e) (ap suc (length-granted t n table)))
    (λ d. rw (ne_eqb x 0 d) (ap suc (length-granted t (suc n) table)))

pub length-returned : (t : ℕ) (table : List ℕ) → length (returned t table) ≡ length table
unfolding returned
length-returned t table = length-map table (λ x. pick (eqb x t) 0 x)

-- a tenant that holds no slot gives none back
pub returned-none : (t : ℕ) (table : List ℕ) → held_by t table ≡ 0 → returned t table ≡ table
unfolding returned
returned-none t [] e = refl
returned-none t (x ∷ table) e =
    own-or-other x t
    (λ q. absurd (omega (arith, held-own t x table q)))
    (λ d. rw (ne_eqb x t d) (ap (λ (l : List ℕ). x ∷ l) (returned-none t table (sym (held-other t x table d) ∙ e))))
