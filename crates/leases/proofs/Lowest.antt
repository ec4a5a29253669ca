-- Which slots a grant takes: the lowest free ones, and no leased one; and what the number in the answer says of them.
-- Assumes nothing.
use mathlib.Core.Path.{◌≡◌, refl, sym, ap, ◌∙◌}
use mathlib.Core.Logic.{◌≢◌}
use mathlib.Core.Bool.{false}
use mathlib.Core.List.{List, [], ◌∷◌}
use Prim.Native.Nat.{ℕ, zero, suc, ◌/◌, ◌^◌, ◌<◌}
use native.Mathlib.Omega.{arith}
use borrow.Author.Tests.{eq-eqb, ne_eqb}
use lib.Count.{ones}
use lib.Dec.{eqb}
use lib.ListN.{length, get_or, length-map}
use Rattle.bits.specs.Row.{odd, count, little}
use Rattle.bits.proofs.Rows.{little-lt, bits-little, odd-little}
use Rattle.bits.proofs.Counts.{count_ones}
use Rattle.leases.specs.Table.{row_of, held_by, slots_of, granted}
use Rattle.leases.proofs.Holding.{own-or-other}

module _ (t : ℕ) (nz : t ≢ 0) where
  -- a leased slot stays its tenant's
  pub leased-slot-stays : (n : ℕ) (table : List ℕ) (k : ℕ) → get_or table k 0 ≢ 0 → get_or (granted t n table) k 0 ≡ get_or table k 0
  unfolding granted
  leased-slot-stays n [] k d = refl
  leased-slot-stays zero (x ∷ table) k d = refl
  leased-slot-stays (suc n) (x ∷ table) zero d = rw (ne_eqb x 0 d)
  leased-slot-stays (suc n) (x ∷ table) (suc k) d =
      own-or-other x 0
      (λ e. rw (eq-eqb x 0 e) (leased-slot-stays n table k d))
      (λ q. rw (ne_eqb x 0 q) (leased-slot-stays (suc n) table k d))

  -- of two free slots the higher is granted only if the lower is
  pub lowest-first : (n : ℕ) (table : List ℕ) (i j : ℕ) → i < j → get_or table i 0 ≡ 0 → get_or table j 0 ≡ 0
      → get_or (granted t n table) j 0 ≢ 0 → get_or (granted t n table) i 0 ≢ 0
  unfolding granted
  lowest-first n [] i j l a b g = absurd (g refl)
  lowest-first zero (x ∷ table) i j l a b g = absurd (g b)
  lowest-first (suc n) (x ∷ table) zero j l a b g = rw (eq-eqb x 0 a) nz
  lowest-first (suc n) (x ∷ table) (suc i) zero l a b g = absurd (omega arith)
  lowest-first (suc n) (x ∷ table) (suc i) (suc j) l a b g =
      own-or-other x 0
      (λ e. rw (eq-eqb x 0 e) (lowest-first n table i j (omega arith) a b (rw (eq-eqb x 0 e) at g)))
      (λ q. rw (ne_eqb x 0 q) (lowest-first (suc n) table i j (omega arith) a b (rw (ne_eqb x 0 q) at g)))

-- ---- the number in the answer

-- for each slot whether it is t's
row_at : (t : ℕ) (table : List ℕ) (k : ℕ) → k < length table → get_or (row_of t table) k false ≡ eqb (get_or table k 0) t
row_at t [] k h = absurd (omega arith)
row_at t (x ∷ table) zero h = refl
row_at t (x ∷ table) (suc k) h = row_at t table k (omega arith)

-- bit k is 1 where slot k is t's
pub slot-bit : (t : ℕ) (table : List ℕ) (k : ℕ) → k < length table → odd (slots_of t table / 2 ^ k) ≡ eqb (get_or table k 0) t
unfolding slots_of
slot-bit t table k h =
    odd-little (row_of t table) k (rw (length-map table (λ x. eqb x t)) h) ∙ row_at t table k h

-- and its ones are as many as the tenant's slots
pub slots-count : (t : ℕ) (table : List ℕ) → ones (slots_of t table) ≡ held_by t table
unfolding slots_of held_by
slots-count t table =
    let r = row_of t table in
    sym (count_ones (length r) (little r) (little-lt r)) ∙ ap count (bits-little r)
