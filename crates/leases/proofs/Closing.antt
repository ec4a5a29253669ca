-- Closing gaps: every tenant keeps its count, the leased slots keep their order, and they stand from 0 on without a
-- gap. Assumes nothing.
use mathlib.Core.Path.{◌≡◌, refl, sym, ap, ap₂, ◌∙◌}
use mathlib.Core.Logic.{◌≢◌}
use mathlib.Core.List.{List, [], ◌∷◌, ◌++◌, append-nil}
use Prim.Native.Nat.{ℕ, zero, suc, ◌+◌, ◌-◌, ◌*◌, ◌≤◌, ◌<◌}
use native.Mathlib.Omega.{arith}
use borrow.Author.Tests.{eq-eqb, ne_eqb}
use lib.ListN.{length, get_or, replicate, length-append, length-replicate, get_or-append}
use lib.Seq.{get_or-append-add}
use Rattle.leases.specs.Table.{held_by, leased, closed, moves_from}
use Rattle.leases.proofs.Holding.{own-or-other, held_more, held-other, held-append, held-free}

-- ---- the leased slots, one by one

pub leased-free : (x : ℕ) (table : List ℕ) → x ≡ 0 → leased (x ∷ table) ≡ leased table
unfolding leased
leased-free x table e = rw (eq-eqb x 0 e)

pub leased-taken : (x : ℕ) (table : List ℕ) → x ≢ 0 → leased (x ∷ table) ≡ x ∷ leased table
unfolding leased
leased-taken x table d = rw (ne_eqb x 0 d)

pub leased-le : (table : List ℕ) → length (leased table) ≤ length table
unfolding leased
leased-le [] = omega arith
leased-le (x ∷ table) =
    own-or-other x 0
    (λ e. rw (eq-eqb x 0 e) (omega (arith, leased-le table)))
    (λ d. rw (ne_eqb x 0 d) (omega (arith, leased-le table)))

pub leased-append : (a b : List ℕ) → leased (a ++ b) ≡ leased a ++ leased b
unfolding leased
leased-append [] b = refl
leased-append (x ∷ a) b =
    own-or-other x 0
    (λ e. rw (eq-eqb x 0 e) (leased-append a b))
    (λ d. rw (ne_eqb x 0 d) (ap (λ (l : List ℕ). x ∷ l) (leased-append a b)))

pub leased-none : (n : ℕ) → leased (replicate n 0) ≡ []
unfolding leased
leased-none zero = refl
leased-none (suc n) = leased-none n

pub leased-twice : (table : List ℕ) → leased (leased table) ≡ leased table
unfolding leased
leased-twice [] = refl
leased-twice (x ∷ table) =
    own-or-other x 0
    (λ e. rw (leased-free x table e) (leased-twice table))
    (λ d. rw (leased-taken x table d, leased-taken x (leased table) d) (ap (λ (l : List ℕ). x ∷ l) (leased-twice table)))

-- each of them is some tenant's
pub leased-nonzero : (table : List ℕ) (k : ℕ) → k < length (leased table) → get_or (leased table) k 0 ≢ 0
unfolding leased
leased-nonzero [] k h = absurd (omega arith)
leased-nonzero (x ∷ table) k h =
    own-or-other x 0
    (λ e. rw (leased-free x table e) (leased-nonzero table k (rw (leased-free x table e) at h)))
    (λ d. rw (leased-taken x table d) (front k d (λ i q. leased-nonzero table i q) (rw (leased-taken x table d) at h)))
  where
    front : (k : ℕ) → x ≢ 0 → ((i : ℕ) → i < length (leased table) → get_or (leased table) i 0 ≢ 0)
        → k < length (x ∷ leased table) → get_or (x ∷ leased table) k 0 ≢ 0
    front zero d later h = d
    front (suc k) d later h = later k (omega arith)

pub held-leased : (t : ℕ) → t ≢ 0 → (table : List ℕ) → held_by t (leased table) ≡ held_by t table
unfolding leased
held-leased t nz [] = refl
held-leased t nz (x ∷ table) =
    own-or-other x 0
    (λ e. ap (held_by t) (leased-free x table e) ∙ held-leased t nz table ∙ sym (held-other t x table (λ q. nz (sym q ∙ e))))
    (λ d. ap (held_by t) (leased-taken x table d)
    ∙ omega (arith, held_more t x (leased table), held_more t x table, held-leased t nz table))

-- ---- the promises

module _ (table : List ℕ) where
  abbrev free : List ℕ
  free = replicate (length table - length (leased table)) 0

  pub length-closed : length (closed table) ≡ length table
  unfolding closed
  length-closed = simp (length-append, length-replicate) (omega (arith, leased-le table))

  -- every tenant keeps its count
  pub closing-keeps-counts : (t : ℕ) → t ≢ 0 → held_by t (closed table) ≡ held_by t table
  unfolding closed
  closing-keeps-counts t nz =
      held-append t (leased table) free
      ∙ omega (arith, held-leased t nz table, held-free t nz (length table - length (leased table)))

  -- the leased slots keep their order
  pub closing-keeps-order : leased (closed table) ≡ leased table
  unfolding closed
  closing-keeps-order =
      leased-append (leased table) free
      ∙ ap₂ ◌++◌ (leased-twice table) (leased-none (length table - length (leased table))) ∙ append-nil (leased table)

  -- and are those from 0 on, as many as they are: no gap is among them, and none is above
  pub closed_at : (k : ℕ) → k < length (leased table) → get_or (closed table) k 0 ≡ get_or (leased table) k 0
  unfolding closed
  closed_at k h = get_or-append (leased table) free 0 k h

  pub closed-leased : (k : ℕ) → k < length (leased table) → get_or (closed table) k 0 ≢ 0
  closed-leased k h = rw (closed_at k h) (leased-nonzero table k h)

  pub closed-free : (k : ℕ) → length (leased table) ≤ k → get_or (closed table) k 0 ≡ 0
  unfolding closed
  closed-free k h =
      let e : k ≡ length (leased table) + (k - length (leased table)) = omega arith in
      rw e (get_or-append-add (leased table) free (k - length (leased table)) 0
      ∙ zeros (length table - length (leased table)) (k - length (leased table)))
    where
      zeros : (n i : ℕ) → ◌≡◌ {A = ℕ} (get_or (replicate n 0) i 0) 0
      zeros zero i = refl
      zeros (suc n) zero = refl
      zeros (suc n) (suc i) = zeros n i

-- ---- the moves

pub moves-free : (old new x : ℕ) (table : List ℕ) → x ≡ 0 → moves_from old new (x ∷ table) ≡ moves_from (suc old) new table
unfolding moves_from
moves-free old new x table e = rw (eq-eqb x 0 e)

pub moves-taken : (old new x : ℕ) (table : List ℕ) → x ≢ 0
    → moves_from old new (x ∷ table) ≡ old ∷ new ∷ moves_from (suc old) (suc new) table
unfolding moves_from
moves-taken old new x table d = rw (ne_eqb x 0 d)

-- two octets for each leased slot
pub length-moves : (old new : ℕ) (table : List ℕ) → length (moves_from old new table) ≡ 2 * length (leased table)
unfolding moves_from leased
length-moves old new [] = refl
length-moves old new (x ∷ table) =
    own-or-other x 0
    (λ e. rw (eq-eqb x 0 e) (length-moves (suc old) new table))
    (λ d. rw (ne_eqb x 0 d) (omega (arith, length-moves (suc old) (suc new) table)))
