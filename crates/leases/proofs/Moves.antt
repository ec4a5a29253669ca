-- The list of moves: its pair k says that leased slot k came from its old position to k, and the old positions rise.
-- Assumes nothing.
use mathlib.Core.Path.{◌≡◌, sym, ap, ◌∙◌}
use mathlib.Core.Logic.{◌≢◌}
use mathlib.Core.List.{List, [], ◌∷◌}
use Prim.Native.Nat.{ℕ, zero, suc, ◌+◌, ◌-◌, ◌*◌, ◌≤◌, ◌<◌}
use native.Mathlib.Omega.{arith}
use lib.ListN.{length, get_or}
use Rattle.leases.specs.Table.{leased, closed, moves_from, moves}
use Rattle.leases.proofs.Holding.{own-or-other}
use Rattle.leases.proofs.Closing.{leased-free, leased-taken, moves-free, moves-taken, closed_at}

module _ (old new : ℕ) (table : List ℕ) (k : ℕ) where
  abbrev from : ℕ
  from = get_or (moves_from old new table) (2 * k) 0

  pub record Pair : Type 0 where
    pub goes_to : get_or (moves_from old new table) (2 * k + 1) 0 ≡ new + k
    pub not-below : old ≤ from
    pub inside : from < old + length table
    pub was-there : get_or table (from - old) 0 ≡ get_or (leased table) k 0

-- a free slot in front
module _ (old new x : ℕ) (table : List ℕ) (k : ℕ) (z : x ≡ 0) (p : Pair (suc old) new table k) where
  after_free : Pair old new (x ∷ table) k
  after_free =
      let m : ℕ = from (suc old) new table k in
      let s : m - old ≡ suc (m - suc old) = omega (arith, p.not-below) in
      record {
        goes_to = rw (moves-free old new x table z) p.goes_to;
        not-below = rw (moves-free old new x table z) (omega (arith, p.not-below));
        inside = rw (moves-free old new x table z) (omega (arith, p.inside));
        was-there = rw (moves-free old new x table z, leased-free x table z, s) p.was-there;
      }

-- a leased slot in front
module _ (old new x : ℕ) (table : List ℕ) (d : x ≢ 0) where
  front : Pair old new (x ∷ table) 0
  front =
      let s : old - old ≡ 0 = omega arith in
      record {
        goes_to = rw (moves-taken old new x table d) (omega arith);
        not-below = rw (moves-taken old new x table d) (omega arith);
        inside = rw (moves-taken old new x table d) (omega arith);
        was-there = rw (moves-taken old new x table d, leased-taken x table d, s);
      }

  after-taken : (k : ℕ) → Pair (suc old) (suc new) table k → Pair old new (x ∷ table) (suc k)
  after-taken k p =
      let m : ℕ = from (suc old) (suc new) table k in
      let s : m - old ≡ suc (m - suc old) = omega (arith, p.not-below) in
      let two : 2 * suc k ≡ suc (suc (2 * k)) = omega arith in
      let three : 2 * suc k + 1 ≡ suc (suc (2 * k + 1)) = omega arith in
      record {
        goes_to = rw (three, moves-taken old new x table d) (p.goes_to ∙ omega arith);
        not-below = rw (two, moves-taken old new x table d) (omega (arith, p.not-below));
        inside = rw (two, moves-taken old new x table d) (omega (arith, p.inside));
        was-there = rw (two, moves-taken old new x table d, leased-taken x table d, s) p.was-there;
      }

pairs : (old new : ℕ) (table : List ℕ) (k : ℕ) → k < length (leased table) → Pair old new table k
unfolding leased
pairs old new [] k h = absurd (omega arith)
pairs old new (x ∷ table) zero h =
    own-or-other x 0
    (λ z. after_free old new x table 0 z (pairs (suc old) new table 0 (rw (leased-free x table z) at h)))
    (λ d. front old new x table d)
pairs old new (x ∷ table) (suc k) h =
    own-or-other x 0
    (λ z. after_free old new x table (suc k) z (pairs (suc old) new table (suc k) (rw (leased-free x table z) at h)))
    (λ d. let l : suc k < suc (length (leased table)) = rw (leased-taken x table d) at h in
    after-taken old new x table d k (pairs (suc old) (suc new) table k (omega arith)))

rising : (old new : ℕ) (table : List ℕ) (k : ℕ) → suc k < length (leased table) → from old new table k < from old new table (suc k)
unfolding leased
rising old new [] k h = absurd (omega arith)
rising old new (x ∷ table) zero h =
    own-or-other x 0
    (λ z. rw (moves-free old new x table z) (rising (suc old) new table 0 (rw (leased-free x table z) at h)))
    (λ d. let l : 1 < suc (length (leased table)) = rw (leased-taken x table d) at h in
    rw (moves-taken old new x table d) (omega (arith, (pairs (suc old) (suc new) table 0 (omega arith)).not-below)))
rising old new (x ∷ table) (suc k) h =
    own-or-other x 0
    (λ z. rw (moves-free old new x table z) (rising (suc old) new table (suc k) (rw (leased-free x table z) at h)))
    (λ d. let l : suc (suc k) < suc (length (leased table)) = rw (leased-taken x table d) at h in
    let two : 2 * suc k ≡ suc (suc (2 * k)) = omega arith in
    let four : 2 * suc (suc k) ≡ suc (suc (2 * suc k)) = omega arith in
    rw (four, two, moves-taken old new x table d) (rw two at (rising (suc old) (suc new) table k (omega arith))))

-- ---- the promise: what stands at k after closing stood at the position that the list names, and the list says that it
-- went to k

module _ (table : List ℕ) (k : ℕ) (h : k < length (leased table)) where
  pub old-position : get_or (closed table) k 0 ≡ get_or table (get_or (moves table) (2 * k) 0) 0
  old-position =
      let m : ℕ = get_or (moves table) (2 * k) 0 in
      let z : m - 0 ≡ m = omega arith in
      closed_at table k h ∙ sym (pairs 0 0 table k h).was-there ∙ ap (λ (i : ℕ). get_or table i 0) z

  pub new-position : get_or (moves table) (2 * k + 1) 0 ≡ k
  new-position = (pairs 0 0 table k h).goes_to ∙ omega arith

-- in their present order
pub old-positions-rise : (table : List ℕ) (k : ℕ) → suc k < length (leased table)
    → get_or (moves table) (2 * k) 0 < get_or (moves table) (2 * suc k) 0
old-positions-rise table k h = rising 0 0 table k h
