-- Moving leased slots down: one turn, and what stands there at the end. Assumes nothing.
use mathlib.Core.Path.{◌≡◌, sym, ap, ◌∙◌}
use mathlib.Core.Logic.{◌≢◌}
use mathlib.Core.List.{List, [], ◌∷◌, ◌++◌, append-nil}
use Prim.Native.Nat.{ℕ, suc, ◌+◌, ◌*◌, ◌≤◌, ◌<◌}
use native.Mathlib.Numerals.{add-one}
use native.Mathlib.Omega.{arith}
use lib.ListN.{length, get_or, take, drop, set, length-set, drop_of_length-le}
use lib.Seq.{drop-cons, drop-set-lt, length-take-le}
use Rattle.bits.proofs.Filling.{filled}
use Rattle.leases.specs.Table.{leased, closed, moves_from, moves}
use Rattle.leases.specs.Calls.{moves_list}
use Rattle.leases.specs.Inner.{Moved, zeroed_from}
use Rattle.leases.proofs.Closing.{leased-free, leased-taken, moves-free, moves-taken}

-- of a table that was table₀ the slots below `old` are done: `new` of them were leased, and stand in front; so do their
-- moves
pub record Moving (table₀ table pairs : List ℕ) (new old : ℕ) : Type 0 where
  pub behind : new ≤ old
  pub within : old ≤ 64
  pub slots : length table ≡ 64
  pub octets : length pairs ≡ 128
  pub tenants : take new table ++ leased (drop old table) ≡ leased table₀
  pub told : take (2 * new) pairs ++ moves_from old new (drop old table) ≡ moves table₀

module _ {table₀ table pairs : List ℕ} {new old : ℕ} (m : Moving table₀ table pairs new old) where
  module _ (h : old < 64) where
    abbrev x : ℕ
    x = get_or table old 0

    abbrev rest : List ℕ
    rest = drop (suc old) table

    here : drop old table ≡ x ∷ rest
    here = drop-cons table old 0 (omega (arith, m.slots))

    -- a leased slot goes to `new`, and its move is told
    pub moves-one : {table' pairs' : List ℕ} {new' : ℕ} → x ≢ 0 → table' ≡ set table new x
        → pairs' ≡ set (set pairs (2 * new) old) (2 * new + 1) new → new' ≡ new + 1 → Moving table₀ table' pairs' new' (old + 1)
    moves-one d t p n =
        let b : new ≤ old = m.behind in
        let s : drop (old + 1) (set table new x) ≡ rest =
        drop-set-lt (old + 1) table new x (omega arith) ∙ ap (λ (k : ℕ). drop k table) (add-one old) in
        let e : take new table ++ (x ∷ leased rest) ≡ leased table₀ =
        ap (λ (l : List ℕ). take new table ++ l) (sym (ap leased here ∙ leased-taken x rest d)) ∙ m.tenants in
        let q : take (2 * new) pairs ++ (old ∷ new ∷ moves_from (suc old) (suc new) rest) ≡ moves table₀ =
        ap (λ (l : List ℕ). take (2 * new) pairs ++ l) (sym (ap (moves_from old new) here ∙ moves-taken old new x rest d)) ∙ m.told in
        let two : 2 * (new + 1) ≡ 2 * new + 1 + 1 = omega arith in
        record {
          behind = omega arith;
          within = omega arith;
          slots = ap length t ∙ length-set table new x ∙ m.slots;
          octets = ap length p ∙ length-set (set pairs (2 * new) old) (2 * new + 1) new ∙ length-set pairs (2 * new) old ∙ m.octets;
          tenants = rw (n, t, s) (filled table (leased rest) (leased table₀) new x (omega (arith, m.slots)) e);
          told = rw (n, p, t, s, two, add-one old, add-one new)
              (filled (set pairs (2 * new) old) (moves_from (suc old) (suc new) rest) (moves table₀)
              (2 * new + 1) new (rw (length-set pairs (2 * new) old) (omega (arith, m.octets)))
              (filled pairs (new ∷ moves_from (suc old) (suc new) rest) (moves table₀) (2 * new) old (omega (arith, m.octets)) q));
        }

    -- a free slot is passed over
    pub passes-one : {table' pairs' : List ℕ} {new' : ℕ} → x ≡ 0 → table' ≡ table → pairs' ≡ pairs → new' ≡ new
        → Moving table₀ table' pairs' new' (old + 1)
    passes-one z t p n = record {
      behind = omega (arith, m.behind);
      within = omega arith;
      slots = ap length t ∙ m.slots;
      octets = ap length p ∙ m.octets;
      tenants = rw (n, t, add-one old)
          (ap (λ (l : List ℕ). take new table ++ l) (sym (ap leased here ∙ leased-free x rest z)) ∙ m.tenants);
      told = rw (n, p, t, add-one old)
          (ap (λ (l : List ℕ). take (2 * new) pairs ++ l) (sym (ap (moves_from old new) here ∙ moves-free old new x rest z)) ∙ m.told);
    }

  pub moved : 64 ≤ old → Moved table₀ table pairs new
  unfolding leased moves_from
  moved h =
      let n : drop old table ≡ [] = drop_of_length-le table {i = old} (omega (arith, m.slots)) in
      let f : take new table ≡ leased table₀ =
      sym (append-nil (take new table)) ∙ ap (λ (l : List ℕ). take new table ++ leased l) (sym n) ∙ m.tenants in
      record {
        as_many = sym (length-take-le new table (omega (arith, m.slots, m.behind, m.within))) ∙ ap length f;
        few = omega (arith, m.behind, m.within);
        in-front = f;
        told = sym (append-nil (take (2 * new) pairs))
            ∙ ap (λ (l : List ℕ). take (2 * new) pairs ++ moves_from old new l) (sym n) ∙ m.told;
      }

-- ---- the rest is cleared

module _ {table₀ table pairs : List ℕ} {r : ℕ} (m : Moved table₀ table pairs r) (slots : length table ≡ length table₀) where
  pub cleared-table : zeroed_from r table ≡ closed table₀
  unfolding zeroed_from closed
  cleared-table = rw (m.in-front, slots, m.as_many)

  pub cleared-moves : length pairs ≡ 128 → zeroed_from (2 * r) pairs ≡ moves_list table₀
  unfolding zeroed_from moves_list
  cleared-moves octets = rw (m.told, octets, m.as_many)
