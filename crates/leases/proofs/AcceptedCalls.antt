-- What an accepted call says and leaves, in the terms of its contract: the number in its answer, and the table at exit.
-- Assumes nothing.
use mathlib.Core.Path.{◌≡◌, sym, ap, ◌∙◌}
use mathlib.Core.Logic.{◌≢◌}
use mathlib.Core.List.{List}
use Prim.Native.Nat.{ℕ, suc, ◌+◌, ◌-◌, ◌*◌, ◌/◌, ◌^◌, ◌≤◌, ◌<◌}
use native.Mathlib.Omega.{arith}
use borrow.Author.Tests.{eqb-true, leb-true}
use lib.Count.{ones}
use lib.Dec.{eqb}
use lib.ListN.{length, get_or, replicate, get_or-append}
use Rattle.bits.specs.Row.{odd}
use Rattle.answer.specs.Answer.{Answer.accepted, mapped}
use Rattle.answer.specs.Demand.{AllMet}
use Rattle.answer.proofs.Chains.{value_of, met}
use Rattle.leases.specs.Table.{held_by, slots_of, granted, returned, leased, closed, moves}
use Rattle.leases.specs.Calls.{ask_demands, ask_answer, ask_table, back_demands, back_answer, back_table}
use Rattle.leases.specs.Calls.{leased_count, close_answer, close_table, moves_list, close_moves}
use Rattle.leases.proofs.Holding.{granted-own, granted-other, returned-own, returned-other, returned-slots, length-granted}
use Rattle.leases.proofs.Lowest.{leased-slot-stays, lowest-first, slot-bit, slots-count}
use Rattle.leases.proofs.Closing.{closing-keeps-counts, closing-keeps-order, closed-leased, closed-free, length-moves}
use Rattle.leases.proofs.Moves.{old-position, new-position, old-positions-rise}
use Rattle.leases.proofs.Answering.{tenant-nonzero, asked_is, given-back-is, closable, closed_is, moves-are}

-- ---- asking

module _ (t n : ℕ) (table : List ℕ) (slots : ℕ) (told : mapped (slots_of t) (ask_answer t n table) ≡ accepted slots) where
  ask-value : (v : List ℕ) × (ask_answer t n table ≡ accepted v) × (slots_of t v ≡ slots)
  ask-value = value_of (slots_of t) (ask_answer t n table) told

  ask-met : AllMet (ask_demands t n table) × (granted t n table ≡ ask-value.0)
  unfolding ask_answer
  ask-met = met (granted t n table) (ask_demands t n table) ask-value.1

  asker : t ≢ 0
  asker = tenant-nonzero t ask-met.0.0

  enough : n ≤ held_by 0 table
  enough = leb-true n (held_by 0 table) ask-met.0.1.1.1.0

  ask-left : ask_table t n table ≡ granted t n table
  ask-left = asked_is table t n ask-value.0 ask-value.1

  -- the number says which slots are the tenant's after the call
  pub asked-slots : slots ≡ slots_of t (ask_table t n table)
  asked-slots = sym ask-value.2 ∙ ap (slots_of t) (sym ask-met.1 ∙ sym ask-left)

  pub asked-bit : (k : ℕ) → k < 64 → odd (slots / 2 ^ k) ≡ eqb (get_or (ask_table t n table) k 0) t
  asked-bit k h =
      let long : length (ask_table t n table) ≡ 64 =
      ap length ask-left ∙ length-granted t n table ∙ eqb-true (length table) 64 ask-met.0.1.1.0 in
      rw asked-slots (slot-bit t (ask_table t n table) k (omega arith))

  -- it holds n more, and every other tenant as many as before
  pub asked-own : held_by t (ask_table t n table) ≡ held_by t table + n
  asked-own = ap (held_by t) ask-left ∙ granted-own t asker n table enough

  pub asked-count : ones slots ≡ held_by t table + n
  asked-count = ap ones asked-slots ∙ slots-count t (ask_table t n table) ∙ asked-own

  pub asked-other : (u : ℕ) → u ≢ 0 → t ≢ u → held_by u (ask_table t n table) ≡ held_by u table
  asked-other u uz ne = ap (held_by u) ask-left ∙ granted-other t asker u uz ne n table

  -- a leased slot stays its tenant's; of two free slots the higher is leased only if the lower is
  pub asked-stays : (k : ℕ) → get_or table k 0 ≢ 0 → get_or (ask_table t n table) k 0 ≡ get_or table k 0
  asked-stays k d = rw ask-left (leased-slot-stays t asker n table k d)

  pub asked-lowest : (i j : ℕ) → i < j → get_or table i 0 ≡ 0 → get_or table j 0 ≡ 0
      → get_or (ask_table t n table) j 0 ≢ 0 → get_or (ask_table t n table) i 0 ≢ 0
  asked-lowest i j l a b g = rw ask-left (lowest-first t asker n table i j l a b (rw ask-left at g))

-- ---- giving back

module _ (t : ℕ) (table : List ℕ) (slots : ℕ) (told : mapped (slots_of t) (back_answer t table) ≡ accepted slots) where
  back-value : (v : List ℕ) × (back_answer t table ≡ accepted v) × (slots_of t v ≡ slots)
  back-value = value_of (slots_of t) (back_answer t table) told

  back-met : AllMet (back_demands t table) × (returned t table ≡ back-value.0)
  unfolding back_answer
  back-met = met (returned t table) (back_demands t table) back-value.1

  giver : t ≢ 0
  giver = tenant-nonzero t back-met.0.0

  back-left : back_table t table ≡ returned t table
  back-left = given-back-is table t back-value.0 back-value.1

  -- it holds nothing and is told so, and every other tenant holds as many as before
  pub returned-none-told : slots ≡ 0
  returned-none-told = sym back-value.2 ∙ ap (slots_of t) (sym back-met.1) ∙ returned-slots t giver table

  pub gave-back-own : held_by t (back_table t table) ≡ 0
  gave-back-own = ap (held_by t) back-left ∙ returned-own t giver table

  pub gave-back-other : (u : ℕ) → u ≢ 0 → t ≢ u → held_by u (back_table t table) ≡ held_by u table
  gave-back-other u uz ne = ap (held_by u) back-left ∙ returned-other t giver u uz ne table

-- ---- closing

module _ (table old : List ℕ) (slots : ℕ) (told : mapped leased_count (close_answer (length old) table) ≡ accepted slots) where
  close-value : (v : List ℕ) × (close_answer (length old) table ≡ accepted v) × (leased_count v ≡ slots)
  close-value = value_of leased_count (close_answer (length old) table) told

  close-left : close_table (length old) table ≡ closed table
  close-left = closed_is table old close-value.0 close-value.1

  -- the number says how many slots are leased
  pub closed-slots : slots ≡ length (leased table)
  closed-slots =
      sym close-value.2 ∙ ap leased_count (sym (closable table old close-value.0 close-value.1).1)

  -- these are the slots from 0 on, and all others are free
  pub closed-are-leased : (k : ℕ) → k < slots → get_or (close_table (length old) table) k 0 ≢ 0
  closed-are-leased k h = rw close-left (closed-leased table k (rw closed-slots at h))

  pub others-are-free : (k : ℕ) → slots ≤ k → get_or (close_table (length old) table) k 0 ≡ 0
  others-are-free k h = rw close-left (closed-free table k (rw closed-slots at h))

  -- every tenant keeps its count, and the leased slots their order
  pub closed-counts : (t : ℕ) → t ≢ 0 → held_by t (close_table (length old) table) ≡ held_by t table
  closed-counts t nz = ap (held_by t) close-left ∙ closing-keeps-counts table t nz

  pub closed-order : leased (close_table (length old) table) ≡ leased table
  closed-order = ap leased close-left ∙ closing-keeps-order table

  -- pair k of the list: the old position, which rises from pair to pair, and k
  module _ (k : ℕ) (h : k < slots) where
    among : k < length (leased table)
    among = rw closed-slots at h

    in_list : (i : ℕ) → i < 2 * length (leased table) → get_or (close_moves table old) i 0 ≡ get_or (moves table) i 0
    unfolding moves_list
    in_list i l =
        rw (moves-are table old close-value.0 close-value.1)
        (get_or-append (moves table) (replicate (128 - 2 * leased_count table) 0) 0 i (rw (length-moves 0 0 table) l))

    pub told-old-position : get_or (close_table (length old) table) k 0 ≡ get_or table (get_or (close_moves table old) (2 * k) 0) 0
    told-old-position = rw (close-left, in_list (2 * k) (omega (arith, among))) (old-position table k among)

    pub told-new-position : get_or (close_moves table old) (2 * k + 1) 0 ≡ k
    told-new-position = rw (in_list (2 * k + 1) (omega (arith, among))) (new-position table k among)

    pub told-positions-rise : suc k < slots → get_or (close_moves table old) (2 * k) 0 < get_or (close_moves table old) (2 * suc k) 0
    told-positions-rise l =
        let m : suc k < length (leased table) = rw closed-slots at l in
        rw (in_list (2 * k) (omega (arith, among)), in_list (2 * suc k) (omega (arith, m))) (old-positions-rise table k m)
