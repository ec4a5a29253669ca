-- Over any sequence of calls a tenant's slots are as many as were granted to it since its last return. Assumes nothing.
use mathlib.Core.Path.{◌≡◌, refl, sym, ap, ◌∙◌}
use mathlib.Core.Logic.{◌≢◌}
use mathlib.Core.Bool.{Bool, true, false, ◌&&◌}
use mathlib.Core.List.{List, [], ◌∷◌}
use Prim.Native.Nat.{ℕ, ◌+◌, ◌≤◌}
use borrow.Author.Tests.{eq-eqb, ne_eqb, leb-true}
use lib.Dec.{eqb}
use lib.ListN.{length}
use Rattle.bits.specs.Pick.{pick}
use Rattle.answer.specs.Answer.{mapped}
use Rattle.leases.specs.Table.{held_by, slots_of, granted, returned, closed}
use Rattle.leases.specs.Calls.{tenant, ask_demands, ask_answer, ask_table, back_demands, back_answer, back_table, close_demands, close_answer, close_table}
use Rattle.leases.specs.Sequence.{Call, Call.ask, Call.give_back, Call.close, answer_to, table_after}
use Rattle.leases.specs.Sequence.{empty_table, table_after_all, events, is_accepted, tallied, tallied_from, granted_since_return}
use Rattle.leases.proofs.Holding.{own-or-other, held-free, granted-own, granted-other, returned-own, returned-other, length-granted, length-returned}
use Rattle.leases.proofs.Closing.{length-closed, closing-keeps-counts}
use Rattle.leases.proofs.Answering.{tenant-nonzero, left-cases, same_length}

-- what was not accepted does not count
not-counted : (b : Bool) (x y : ℕ) → pick (b && false) x y ≡ y
not-counted true x y = refl
not-counted false x y = refl

module _ (t : ℕ) (nz : t ≢ 0) where
  -- ---- one call

  module _ (u : ℕ) (table : List ℕ) where
    asked : (n : ℕ) → held_by t (ask_table u n table) ≡ pick (eqb u t && is_accepted (mapped (slots_of u) (ask_answer u n table))) (held_by t table + n) (held_by t table)
    unfolding ask_answer
    asked n =
        left-cases (λ l. l) table (granted u n table) (ask_demands u n table)
        (λ l a. held_by t l ≡ pick (eqb u t && is_accepted (mapped (slots_of u) a)) (held_by t table + n) (held_by t table)) (λ m. length-granted u n table)
        (λ m. taken (tenant-nonzero u m.0) (leb-true n (held_by 0 table) m.1.1.1.0))
        (λ number place s. sym (not-counted (eqb u t) (held_by t table + n) (held_by t table)))
      where
        taken : u ≢ 0 → n ≤ held_by 0 table → held_by t (granted u n table) ≡ pick (eqb u t && true) (held_by t table + n) (held_by t table)
        taken uz h =
            own-or-other u t
            (λ e. rw (eq-eqb u t e) (rw e (granted-own t nz n table h)))
            (λ d. rw (ne_eqb u t d) (granted-other u uz t nz d n table))

    gave : held_by t (back_table u table) ≡ pick (eqb u t && is_accepted (mapped (slots_of u) (back_answer u table))) 0 (held_by t table)
    unfolding back_answer
    gave =
        left-cases (λ l. l) table (returned u table) (back_demands u table)
        (λ l a. held_by t l ≡ pick (eqb u t && is_accepted (mapped (slots_of u) a)) 0 (held_by t table)) (λ m. length-returned u table)
        (λ m. taken (tenant-nonzero u m.0)) (λ number place s. sym (not-counted (eqb u t) 0 (held_by t table)))
      where
        taken : u ≢ 0 → held_by t (returned u table) ≡ pick (eqb u t && true) 0 (held_by t table)
        taken uz =
            own-or-other u t
            (λ e. rw (eq-eqb u t e) (rw e (returned-own t nz table)))
            (λ d. rw (ne_eqb u t d) (returned-other u uz t nz d table))

  house-closed : (room : ℕ) (table : List ℕ) → held_by t (close_table room table) ≡ held_by t table
  unfolding close_answer
  house-closed room table =
      left-cases closed table table (close_demands room table) (λ l a. held_by t l ≡ held_by t table) (λ m. length-closed table)
      (λ m. closing-keeps-counts table t nz) (λ number place s. refl)

  one-call : (c : Call) (table : List ℕ) → held_by t (table_after c table) ≡ tallied t (held_by t table) c (answer_to c table)
  one-call (ask u n) table = asked u table n
  one-call (give_back u) table = gave u table
  one-call (close room) table = house-closed room table

  -- ---- a sequence

  from-any-table : (calls : List Call) (table : List ℕ) → held_by t (table_after_all table calls) ≡ tallied_from t (held_by t table) (events table calls)
  unfolding table_after_all events tallied_from
  from-any-table [] table = refl
  from-any-table (c ∷ calls) table =
      from-any-table calls (table_after c table) ∙ ap (λ (k : ℕ). tallied_from t k (events (table_after c table) calls)) (one-call c table)

stays : (calls : List Call) (table : List ℕ) → length (table_after_all table calls) ≡ length table
unfolding table_after_all
stays [] table = refl
stays (c ∷ calls) table = stays calls (table_after c table) ∙ same_length c table

-- ---- the promises

pub slots-are-those-granted : (t : ℕ) → tenant t ≡ true → (calls : List Call)
    → held_by t (table_after_all empty_table calls) ≡ granted_since_return t (events empty_table calls)
slots-are-those-granted t h calls =
    let nz = tenant-nonzero t h in
    from-any-table t nz calls empty_table ∙ ap (λ (k : ℕ). tallied_from t k (events empty_table calls)) (held-free t nz 64)

pub always-64-slots : (calls : List Call) → length (table_after_all empty_table calls) ≡ 64
always-64-slots calls = stays calls empty_table
