-- What each call leaves, by its answer; 21; and what follows of refusals. Assumes nothing.
use mathlib.Core.Path.{◌≡◌, refl, sym, ap, subst⁻¹, ◌∙◌}
use mathlib.Core.Logic.{◌≢◌}
use mathlib.Core.Bool.{true}
use mathlib.Core.List.{List, [], ◌∷◌}
use Prim.Native.Nat.{ℕ, ◌-◌, ◌*◌, ◌≤◌, ◌<◌}
use native.Mathlib.Omega.{arith}
use borrow.Author.Tests.{eq-eqb, eqb-true, lt-leb, leb-true, leb-false}
use lib.Dec.{leb}
use lib.ListN.{length, replicate, length-append, length-replicate}
use Rattle.bits.proofs.Tests.{both_true}
use Rattle.answer.specs.Answer.{Answer, Answer.accepted, Answer.refused, mapped, after}
use Rattle.answer.specs.Demand.{Demand, Demand.asks, provided, AllMet, Stops, ◌&◌}
use Rattle.answer.specs.Demand.Stops.{fails, later}
use Rattle.answer.proofs.Chains.{not-both, met, stops, passing, stopped, beyond}
use Rattle.answer.proofs.Residues.{whole}
use Rattle.leases.specs.Table.{held_by, granted, returned, closed, moves}
use Rattle.leases.specs.Calls.{tenant, request, enough_free, ask_demands, ask_answer, ask_table, back_demands, back_answer, back_table}
use Rattle.leases.specs.Calls.{leased_count, close_demands, close_answer, close_table, moves_list, close_moves}
use Rattle.leases.specs.Sequence.{Call, Call.ask, Call.give_back, Call.close, answer_to, table_after}
use Rattle.leases.proofs.Holding.{length-granted, length-returned, returned-none}
use Rattle.leases.proofs.Closing.{leased-le, length-closed, length-moves}

pub tenant-nonzero : (t : ℕ) → tenant t ≡ true → t ≢ 0
unfolding tenant
tenant-nonzero t h z = let l : 1 ≤ t = leb-true 1 t (both_true (leb 1 t) (leb t 255) h).0 in omega arith

pub tenant-octet : (t : ℕ) → tenant t ≡ true → t ≤ 255
unfolding tenant
tenant-octet t h = leb-true t 255 (both_true (leb 1 t) (leb t 255) h).1

-- ---- a list that is written whole or not at all

module _ {A : Type 0} (new : A → List ℕ) (old : List ℕ) (v : A) (ds : List Demand) where
  -- what is left, and what is answered, if all demands are met, and if not
  pub left-cases {ℓ} : (P : List ℕ → Answer A → Type ℓ) → (AllMet ds → length (new v) ≡ length old) → (AllMet ds → P (new v) (accepted v))
      → ((number place : ℕ) → Stops ds number place → P old (refused number place))
      → P (after new (provided ds (accepted v)) old) (provided ds (accepted v))
  left-cases P long Met-all not-met = go (provided ds (accepted v)) refl
    where
      go : (a : Answer A) → provided ds (accepted v) ≡ a → P (after new a old) a
      go (accepted w) e =
          let m = met v ds e in
          subst⁻¹ (λ (u : A). P (after new (accepted u) old) (accepted u)) (sym m.1)
          (subst⁻¹ (λ (l : List ℕ). P l (accepted v)) (whole new v old (long m.0)) (Met-all m.0))
      go (refused number place) e = not-met number place (stops v ds number place e)

-- what was told as a refusal left all as it was
kept_by : {A : Type 0} (values : A → ℕ) (new : A → List ℕ) (a : Answer A) (old : List ℕ) (number place : ℕ)
    → mapped values a ≡ refused number place → after new a old ≡ old
kept_by values new (accepted v) old number place e = not-both (sym e)
kept_by values new (refused n p) old number place e = refl

pub length-list : (table : List ℕ) → length table ≡ 64 → length (moves_list table) ≡ 128
unfolding moves_list
length-list table e =
    length-append (moves table) (replicate (128 - 2 * leased_count table) 0)
    ∙ omega (arith, length-moves 0 0 table, length-replicate {A = ℕ} (128 - 2 * leased_count table) 0, leased-le table)

-- ---- accepted calls

module _ (table : List ℕ) where
  pub asked_is : (t n : ℕ) (v : List ℕ) → ask_answer t n table ≡ accepted v → ask_table t n table ≡ granted t n table
  unfolding ask_answer
  asked_is t n v e =
      let m = met (granted t n table) (ask_demands t n table) e in
      ap (λ a. after (λ l. l) a table) (e ∙ ap accepted (sym m.1)) ∙ whole (λ l. l) (granted t n table) table (length-granted t n table)

  pub given-back-is : (t : ℕ) (v : List ℕ) → back_answer t table ≡ accepted v → back_table t table ≡ returned t table
  unfolding back_answer
  given-back-is t v e =
      let m = met (returned t table) (back_demands t table) e in
      ap (λ a. after (λ l. l) a table) (e ∙ ap accepted (sym m.1)) ∙ whole (λ l. l) (returned t table) table (length-returned t table)

  module _ (old v : List ℕ) (e : close_answer (length old) table ≡ accepted v) where
    pub closable : AllMet (close_demands (length old) table) × (table ≡ v)
    unfolding close_answer
    closable = met table (close_demands (length old) table) e

    pub closed_is : close_table (length old) table ≡ closed table
    closed_is =
        ap (λ a. after closed a table) (e ∙ ap accepted (sym closable.1)) ∙ whole closed table table (length-closed table)

    pub moves-are : close_moves table old ≡ moves_list table
    moves-are =
        ap (λ a. after moves_list a old) (e ∙ ap accepted (sym closable.1))
        ∙ whole moves_list table old
        (length-list table (eqb-true (length table) 64 closable.0.0) ∙ sym (eqb-true (length old) 128 closable.0.1.0))

-- ---- the promises

-- a refusal leaves the table as it was
pub refusal-leaves-the-table : (c : Call) (table : List ℕ) (number place : ℕ) → answer_to c table ≡ refused number place
    → table_after c table ≡ table
refusal-leaves-the-table (ask t n) table number place e = kept_by _ (λ l. l) (ask_answer t n table) table number place e
refusal-leaves-the-table (give_back t) table number place e = kept_by _ (λ l. l) (back_answer t table) table number place e
refusal-leaves-the-table (close room) table number place e = kept_by _ closed (close_answer room table) table number place e

-- 21 exactly if fewer than n slots are free
module _ (t n : ℕ) (table : List ℕ) (one : tenant t ≡ true) (some : request n ≡ true) (long : length table ≡ 64) where
  pub too-few-free-is-21 : held_by 0 table < n → ask_answer t n table ≡ refused 21 0
  unfolding ask_answer
  too-few-free-is-21 h =
      stopped (accepted (granted t n table)) (later one (later some (later (eq-eqb (length table) 64 long) (fails (lt-leb n (held_by 0 table) h)))))

  pub only-too-few-free-is-21 : ask_answer t n table ≡ refused 21 0 → held_by 0 table < n
  unfolding ask_answer
  only-too-few-free-is-21 e =
      last (beyond (eq-eqb (length table) 64 long) (beyond some (beyond one (stops (granted t n table) (ask_demands t n table) 21 0 e))))
    where
      last : Stops (asks 21 0 (enough_free n table) ∷ []) 21 0 → held_by 0 table < n
      last (fails f) = leb-false n (held_by 0 table) f
      last (later _ x10) = elim x10 [ ]

-- giving back with no slots is accepted and changes nothing
pub giving-back-nothing : (t : ℕ) (table : List ℕ) → tenant t ≡ true → length table ≡ 64 → held_by t table ≡ 0
    → (back_answer t table ≡ accepted table) × (back_table t table ≡ table)
unfolding back_answer
giving-back-nothing t table one long none =
    let e : back_answer t table ≡ accepted (returned t table) =
    passing (accepted (returned t table)) (back_demands t table) (one & eq-eqb (length table) 64 long & tt) in
    let r : returned t table ≡ table = returned-none t table none in
    (e ∙ ap accepted r, given-back-is table t (returned t table) e ∙ r)

-- no call makes the table longer or shorter
pub same_length : (c : Call) (table : List ℕ) → length (table_after c table) ≡ length table
unfolding ask_answer back_answer close_answer
same_length (ask t n) table =
    left-cases (λ l. l) table (granted t n table) (ask_demands t n table) (λ l a. length l ≡ length table) (λ m. length-granted t n table)
    (λ m. length-granted t n table) (λ number place s. refl)
same_length (give_back t) table =
    left-cases (λ l. l) table (returned t table) (back_demands t table) (λ l a. length l ≡ length table) (λ m. length-returned t table)
    (λ m. length-returned t table) (λ number place s. refl)
same_length (close room) table =
    left-cases closed table table (close_demands room table) (λ l a. length l ≡ length table) (λ m. length-closed table)
    (λ m. length-closed table) (λ number place s. refl)
