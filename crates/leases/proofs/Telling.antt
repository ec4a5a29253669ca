-- What a tenant learns of others: whether its request fits, and which slots it holds after the call; of one call, and of
-- a sequence. Assumes nothing.
use mathlib.Core.Path.{◌≡◌, refl, sym, ap, ap₂, ◌∙◌}
use mathlib.Core.Bool.{Bool, true, false}
use mathlib.Core.List.{List, [], ◌∷◌, map}
use Prim.Native.Nat.{ℕ}
use borrow.Author.Tests.{eqb-true}
use lib.Dec.{eqb}
use lib.ListN.{length}
use Rattle.bits.specs.Pick.{pick}
use Rattle.bits.specs.Row.{Row, little}
use Rattle.answer.specs.Answer.{Answer, Answer.accepted, Answer.refused, mapped}
use Rattle.answer.specs.Demand.{Demand.asks, provided}
use Rattle.answer.proofs.Chains.{passing, stopped}
use Rattle.leases.specs.Table.{row_of, slots_of, granted, returned}
use Rattle.leases.specs.Calls.{tenant, request, enough_free, ask_demands, ask_answer, ask_table, back_demands, back_answer}
use Rattle.leases.specs.Sequence.{Call, Call.ask, Call.give_back, Call.close, Event, Event.event, Fact, Fact.fact}
use Rattle.leases.specs.Sequence.{answer_to, table_after, events, is_call_of, learnt, fits, facts}
use Rattle.leases.proofs.Holding.{length-granted, length-returned, returned-slots}
use Rattle.leases.proofs.Answering.{tenant-nonzero, left-cases, same_length}

-- ---- asking

module _ (t n : ℕ) where
  -- the answer, of the table's length, of a request that fits or not, and of the slots that are the tenant's afterwards
  abbrev told_by : ℕ → Bool → Row → Answer ℕ
  told_by long fit slots =
      provided (asks 2 0 (tenant t) ∷ asks 2 0 (request n) ∷ asks 1 0 (eqb long 64) ∷ asks 21 0 fit ∷ []) (accepted (little slots))

  asking-tells : (table : List ℕ) → mapped (slots_of t) (ask_answer t n table) ≡ told_by (length table) (enough_free n table) (row_of t (ask_table t n table))
  unfolding ask_answer slots_of
  asking-tells table =
      left-cases (λ l. l) table (granted t n table) (ask_demands t n table)
      (λ l a. mapped (slots_of t) a ≡ told_by (length table) (enough_free n table) (row_of t l)) (λ m. length-granted t n table)
      (λ m. sym (passing (accepted (little (row_of t (granted t n table)))) (ask_demands t n table) m))
      (λ number place s. sym (stopped (accepted (little (row_of t table))) s))

  -- two tables of one length that agree on whether the request fits and on the tenant's slots after the call
  pub asking-tells-no-more : (a b : List ℕ) → length a ≡ length b → enough_free n a ≡ enough_free n b
      → row_of t (ask_table t n a) ≡ row_of t (ask_table t n b) → mapped (slots_of t) (ask_answer t n a) ≡ mapped (slots_of t) (ask_answer t n b)
  asking-tells-no-more a b long fit slots =
      asking-tells a ∙ ap₂ (λ (k : ℕ) (f : Bool). told_by k f (row_of t (ask_table t n a))) long fit
      ∙ ap (told_by (length b) (enough_free n b)) slots ∙ sym (asking-tells b)

-- ---- giving back tells nothing of a table

module _ (t : ℕ) where
  nothing : (table : List ℕ) → mapped (slots_of t) (back_answer t table) ≡ provided (back_demands t table) (accepted 0)
  unfolding back_answer
  nothing table =
      left-cases (λ l. l) table (returned t table) (back_demands t table) (λ l a. mapped (slots_of t) a ≡ provided (back_demands t table) (accepted 0))
      (λ m. length-returned t table)
      (λ m. ap accepted (returned-slots t (tenant-nonzero t m.0) table) ∙ sym (passing (accepted 0) (back_demands t table) m))
      (λ number place s. sym (stopped (accepted 0) s))

  pub giving-back-tells-nothing : (a b : List ℕ) → length a ≡ length b
      → mapped (slots_of t) (back_answer t a) ≡ mapped (slots_of t) (back_answer t b)
  giving-back-tells-nothing a b long =
      nothing a ∙ ap (λ (k : ℕ). provided (asks 2 0 (tenant t) ∷ asks 1 0 (eqb k 64) ∷ []) (accepted 0)) long ∙ sym (nothing b)

-- ---- a sequence: the answers to a tenant's calls are those that the facts of its calls give

-- the answer to one call, of the table's length and of a fact of it
abbrev answer_by : ℕ → Fact → Event
answer_by long (fact (ask t n) fit slots) = event (ask t n) (told_by t n long fit slots)
answer_by long (fact (give_back t) fit slots) = event (give_back t) (provided (asks 2 0 (tenant t) ∷ asks 1 0 (eqb long 64) ∷ []) (accepted 0))
answer_by long (fact (close room) fit slots) = event (close room) (refused 0 0)

module _ (t : ℕ) where
  own-call : (c : Call) (table : List ℕ) → is_call_of t c ≡ true
      → event c (answer_to c table) ≡ answer_by (length table) (fact c (fits c table) (row_of t (table_after c table)))
  own-call (ask u n) table own = rw (← eqb-true u t own) (ap (event (ask u n)) (asking-tells u n table))
  own-call (give_back u) table own = ap (event (give_back u)) (nothing u table)
  own-call (close room) table own = cc

  by-facts : (calls : List Call) (table : List ℕ) → learnt t (events table calls) ≡ map (answer_by (length table)) (facts t table calls)
  unfolding learnt events facts
  by-facts [] table = refl
  by-facts (c ∷ calls) table =
      go (is_call_of t c) refl (by-facts calls left ∙ ap (λ (k : ℕ). map (answer_by k) (facts t left calls)) (same_length c table))
    where
      left : List ℕ
      left = table_after c table

      go : (own : Bool) → is_call_of t c ≡ own → learnt t (events left calls) ≡ map (answer_by (length table)) (facts t left calls)
          → pick own (event c (answer_to c table) ∷ learnt t (events left calls)) (learnt t (events left calls))
          ≡ map (answer_by (length table)) (pick own (fact c (fits c table) (row_of t left) ∷ facts t left calls) (facts t left calls))
      go true own later = ap₂ (λ (e : Event) (es : List Event). e ∷ es) (own-call c table own) later
      go false own later = later

  -- two histories, with whatever calls of others between the tenant's own, from tables of one length: if its own calls
  -- are the same, fit alike and leave it the same slots, it gets the same answers throughout
  pub nothing-else-is-learnt : (a b : List ℕ) (calls calls' : List Call) → length a ≡ length b → facts t a calls ≡ facts t b calls'
      → learnt t (events a calls) ≡ learnt t (events b calls')
  nothing-else-is-learnt a b calls calls' long alike =
      by-facts calls a ∙ ap₂ (λ (k : ℕ) (fs : List Fact). map (answer_by k) fs) long alike ∙ sym (by-facts calls' b)
