-- Sequences of calls on one table: what is granted in them, by the calls and their answers alone, and what a tenant
-- learns in them. Assumes nothing.
use Rattle.std.specs.Prelude.{ℕ, ◌+◌, Bool, true, false, ◌&&◌, List, [], ◌∷◌, eqb, replicate}
use Rattle.bits.specs.Pick.{pick}
use Rattle.bits.specs.Row.{Row}
use Rattle.answer.specs.Answer.{Answer, mapped}
use Rattle.leases.specs.Table.{row_of, slots_of}
use Rattle.leases.specs.Calls.{enough_free, ask_answer, ask_table, back_answer, back_table, leased_count, close_answer, close_table}

-- a tenant asks for n slots; a tenant gives back; the house closes, with a list of so many octets for the moves
pub data Call : Type 0 where
  ask : ℕ → ℕ → Call
  give_back : ℕ → Call
  close : ℕ → Call

-- what the caller is told: a tenant its slots, the house how many are leased
abbrev pub answer_to : Call → List ℕ → Answer ℕ
answer_to (ask t n) table = mapped (slots_of t) (ask_answer t n table)
answer_to (give_back t) table = mapped (slots_of t) (back_answer t table)
answer_to (close room) table = mapped leased_count (close_answer room table)

abbrev pub table_after : Call → List ℕ → List ℕ
table_after (ask t n) table = ask_table t n table
table_after (give_back t) table = back_table t table
table_after (close room) table = close_table room table

-- 64 free slots
abbrev pub empty_table : List ℕ
empty_table = replicate 64 0

-- the table after a sequence of calls
unfoldable pub table_after_all : List ℕ → List Call → List ℕ
table_after_all table [] = table
table_after_all table (c ∷ calls) = table_after_all (table_after c table) calls

-- a call and what was told
pub data Event : Type 0 where
  event : Call → Answer ℕ → Event

-- the calls of a sequence, each with its answer
unfoldable pub events : List ℕ → List Call → List Event
events table [] = []
events table (c ∷ calls) = event c (answer_to c table) ∷ events (table_after c table) calls

-- ---- what was granted to t since its last return

abbrev pub is_accepted : Answer ℕ → Bool
is_accepted (Answer.accepted v) = true
is_accepted (Answer.refused n p) = false

-- an accepted request of t adds what it asked for, an accepted return of t starts anew, and nothing else counts
abbrev pub tallied : ℕ → ℕ → Call → Answer ℕ → ℕ
tallied t so_far (ask u n) a = pick (eqb u t && is_accepted a) (so_far + n) so_far
tallied t so_far (give_back u) a = pick (eqb u t && is_accepted a) 0 so_far
tallied t so_far (close room) a = so_far

unfoldable pub tallied_from : ℕ → ℕ → List Event → ℕ
tallied_from t so_far [] = so_far
tallied_from t so_far (event c a ∷ later) = tallied_from t (tallied t so_far c a) later

abbrev pub granted_since_return : ℕ → List Event → ℕ
granted_since_return t history = tallied_from t 0 history

-- ---- what t learns in a sequence, and what it may depend on

-- a tenant asks and gives back; closing is the house's
abbrev pub is_call_of : ℕ → Call → Bool
is_call_of t (ask u n) = eqb u t
is_call_of t (give_back u) = eqb u t
is_call_of t (close room) = false

-- its own calls, each with its answer
unfoldable pub learnt : ℕ → List Event → List Event
learnt t [] = []
learnt t (event c a ∷ later) = pick (is_call_of t c) (event c a ∷ learnt t later) (learnt t later)

-- a call of t, whether it fits, and for each slot whether it is t's after the call
pub data Fact : Type 0 where
  fact : Call → Bool → Row → Fact

-- only a request may not fit
abbrev pub fits : Call → List ℕ → Bool
fits (ask u n) table = enough_free n table
fits (give_back u) table = true
fits (close room) table = true

unfoldable pub facts : ℕ → List ℕ → List Call → List Fact
facts t table [] = []
facts t table (c ∷ calls) =
    let left = table_after c table in
    pick (is_call_of t c) (fact c (fits c table) (row_of t left) ∷ facts t left calls) (facts t left calls)
