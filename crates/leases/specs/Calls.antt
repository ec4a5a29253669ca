-- The three calls: what each answers, and what it leaves in what was lent. Assumes nothing.
use Rattle.std.specs.Prelude.{ℕ, ◌-◌, ◌*◌, Bool, ◌&&◌, List, [], ◌∷◌, ◌++◌, eqb, leb, length, replicate}
use Rattle.answer.specs.Answer.{Answer, Answer.accepted, after, rewritten}
use Rattle.answer.specs.Demand.{Demand, Demand.asks, provided}
use Rattle.leases.specs.Table.{held_by, granted, returned, leased, closed, moves}

-- 1 to 255
unfoldable pub tenant : ℕ → Bool
tenant t = leb 1 t && leb t 255

-- 1 to 64 slots
unfoldable pub request : ℕ → Bool
request n = leb 1 n && leb n 64

-- as many slots are free
abbrev pub enough_free : ℕ → List ℕ → Bool
enough_free n table = leb n (held_by 0 table)

-- ---- asking: a tenant, 1 to 64 slots (2); a table of 64 slots (1); as many free ones (21)

abbrev pub ask_demands : ℕ → ℕ → List ℕ → List Demand
ask_demands t n table =
    asks 2 0 (tenant t) ∷ asks 2 0 (request n) ∷ asks 1 0 (eqb (length table) 64) ∷ asks 21 0 (enough_free n table) ∷ []

-- the new table; of it the tenant is told which slots are its own (`slots_of`)
unfoldable pub ask_answer : ℕ → ℕ → List ℕ → Answer (List ℕ)
ask_answer t n table = provided (ask_demands t n table) (accepted (granted t n table))

-- the table afterwards: on a refusal what stood there
abbrev pub ask_table : ℕ → ℕ → List ℕ → List ℕ
ask_table t n table = rewritten (ask_answer t n table) table

-- ---- giving back: a tenant (2); a table of 64 slots (1)

abbrev pub back_demands : ℕ → List ℕ → List Demand
back_demands t table = asks 2 0 (tenant t) ∷ asks 1 0 (eqb (length table) 64) ∷ []

unfoldable pub back_answer : ℕ → List ℕ → Answer (List ℕ)
back_answer t table = provided (back_demands t table) (accepted (returned t table))

abbrev pub back_table : ℕ → List ℕ → List ℕ
back_table t table = rewritten (back_answer t table) table

-- ---- closing gaps: a table of 64 slots, and two octets of moves for each (1)

abbrev pub close_demands : ℕ → List ℕ → List Demand
close_demands room table = asks 1 0 (eqb (length table) 64) ∷ asks 1 0 (eqb room 128) ∷ []

-- the table that is closed, with a list of so many octets for the moves
unfoldable pub close_answer : ℕ → List ℕ → Answer (List ℕ)
close_answer room table = provided (close_demands room table) (accepted table)

-- how many of its slots are leased, which the house is told
abbrev pub leased_count : List ℕ → ℕ
leased_count table = length (leased table)

-- its moves, and zeros after them
unfoldable pub moves_list : List ℕ → List ℕ
moves_list table = moves table ++ replicate (128 - 2 * leased_count table) 0

abbrev pub close_table : ℕ → List ℕ → List ℕ
close_table room table = after closed (close_answer room table) table

abbrev pub close_moves : List ℕ → List ℕ → List ℕ
close_moves table old = after moves_list (close_answer (length old) table) old
