-- A lease table: a list of slots, of which each has its tenant, or 0 where it is free. Assumes nothing.
use Rattle.std.specs.Prelude.{ℕ, zero, suc, ◌-◌, List, [], ◌∷◌, ◌++◌, map, eqb, length, replicate}
use Rattle.bits.specs.Pick.{pick}
use Rattle.bits.specs.Row.{Row, count, little}

-- ---- what a tenant holds; tenant 0 holds the free slots

-- for each slot, whether it is t's
abbrev pub row_of : ℕ → List ℕ → Row
row_of t table = map (λ x. eqb x t) table

-- how many slots are t's
unfoldable pub held_by : ℕ → List ℕ → ℕ
held_by t table = count (row_of t table)

-- the same slots as a number, slot k at weight 2 ^ k
unfoldable pub slots_of : ℕ → List ℕ → ℕ
slots_of t table = little (row_of t table)

-- ---- asking and giving back

-- the n lowest free slots are t's
unfoldable pub granted : ℕ → ℕ → List ℕ → List ℕ
granted t n [] = []
granted t zero (x ∷ table) = x ∷ table
granted t (suc n) (x ∷ table) = pick (eqb x 0) (t ∷ granted t n table) (x ∷ granted t (suc n) table)

-- all slots of t are free
unfoldable pub returned : ℕ → List ℕ → List ℕ
returned t table = map (λ x. pick (eqb x t) 0 x) table

-- ---- closing gaps

-- the tenants of the leased slots, in the order of the slots
unfoldable pub leased : List ℕ → List ℕ
leased [] = []
leased (x ∷ table) = pick (eqb x 0) (leased table) (x ∷ leased table)

-- as long as before: the leased slots, then free ones
unfoldable pub closed : List ℕ → List ℕ
closed table = leased table ++ replicate (length table - length (leased table)) 0

-- for each leased slot in order its old and its new position, where the first slot is at `old` and the first leased one
-- goes to `new`
unfoldable pub moves_from : ℕ → ℕ → List ℕ → List ℕ
moves_from old new [] = []
moves_from old new (x ∷ table) =
    pick (eqb x 0) (moves_from (suc old) new table) (old ∷ new ∷ moves_from (suc old) (suc new) table)

abbrev pub moves : List ℕ → List ℕ
moves table = moves_from 0 0 table
