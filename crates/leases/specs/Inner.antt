-- What inner functions of closing go by. Assumes nothing.
use Rattle.std.specs.Prelude.{ℕ, ◌-◌, ◌*◌, ◌≤◌, ◌≡◌, List, ◌++◌, length, take, replicate}
use Rattle.leases.specs.Table.{leased, moves}

-- a list with zeros from a place on
unfoldable pub zeroed_from : ℕ → List ℕ → List ℕ
zeroed_from at xs = take at xs ++ replicate (length xs - at) 0

-- of the table at entry: r slots are leased, and stand in front of the table at exit; the moves stand in front of their
-- list
pub record Moved (at_entry at_exit moves_at_exit : List ℕ) (r : ℕ) : Type 0 where
  pub as_many : r ≡ length (leased at_entry)
  pub few : r ≤ 64
  pub in-front : take r at_exit ≡ leased at_entry
  pub told : take (2 * r) moves_at_exit ≡ moves at_entry
