-- `madi_write::store` meets its contract: one octet more is new with each turn. Assumes nothing.
use mathlib.Core.Path.{◌≡◌}
use mathlib.Core.List.{List}
use Prim.Native.Nat.{ℕ, ◌+◌, ◌*◌, ◌-◌, ◌/◌, ◌%◌, ◌^◌, ◌≤◌, ◌<◌}
use lib.ListN.{length, get_or}
use Rattle.bits.proofs.Filling.{over}
use Rattle.madi_write.proofs.store.Given as goal

-- the octets before j + i are new
abbrev pub Grown : ℕ → ℕ → ℕ → ℕ → List ℕ → List ℕ → Type 0
Grown j y n i at_entry line =
    (new old : List ℕ) → j + n ≤ length new → j + n ≤ length old → ((i : ℕ) → i < n → get_or new (j + i) 0 ≡ y / 2 ^ (32 - 8 * i) % 256)
    → at_entry ≡ over j new old → line ≡ over (j + i) new old

abbrev pub invariant-loop-i : goal.invariant-loop-i
invariant-loop-i l = Grown l.j l.y l.n l.i l.initial.line l.line
