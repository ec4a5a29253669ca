-- `madi_code::command_by` meets its contract. Assumes nothing.
use mathlib.Core.Path.{◌≡◌, sym, ap, ◌∙◌}
use mathlib.Core.List.{List}
use Prim.Native.Nat.{ℕ, ◌/◌, ◌%◌}
use native.Mathlib.Omega.{arith}
use borrow.Author.Tests.{eq-eqb, ne_eqb}
use lib.ListN.{get_or}
use Rattle.std.specs.Prelude.{Some, None}
use Rattle.madi_code.specs.Frame.{below}
use Rattle.madi_code.specs.Inner.{place_in, command_by}
use Rattle.madi_code.proofs.FrameLaws.{below-is}
use Rattle.madi_code.proofs.command_by.Goals as goal

-- the entry at the place
module _ (t : List ℕ) (v x : ℕ) (e : x ≡ get_or t (place_in v) 0) where
  matched : (k : ℕ) → x / 16 ≡ v → k ≡ x % 16 → Some k ≡ below 16 (command_by t v)
  unfolding command_by
  matched k q r = sym (below-is 16 (command_by t v) k (omega (arith, r)) (rw (← e, eq-eqb (x / 16) v q) (sym r)))

  unmatched : (x / 16 ≡ v → ⊥) → None ≡ below 16 (command_by t v)
  unfolding command_by
  unmatched other = rw (← e, ne_eqb (x / 16) v other)

pub returns-then-from-v : goal.returns-then-from-v
returns-then-from-v c =
    let a = c.args in
    matched a.table.now a.v (get_or a.table.now c.place_of.result 0) (ap (λ (i : ℕ). get_or a.table.now i 0) c.place_of.ensures.0) c.from-then-from-v.result
    (sym c.from.ensures ∙ c.if-from-v.true) c.from-then-from-v.ensures

pub returns-else-from-v : goal.returns-else-from-v
returns-else-from-v c =
    let a = c.args in
    unmatched a.table.now a.v (get_or a.table.now c.place_of.result 0) (ap (λ (i : ℕ). get_or a.table.now i 0) c.place_of.ensures.0)
    (λ q. c.if-from-v.false (c.from.ensures ∙ q))
