-- `block::from_bodies::lay_octets` meets its contract: the octets laid, with those that are left to lay, are all of them. Assumes
-- nothing.
use mathlib.Core.Path.{◌≡◌, sym, ◌∙◌}
use mathlib.Core.List.{List}
use Prim.Native.Nat.{ℕ, suc, ◌+◌, ◌-◌, ◌*◌, ◌/◌, ◌%◌, ◌≤◌, ◌<◌}
use native.Mathlib.Numerals.{add-one}
use native.Mathlib.Omega.{arith}
use lib.ListN.{set}
use Rattle.block.specs.Side.{columns, column_length}
use Rattle.block.specs.Inner.{laid}
use Rattle.block.proofs.from_bodies.lay_octets.Goals as goal

-- one octet more
next : (j k x : ℕ) (part : List ℕ) → k < columns
    → laid k (columns - k) j x part ≡ laid (k + 1) (columns - (k + 1)) j (x / 256) (set part (column_length * k + j) (x % 256))
unfolding laid
next j k x part h =
    let n : columns - k ≡ suc (columns - (k + 1)) = omega arith in
    rw (n, add-one k)

done : (j k x : ℕ) (part : List ℕ) → columns ≤ k → laid k (columns - k) j x part ≡ part
unfolding laid
done j k x part h =
    let n : columns - k ≡ 0 = omega arith in
    rw n

pub loop-k-preserved : goal.loop-k-preserved
loop-k-preserved c =
    let loop = c.loop-k in
    sym (next c.args.j loop.k loop.left loop.part c.loop-k-test.true) ∙ loop.invariant

pub returns : goal.returns
returns c =
    let loop = c.loop-k in
    sym (done c.args.j loop.k loop.left loop.part (omega arith)) ∙ loop.invariant
