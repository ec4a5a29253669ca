-- `leases::count_of` meets its contract: what is counted and what is left are the whole. Assumes nothing.
use mathlib.Core.Path.{◌≡◌, ap, ◌∙◌}
use mathlib.Core.Logic.{◌≢◌}
use mathlib.Core.List.{List}
use Prim.Native.Nat.{ℕ, suc, ◌+◌, ◌≤◌, ◌<◌}
use native.Mathlib.Numerals.{add-one}
use native.Mathlib.Omega.{arith}
use lib.ListN.{length, get_or, drop, drop_of_length-le}
use lib.Seq.{drop-cons}
use Rattle.bits.specs.Row.{count}
use Rattle.leases.specs.Table.{held_by}
use Rattle.leases.proofs.Holding.{held-own, held-other}
use Rattle.leases.proofs.count_of.Goals as goal
use Rattle.leases.proofs.count_of.Goals.{then-x-t, else-x-t}

-- one slot more
module _ (t n i : ℕ) (table : List ℕ) (h : i < length table) (e : n + held_by t (drop i table) ≡ held_by t table) where
  next : held_by t (drop (i + 1) table) ≡ held_by t (drop (suc i) table)
  next = ap (λ (k : ℕ). held_by t (drop k table)) (add-one i)

  own : get_or table i 0 ≡ t → n + 1 + held_by t (drop (i + 1) table) ≡ held_by t table
  own q = omega (arith, e, next, ap (held_by t) (drop-cons table i 0 h), held-own t (get_or table i 0) (drop (suc i) table) q)

  other : get_or table i 0 ≢ t → n + held_by t (drop (i + 1) table) ≡ held_by t table
  other d = omega (arith, e, next, ap (held_by t) (drop-cons table i 0 h), held-other t (get_or table i 0) (drop (suc i) table) d)

none_left : (t n i : ℕ) (table : List ℕ) → length table ≤ i → n + held_by t (drop i table) ≡ held_by t table → n ≡ held_by t table
unfolding held_by count
none_left t n i table h e = omega (arith, ap (held_by t) (drop_of_length-le table {i = i} h))

pub loop-x-preserved : goal.loop-x-preserved
loop-x-preserved c =
    let t = c.args.t in
    let table : List ℕ = c.args.table.now in
    let v = c.loop-x in
    elim c.if-x-t.branch [
      | then-x-t w ↦ (
        omega (arith, w.n-is),
        ap (λ (k : ℕ). k + held_by t (drop (v.x-index + 1) table)) w.n-is
            ∙ own t v.n v.x-index table (omega arith) v.invariant.1 w.if-x-t.true,
      )
      | else-x-t w ↦ (
        omega (arith, w.n-is),
        ap (λ (k : ℕ). k + held_by t (drop (v.x-index + 1) table)) w.n-is
            ∙ other t v.n v.x-index table (omega arith) v.invariant.1 w.if-x-t.false,
      )
    ]

pub returns : goal.returns
returns c = c.from.ensures ∙ none_left c.args.t c.loop-x.n c.loop-x.x-index c.args.table.now (omega arith) c.loop-x.invariant.1
