-- `leases::release` meets its contract: what is done stands in front, and returning the rest gives the whole. Assumes
-- nothing.
use mathlib.Core.Path.{refl}
use native.Mathlib.Omega.{arith}
use borrow.Author.Tests.{eq-eqb, ne_eqb}
use lib.ListN.{get_or}
use Rattle.leases.specs.Table.{returned}
use Rattle.leases.proofs.Turns.{all_done, changed}
use Rattle.leases.proofs.release.Goals as goal
use Rattle.leases.proofs.release.Goals.{then-holder-t, else-holder-t}

pub loop-holder-preserved : goal.loop-holder-preserved
unfolding returned
loop-holder-preserved c =
    let t = c.args.t in
    let v = c.loop-holder in
    elim c.if-holder-t.branch [
      | then-holder-t w ↦ changed v.invariant (returned t) (omega arith) 0 w.table-is (λ rest. rw (eq-eqb _ _ w.if-holder-t.true))
      | else-holder-t w ↦
          changed v.invariant (returned t) (omega arith) (get_or v.table v.holder-index 0) w.table-is (λ rest. rw (ne_eqb _ _ w.if-holder-t.false))
    ]

pub returns : goal.returns
unfolding returned
returns c = all_done c.loop-holder.invariant refl (omega arith)
