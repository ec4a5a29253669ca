-- `leases::grant` meets its contract: what is done stands in front, and granting in the rest gives the whole. Assumes
-- nothing.
use mathlib.Core.Path.{refl, ap, ◌∙◌}
use Prim.Native.Nat.{ℕ}
use native.Mathlib.Omega.{arith}
use lib.ListN.{get_or, drop}
use lib.Seq.{set-get_or}
use Rattle.leases.specs.Table.{granted}
use Rattle.leases.proofs.Holding.{granted-none, granted-nowhere}
use Rattle.leases.proofs.Turns.{done-early, all_done, changed, grants, passes}
use Rattle.leases.proofs.grant.Goals as goal
use Rattle.leases.proofs.grant.Goals.{then-x-eq0, else-x-eq0}

pub loop-x-init : goal.loop-x-init
loop-x-init c = record { as_long = refl; within = omega arith; to-do = refl }

pub returns-then-left-eq0 : goal.returns-then-left-eq0
returns-then-left-eq0 c =
    let a = c.args in
    let v = c.loop-x in
    let rest = drop v.x-index v.table in
    set-get_or v.table v.x-index 0
    ∙ done-early v.invariant (ap (λ (k : ℕ). granted a.t k rest) c.if-left-eq0.true ∙ granted-none a.t rest)

pub loop-x-preserved : goal.loop-x-preserved
loop-x-preserved c =
    let t = c.args.t in
    let v = c.loop-x in
    let x = get_or v.table v.x-index 0 in
    let n = c.if-x-eq0.left in
    let some = c.if-left-eq0.false in
    elim c.if-x-eq0.branch [
      | then-x-eq0 w ↦ changed v.invariant (granted t n) (omega arith) t w.table-is (λ rest. grants t v.left n x some rest w.if-x-eq0.true w.left-is)
      | else-x-eq0 w ↦
          changed v.invariant (granted t n) (omega arith) x w.table-is (λ rest. passes t v.left n x some rest w.if-x-eq0.false w.left-is)
    ]

pub returns : goal.returns
returns c = all_done c.loop-x.invariant (granted-nowhere c.args.t c.loop-x.left) (omega arith)
