-- `report::put_refusals` meets its contract. Assumes nothing.
use native.Mathlib.Omega.{arith}
use borrow.Author.Rules.{rules}
use Rattle.report.proofs.NightLaws.{refusals-start, refusals-on, refusals-all}
use Rattle.report.proofs.put_refusals.Goals as goal

pub loop-n-init : goal.loop-n-init
loop-n-init c = (search rules, search rules, search rules, search rules, refusals-start _ _ _ _)

pub loop-n-preserved : goal.loop-n-preserved
loop-n-preserved c =
    let l = c.loop-n in (
      search rules,
      search rules,
      omega (arith, c.put_refused-at.ensures.put.ends),
      search rules,
      refusals-on _ _ _ _ (search rules) (search rules) l.invariant.4 c.put_refused-at.ensures.put,
    )

pub returns : goal.returns
returns c = record { put = refusals-all _ _ _ _ (omega arith) c.loop-n.invariant.4; end_bound = search rules }
