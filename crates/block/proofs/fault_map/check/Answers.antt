-- `block::fault_map::check` meets its contract: where nothing was counted nothing is found. Assumes nothing.
use mathlib.Core.Path.{sym, ◌∙◌}
use native.Mathlib.Omega.{arith}
use Rattle.block.specs.Check.{faulty}
use Rattle.block.specs.Inner.{faults_checked}
use Rattle.block.proofs.CheckLaws.{hit, miss}
use Rattle.block.proofs.Faults.{none-set}
use Rattle.block.proofs.fault_map.check.Goals as goal

pub returns-then-faults_count-eq0 : goal.returns-then-faults_count-eq0
unfolding faults_checked
returns-then-faults_count-eq0 c =
    miss 20 (faulty c.args.side.now) 384 384 (none-set c.args.side.now (sym c.faults_count.ensures ∙ c.if-faults_count-eq0.true)) (omega arith)

pub returns-then-is_faulty : goal.returns-then-is_faulty
unfolding faults_checked
returns-then-is_faulty c =
    hit 20 (faulty c.args.side.now) 384 c.loop-i.i c.loop-i.invariant c.loop-i-test.true (sym c.is_faulty.ensures ∙ c.if-is_faulty.true)

pub returns : goal.returns
unfolding faults_checked
returns c = miss 20 (faulty c.args.side.now) 384 c.loop-i.i c.loop-i.invariant c.loop-i-test.false
