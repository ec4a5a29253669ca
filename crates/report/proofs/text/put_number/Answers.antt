-- `report::text::put_number` meets its contract. Assumes nothing.
use Rattle.report.proofs.TextLaws.{spelling-starts, spelled_out, spelled-last, spelled-on}
use native.Mathlib.Omega.{arith}
use borrow.Author.Rules.{rules}
use Rattle.report.proofs.text.put_number.Goals as goal

pub loop-left-init : goal.loop-left-init
loop-left-init c = spelling-starts c.args.out.now c.args.end c.args.n (omega arith) (omega arith)

pub returns-then-rest-eq0 : goal.returns-then-rest-eq0
returns-then-rest-eq0 c =
    let l = c.loop-left in
    let a = c.args in
    record { put = spelled-last a.out.now a.end a.n (omega arith) (omega arith) l.invariant (omega arith) c.if-rest-eq0.true; end_bound = search rules }

pub loop-left-preserved : goal.loop-left-preserved
loop-left-preserved c =
    let l = c.loop-left in
    let a = c.args in
    spelled-on a.out.now a.end a.n (omega arith) (omega arith) l.invariant (omega arith) c.if-rest-eq0.false

pub returns : goal.returns
returns c =
    let l = c.loop-left in
    let a = c.args in
    record { put = spelled_out a.out.now a.end a.n (omega arith) (omega arith) l.invariant (omega arith); end_bound = search rules }
