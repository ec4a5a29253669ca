-- `aes3_hunt::align` meets its contract: octet by octet, eight symbols from the position on. Assumes nothing.
use mathlib.Core.Path.{refl, sym, ◌∙◌}
use Prim.Native.Nat.{◌+◌, ◌*◌}
use native.Mathlib.Omega.{arith}
use borrow.Author.Tests.{eq-eqb, ne_eqb, le-leb, lt-leb}
use Rattle.bits.proofs.Filling.{over-all}
use Rattle.answer.specs.Demand.{◌&◌}
use Rattle.answer.specs.Demand.Stops.{fails, later}
use Rattle.answer.proofs.Residues.{shows-refusal, shows-acceptance}
use Rattle.aes3_hunt.specs.Align.{block_from, aligned}
use Rattle.aes3_hunt.proofs.AlignLaws.{length_from, octet-fits, octet-more}
use Rattle.aes3_hunt.proofs.align.Goals as goal

pub returns-then-block-ne3072 : goal.returns-then-block-ne3072
unfolding aligned
returns-then-block-ne3072 c =
    let both = shows-refusal _ _ _ _ (fails (ne_eqb _ 3072 c.if-block-ne3072.true)) in
    record { result_value = both.0; block_after = both.1 }

pub returns-then-line-gt8192 : goal.returns-then-line-gt8192
unfolding aligned
returns-then-line-gt8192 c =
    let both = shows-refusal _ _ _ _ (later (eq-eqb _ 3072 c.if-block-ne3072.false) (fails (lt-leb _ 8192 c.if-line-gt8192.true))) in
    record { result_value = both.0; block_after = both.1 }

pub returns-then-line-from : goal.returns-then-line-from
unfolding aligned
returns-then-line-from c =
    let both = shows-refusal _ _ _ _
    (later (eq-eqb _ 3072 c.if-block-ne3072.false)
    (later (le-leb _ 8192 c.if-line-gt8192.false) (fails (lt-leb _ _ c.if-line-from.true)))) in
    record { result_value = both.0; block_after = both.1 }

pub loop-j-init : goal.loop-j-init
loop-j-init c = refl

pub overflow_cast-octet : goal.overflow_cast-octet
overflow_cast-octet c =
    let a = c.args in
    omega (arith, octet-fits a.line.now (a.position + c.loop-j.j * 8) c.load.ensures)

pub loop-j-preserved : goal.loop-j-preserved
loop-j-preserved c =
    let l = c.loop-j in
    let a = c.args in
    octet-more a.line.now a.position a.block.now l.j c.if-block-ne3072.false (omega arith) l.invariant c.load.ensures

pub returns : goal.returns
unfolding aligned
returns c =
    let l = c.loop-j in
    let a = c.args in
    let n = length_from a.line.now a.position in
    let room = c.if-block-ne3072.false in
    let both = shows-acceptance _ _ _ _ _ (eq-eqb _ 3072 room & le-leb _ 8192 c.if-line-gt8192.false & le-leb _ _ c.if-line-from.false & tt) (n ∙ sym room)
    (l.invariant ∙ over-all l.j (block_from a.line.now a.position) a.block.now (omega (arith, n)) (omega arith)) in
    record { result_value = both.0; block_after = both.1 }
