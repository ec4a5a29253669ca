-- `block::length::mask_of` meets its contract: nothing is declared, or by the cases of the meaning. Assumes nothing.
use mathlib.Core.Path.{sym, ap, ◌∙◌}
use Rattle.status.specs.declared.Use.TheVariants.{Professional}
use Rattle.block.specs.Inner.{mask_under}
use Rattle.block.proofs.LengthLaws.{mask-undeclared}
use Rattle.block.proofs.length.mask_of.Goals as goal

pub returns-then-byte2-eq0 : goal.returns-then-byte2-eq0
returns-then-byte2-eq0 c =
    let a = c.args in
    sym (mask-undeclared a.byte0 a.byte1 a.byte2 c.if-byte2-eq0.true)

pub returns-in-Professional-LinearPcm : goal.returns-in-Professional-LinearPcm
unfolding mask_under
returns-in-Professional-LinearPcm c =
    c.mask_with.ensures
    ∙ ap mask_under (sym (c.in-Professional-LinearPcm.is ∙ ap Professional c.in-Professional-LinearPcm.field-0-is) ∙ c.meaning.ensures)

pub returns-in-Professional-OtherPurpose : goal.returns-in-Professional-OtherPurpose
unfolding mask_under
returns-in-Professional-OtherPurpose c =
    ap mask_under (sym (c.in-Professional-OtherPurpose.is ∙ ap Professional c.in-Professional-OtherPurpose.field-0-is) ∙ c.meaning.ensures)

pub returns-in-Consumer : goal.returns-in-Consumer
unfolding mask_under
returns-in-Consumer c = ap mask_under (sym c.in-Consumer.is ∙ c.meaning.ensures)
