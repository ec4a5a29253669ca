-- `levels::start` meets its contract. Assumes nothing.
use mathlib.Core.Path.{◌≡◌, refl, sym, ◌∙◌}
use borrow.Author.Tests.{eq-eqb, ne_eqb}
use Rattle.std.specs.Prelude.{None}
use mathlib.Core.List.{◌++◌}
use Rattle.bits.specs.Listed.{listed}
use Rattle.answer.specs.Demand.{◌&◌}
use Rattle.answer.specs.Demand.Stops.{fails}
use Rattle.answer.proofs.Residues.{shows-refusal, shows-acceptance}
use Rattle.levels.specs.Lines.{empty_sheet}
use Rattle.levels.specs.Calls.{start_answer}
use Rattle.levels.specs.Inner.{channel_lines}
use Rattle.levels.proofs.Places.{length-empty}
use Rattle.levels.proofs.start.Goals as goal

nothing-in-both : channel_lines None ++ channel_lines None ≡ empty_sheet
unfolding empty_sheet listed
nothing-in-both = refl

pub returns-then-sheet-ne20 : goal.returns-then-sheet-ne20
unfolding start_answer
returns-then-sheet-ne20 c =
    let both = shows-refusal _ _ _ _ (fails (ne_eqb _ 20 c.if-sheet-ne20.true)) in
    record { result_value = both.0; sheet_after = both.1 }

pub returns : goal.returns
unfolding start_answer
returns c =
    let n = c.if-sheet-ne20.false in
    let both = shows-acceptance _ _ _ _ _ (eq-eqb _ 20 n & tt) (length-empty ∙ sym n) (c.write.ensures ∙ nothing-in-both) in
    record { result_value = both.0; sheet_after = both.1 }
