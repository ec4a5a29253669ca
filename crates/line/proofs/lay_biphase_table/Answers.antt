-- `line::lay_biphase_table` meets its contract: what is copied is the table. Assumes nothing.
use mathlib.Core.Path.{sym, ◌∙◌}
use borrow.Author.Tests.{eq-eqb, ne_eqb}
use Rattle.answer.specs.Demand.{◌&◌}
use Rattle.answer.specs.Demand.Stops.{fails}
use Rattle.answer.proofs.Residues.{shows-refusal, shows-acceptance}
use Rattle.line.specs.Biphase.{table_laid}
use Rattle.line.proofs.BiphaseByOctet.{length-table}
use Rattle.line.proofs.lay_biphase_table.Goals as goal

pub returns-then-out-ne256 : goal.returns-then-out-ne256
unfolding table_laid
returns-then-out-ne256 c =
    let both = shows-refusal _ _ _ _ (fails (ne_eqb _ 256 c.if-out-ne256.true)) in
    record { result_value = both.0; out_after = both.1 }

pub returns : goal.returns
unfolding table_laid
returns c =
    let room = c.if-out-ne256.false in
    let both = shows-acceptance _ _ _ _ _ (eq-eqb _ 256 room & tt) (length-table ∙ sym room)
    (c.copy_from_slice.ensures.after ∙ c.biphase_codings.ensures) in
    record { result_value = both.0; out_after = both.1 }
