-- `report::print` meets its contract. Assumes nothing.
use mathlib.Core.List.{[]}
use Rattle.answer.specs.Answer.{Answer.refused}
use Rattle.report.specs.Text.{cut_line, line_of}
use Rattle.report.specs.Report.{going, printed_for}
use Rattle.report.proofs.Steps.{prints-turn, ends}
use Rattle.report.proofs.print.Goals as goal

pub returns-in-End : goal.returns-in-End
unfolding printed_for
returns-in-End c =
    let s = c.args in
    let both = prints-turn s.n s.head.now s.body.now s.out.now c.turn_after.ensures c.in-End.is
    (ends c.in-End.count [] s.out.now (c.count_line.ensures.value, c.count_line.ensures.out_after)) in
    record { value = both.0; out_after = both.1 }

pub returns-in-Cut : goal.returns-in-Cut
unfolding printed_for
returns-in-Cut c =
    let s = c.args in
    let both = prints-turn s.n s.head.now s.body.now s.out.now c.turn_after.ensures c.in-Cut.is
    (ends c.in-Cut.count cut_line s.out.now (c.cut_short.ensures.value, c.cut_short.ensures.out_after)) in
    record { value = both.0; out_after = both.1 }

pub returns-in-Long : goal.returns-in-Long
unfolding printed_for
returns-in-Long c =
    let s = c.args in
    let both = prints-turn s.n s.head.now s.body.now s.out.now c.turn_after.ensures c.in-Long.is
    (ends c.in-Long.count (line_of c.in-Long.count (refused 2 0)) s.out.now (c.too_long.ensures.value, c.too_long.ensures.out_after)) in
    record { value = both.0; out_after = both.1 }

pub returns-in-Record : goal.returns-in-Record
unfolding printed_for going
returns-in-Record c =
    let s = c.args in
    let both = prints-turn s.n s.head.now s.body.now s.out.now c.turn_after.ensures c.in-Record.is (c.print_record.ensures.value, c.print_record.ensures.out_after) in
    record { value = both.0; out_after = both.1 }
