-- `report::print_record` meets its contract. Assumes nothing.
use Rattle.records.specs.Record.{record_answer}
use Rattle.report.specs.Text.{line_of}
use Rattle.report.specs.Report.{going}
use Rattle.report.proofs.TextLaws.{put-start, put_all}
use Rattle.report.proofs.Steps.{goes}
use borrow.Author.Rules.{rules}
use Rattle.report.proofs.print_record.Goals as goal

pub returns : goal.returns
unfolding going
returns c =
    let s = c.args in
    let put = rw c.judge.ensures at c.put_line.ensures in
    let both = goes s.n (line_of s.n (record_answer s.body.now)) s.out.now (put-start (search rules) put, put_all (search rules) put) in
    record { value = both.0; out_after = both.1 }
