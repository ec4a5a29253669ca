-- `records::control` meets its contract. Assumes nothing.
use mathlib.Core.Path.{◌≡◌, sym, ap, ◌∙◌}
use Rattle.std.proofs.lemmas.Result.{err_from_is_err_and}
use borrow.Author.Tests.{eq-eqb, ne_eqb}
use Rattle.hd_control.specs.Read.{read_answer}
use Rattle.answer.specs.Answer.{mapped}
use Rattle.answer.specs.Said.{said}
use Rattle.answer.specs.Demand.{◌&◌}
use Rattle.answer.specs.Demand.Stops.{fails}
use Rattle.answer.proofs.Chains.{passing, stopped}
use Rattle.records.specs.Record.{control_content, big_endian, control_demands, control_record}
use Rattle.records.proofs.RecordLaws.{filled-words}
use borrow.Author.Rules.{rules}
use Rattle.records.proofs.control.Goals as goal
use Rattle.records.proofs.control.Goals.{After-read_control}

pub returns-then-octets-ne36 : goal.returns-then-octets-ne36
unfolding control_record
returns-then-octets-ne36 c = sym (stopped _ (fails (ne_eqb _ _ c.if-octets-ne36.true)))

module _ (c : After-read_control) where
  -- the reader's answer, of the words that were filled
  read : said c.read_control.result ≡ read_answer (big_endian c.args.octets.now)
  read = c.read_control.ensures ∙ ap read_answer (c.fill_words.ensures ∙ filled-words _ _ (search rules))

  last : mapped control_content (read_answer (big_endian c.args.octets.now)) ≡ control_record c.args.octets.now
  unfolding control_record
  last = sym (passing _ (control_demands c.args.octets.now) (eq-eqb _ _ c.if-octets-ne36.false & tt))

pub returns-in_err-control : goal.returns-in_err-control
returns-in_err-control c =
    let r = (goal.at.returns-in_err-control c).After-read_control in
    let p = err_from_is_err_and c.from_residual.result c.from_residual.ensures.1 in
    rw (p.1, p.2) (ap (mapped control_content) (ap said (sym c.in_err-control.was) ∙ read r) ∙ last r)

pub returns : goal.returns
returns c =
    let r = (goal.at.returns c).After-read_control in
    ap (mapped control_content) (ap said (sym c.in_ok-control.was) ∙ read r) ∙ last r
