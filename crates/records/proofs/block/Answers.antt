-- `records::block` meets its contract. Assumes nothing.
use mathlib.Core.Path.{sym, ap, ◌∙◌}
use Rattle.std.proofs.lemmas.Result.{err_from_is_err_and}
use Rattle.aes3_read.specs.Reader.{block_said}
use Rattle.answer.specs.Answer.{mapped}
use Rattle.records.specs.Record.{block_content, block_record}
use Rattle.records.proofs.block.Goals as goal

pub returns-in_err-right : goal.returns-in_err-right
unfolding block_record
returns-in_err-right c =
    let p = err_from_is_err_and c.from_residual.result c.from_residual.ensures.1 in
    rw (p.1, p.2) (ap (mapped block_content) (ap block_said (sym c.in_err-right.was) ∙ c.read_block.ensures.result_value))

pub returns : goal.returns
unfolding block_record
returns c =
    rw (c.from.ensures, c.from-2.ensures) (ap (mapped block_content) (ap block_said (sym c.in_ok-right.was) ∙ c.read_block.ensures.result_value))
