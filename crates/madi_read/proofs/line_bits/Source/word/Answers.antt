-- `madi_read::line_bits::Source::word` meets its contract: the table gives the word of the 40 bits. Assumes nothing.
use mathlib.Core.Path.{sym, ap, ◌∙◌}
use Prim.Native.Nat.{◌^◌}
use Rattle.std.specs.Prelude.{Ok}
use Rattle.std.specs.Result.{result_ok}
use Rattle.madi_code.specs.Inner.{word_by_table}
use Rattle.madi_code.proofs.FrameLaws.{parted-some}
use Rattle.madi_code.proofs.TableLaws.{word-received, meanings-mean}
use Rattle.madi_read.proofs.Found.{if-some}
use Rattle.madi_read.proofs.line_bits.Source.word.Goals as goal

pub returns : goal.returns
returns c =
    let s = c.args.self.now in
    if-some c.ok.result _
    (λ w e. let is = ap result_ok (sym c.word_by.ensures) ∙ sym c.ok.ensures.value ∙ e in
    let b = parted-some (2 ^ 32) (word_by_table s.table c.args.v) w is in
    word-received s.table c.args.v (meanings-mean _ s.means) b.0 ∙ ap Ok b.1)
