-- `madi_read::on_end::plain` meets its contract: the word of the 40 bits is the channel's. Assumes nothing.
use mathlib.Core.Path.{sym, ap, ◌∙◌}
use borrow.Author.Tests.{eq-eqb}
use Rattle.madi_code.specs.Channels.{channel_of}
use Rattle.madi_read.specs.Inner.{row_of}
use Rattle.madi_read.proofs.Carrying.{forty}
use Rattle.madi_read.proofs.on_end.plain.Goals as goal

pub returns-then-parity-eq0 : goal.returns-then-parity-eq0
returns-then-parity-eq0 c = (
  ap channel_of (sym (forty (row_of c.args.source.now) c.args.at _ c.bits_at.ensures)) ∙ c.in_ok-w.ensures,
  c.if-w-eq2.true,
  eq-eqb _ 0 (sym c.parity.ensures ∙ c.if-parity-eq0.true),
)
