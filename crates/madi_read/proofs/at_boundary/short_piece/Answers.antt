-- `madi_read::at_boundary::short_piece` meets its contract: the ten bits are the window. Assumes nothing.
use mathlib.Core.Path.{ap, ◌∙◌}
use borrow.Author.Tests.{le-leb, lt-leb, lt-ltb}
use Rattle.madi_code.specs.Groups.{command_of}
use Rattle.madi_read.proofs.Carrying.{length-carried}
use Rattle.madi_read.proofs.at_boundary.short_piece.Goals as goal

pub returns-in-Some : goal.returns-in-Some
returns-in-Some c =
    let s = c.args.source.now in
    rw (
      c.command_piece.ensures,
      length-carried s.level s.bits s.line.now,
      le-leb _ _ c.if-at-source.true,
      ← (c.in-Some.ensures.0 ∙ ap command_of c.bits_at.ensures),
      lt-ltb _ 16 c.in-Some.ensures.1,
    )

pub returns-else-at-source : goal.returns-else-at-source
returns-else-at-source c =
    let s = c.args.source.now in
    rw (length-carried s.level s.bits s.line.now, lt-leb _ _ c.if-at-source.false)
