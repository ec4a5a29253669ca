-- `talkback::Joined::separate_program` meets its contract: after i turns the first i samples are those of the program. Assumes
-- nothing.
use mathlib.Core.Path.{sym, ap₂, ◌∙◌}
use mathlib.Core.List.{List}
use native.Mathlib.Omega.{arith}
use borrow.Author.Rules.{sfits_of}
use lib.IntN.{ℤ, pos}
use lib.ListN.{set}
use mir.Syntax.{w32}
use mir.Facts.{to_z-of_z}
use Rattle.bits.proofs.Filling.{over-next, over-all}
use Rattle.talkback.specs.Talkback.{program_of}
use Rattle.talkback.proofs.Blocks.{length-program, get_or-program}
use Rattle.talkback.proofs.Joined.separate_program.Goals as goal

pub loop-i-preserved : goal.loop-i-preserved
loop-i-preserved c =
    let s = c.args.self.samples.now in
    let i = c.loop-i.i in
    ap₂ (λ (l : List ℤ) (y : ℤ). set l i y) c.loop-i.invariant
    (to_z-of_z {w = w32} (sfits_of c.cleared.type_inv) ∙ rw (to_z-of_z {w = w32} (sfits_of c.cleared-arg-1.given)) at c.cleared.ensures
    ∙ sym (get_or-program s i (omega arith)))
    ∙ over-next i (program_of s) c.args.program.now (pos 0) (omega (arith, length-program s)) (omega arith)

pub returns : goal.returns
returns c =
    let s = c.args.self.samples.now in
    c.loop-i.invariant
    ∙ over-all c.loop-i.i (program_of s) c.args.program.now (omega (arith, length-program s)) (omega (arith, length-program s))
