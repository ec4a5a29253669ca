-- `talkback::Joined::separate_program` meets its contract: after i turns the first i samples are those of the program. Assumes
-- nothing.
use mathlib.Core.Path.{◌≡◌}
use Rattle.bits.proofs.Filling.{over}
use Rattle.talkback.specs.Talkback.{program_of}
use Rattle.talkback.proofs.Joined.separate_program.Given as goal

abbrev pub invariant-loop-i : goal.invariant-loop-i
invariant-loop-i l = l.program ≡ over l.i (program_of l.self.samples.now) l.initial.program
