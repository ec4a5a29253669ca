-- `talkback::signed` meets its contract: below the sign's weight the number itself, else the number less 2 ^ 12. Assumes
-- nothing.
use mathlib.Core.Path.{◌∙◌}
use native.Mathlib.Omega.{arith}
use borrow.Author.Tests.{lt-ltb, le-ltb}
use mir.Syntax.{w32}
use mir.Facts.{to_z-of_z, to_z_pos}
use Rattle.subframe.proofs.SignedLaws.{less, less-fits}
use Rattle.talkback.proofs.signed.Goals as goal

pub overflow_sub-result : goal.overflow_sub-result
overflow_sub-result c = less-fits 12 c.args.code (omega arith) (omega arith)

pub returns-then-code-lt-VOICE_HALF : goal.returns-then-code-lt-VOICE_HALF
returns-then-code-lt-VOICE_HALF c = to_z_pos w32 {n = c.args.code} (omega arith) ∙ rw (lt-ltb c.args.code 2048 c.if-code-lt-VOICE_HALF.true)

pub returns-else-code-lt-VOICE_HALF : goal.returns-else-code-lt-VOICE_HALF
returns-else-code-lt-VOICE_HALF c =
    let n = c.args.code in
    to_z-of_z (less-fits 12 n (omega arith) (omega arith)) ∙ less 12 n (omega arith) (omega arith) ∙ rw (le-ltb n 2048 c.if-code-lt-VOICE_HALF.false)
