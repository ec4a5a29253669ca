-- `subframe::parity` meets its contract: the language's count of ones is that of the slots. Assumes nothing.
use mathlib.Core.Path.{sym}
use Rattle.subframe.proofs.BodyLaws.{parity-ones}
use Rattle.subframe.proofs.parity.Goals as goal

pub returns : goal.returns
returns c = sym (parity-ones c.args.body c.ranges.body.fits)
