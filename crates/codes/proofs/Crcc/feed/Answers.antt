-- `codes::Crcc::feed` meets its contract: the two ways of the test, each by a test that antt computes at every octet.
-- Assumes nothing.
use native.Mathlib.Omega.{arith}
use Rattle.codes.proofs.Stages.{fed-same, fed-other}
use Rattle.codes.proofs.Crcc.feed.Goals as goal

pub returns-then-top-bit : goal.returns-then-top-bit
returns-then-top-bit c = fed-other c.args.self.stages c.args.bit (omega (arith, c.struct_known-2-1.given)) c.if-top-bit.true

pub returns-else-top-bit : goal.returns-else-top-bit
returns-else-top-bit c = fed-same c.args.self.stages c.args.bit (omega (arith, c.struct_known-2-1.given)) c.if-top-bit.false
