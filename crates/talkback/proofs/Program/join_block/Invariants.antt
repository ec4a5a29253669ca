-- `talkback::Program::join_block` meets its contract: after k turns the first 6 k samples are joined. Assumes nothing.
use mathlib.Core.Path.{◌≡◌}
use Prim.Native.Nat.{◌*◌}
use Rattle.bits.proofs.Filling.{over}
use Rattle.talkback.specs.Talkback.{with_voice}
use Rattle.talkback.proofs.Program.join_block.Given as goal

abbrev pub invariant-loop-k : goal.invariant-loop-k
invariant-loop-k l = l.samples ≡ over (6 * l.k) (with_voice l.self.samples.now l.voice) l.initial.samples
