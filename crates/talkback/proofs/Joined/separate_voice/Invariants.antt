-- `talkback::Joined::separate_voice` meets its contract: after k turns the first k samples are those of the voice. Assumes
-- nothing.
use mathlib.Core.Path.{◌≡◌}
use Rattle.bits.proofs.Filling.{over}
use Rattle.talkback.specs.Talkback.{voice_of}
use Rattle.talkback.proofs.Joined.separate_voice.Given as goal

abbrev pub invariant-loop-k : goal.invariant-loop-k
invariant-loop-k l = l.voice ≡ over l.k (voice_of l.self.samples.now) l.initial.voice
