-- `talkback::Joined::separate_voice` meets its contract: after k turns the first k samples are those of the voice. Assumes
-- nothing.
use mathlib.Core.Path.{sym, ap₂, ◌∙◌}
use mathlib.Core.List.{List}
use native.Mathlib.Omega.{arith}
use borrow.Author.Rules.{sfits_of}
use lib.IntN.{ℤ, pos}
use lib.ListN.{set}
use mir.Syntax.{w32}
use mir.Facts.{to_z-of_z}
use Rattle.bits.proofs.Filling.{over-next, over-all}
use Rattle.talkback.specs.Talkback.{voice_of}
use Rattle.talkback.proofs.Blocks.{length-voice, get_or-voice, from-subframe}
use Rattle.talkback.proofs.Joined.separate_voice.Goals as goal

pub loop-k-preserved : goal.loop-k-preserved
loop-k-preserved c =
    let s = c.args.self.samples.now in
    let k = c.loop-k.k in
    ap₂ (λ (l : List ℤ) (y : ℤ). set l k y) c.loop-k.invariant
    (to_z-of_z {w = w32} (sfits_of c.voice_at.type_inv) ∙ c.voice_at.ensures ∙ from-subframe s k ∙ sym (get_or-voice s k (omega arith)))
    ∙ over-next k (voice_of s) c.args.voice.now (pos 0) (omega (arith, length-voice s)) (omega arith)

pub returns : goal.returns
returns c =
    let s = c.args.self.samples.now in
    c.loop-k.invariant
    ∙ over-all c.loop-k.k (voice_of s) c.args.voice.now (omega (arith, length-voice s)) (omega (arith, length-voice s))
