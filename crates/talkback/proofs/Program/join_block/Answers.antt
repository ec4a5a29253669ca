-- `talkback::Program::join_block` meets its contract: after k turns the first 6 k samples are joined. Assumes nothing.
use mathlib.Core.Path.{◌≡◌, ap, ◌∙◌}
use Prim.Native.Nat.{ℕ, ◌+◌, ◌*◌, ◌/◌, ◌%◌, ◌^◌, ◌<◌}
use native.Mathlib.Omega.{arith}
use borrow.Author.Rules.{sfits_of}
use lib.IntN.{ℤ, pos}
use lib.ListN.{get_or}
use mir.Syntax.{w32}
use mir.Facts.{to_z-of_z}
use Rattle.bits.proofs.Filling.{over-all}
use Rattle.subframe.specs.Signed.{code_of}
use Rattle.subframe.proofs.SignedLaws.{code-narrows}
use Rattle.talkback.specs.Talkback.{with_voice}
use Rattle.talkback.specs.Inner.{three_set}
use Rattle.talkback.proofs.Blocks.{length-with}
use Rattle.talkback.proofs.Joining.{three-next}
use Rattle.talkback.proofs.Pairs.{code-32-lt}
use Rattle.talkback.proofs.Program.join_block.Goals as goal
use Rattle.talkback.proofs.Program.join_block.Goals.{After-pair-voices}

-- the voice samples that were read, side by side
module _ (c : After-pair-voices) where
  abbrev a : ℤ
  a = get_or c.args.voice.now (2 * c.loop-k.k) (pos 0)

  abbrev b : ℤ
  b = get_or c.args.voice.now (2 * c.loop-k.k + 1) (pos 0)

  both : c.pair-voices.result ≡ code_of 32 a + code_of 32 b * 2 ^ 32
  both =
      rw (to_z-of_z {w = w32} (sfits_of c.pair-arg-1.given), to_z-of_z {w = w32} (sfits_of c.pair-arg-in-loop-k-1.given)) at c.pair-voices.ensures

  a_lt : code_of 32 a < 2 ^ 32
  a_lt = code-32-lt a (sfits_of c.pair-arg-1.given)

  below : c.pair-voices.result % 2 ^ 32 ≡ code_of 32 a
  below = omega (arith, both, a_lt)

  above : c.pair-voices.result / 2 ^ 32 ≡ code_of 32 b
  above = omega (arith, both, a_lt)

pub loop-k-preserved : goal.loop-k-preserved
loop-k-preserved c =
    let made = (goal.at.loop-k-preserved c).After-pair-voices in
    let program = c.args.self.samples.now in
    let voice = c.args.voice.now in
    let k = c.loop-k.k in
    let x = made.pair-voices.result in
    let na : x % 2 ^ 32 % 2 ^ 12 ≡ code_of 12 (a made) =
    ap (λ (n : ℕ). n % 2 ^ 12) (below made) ∙ code-narrows 12 32 (omega arith) (a made) (c.requires (2 * k) (omega arith)) in
    let nb : x / 2 ^ 32 % 2 ^ 12 ≡ code_of 12 (b made) =
    ap (λ (n : ℕ). n % 2 ^ 12) (above made) ∙ code-narrows 12 32 (omega arith) (b made) (c.requires (2 * k + 1) (omega arith)) in
    c.join_three.ensures ∙ ap (three_set program (x % 2 ^ 32) (x / 2 ^ 32) (6 * k)) c.loop-k.invariant
    ∙ three-next program voice c.args.samples.now c.told-samples k (x % 2 ^ 32) (x / 2 ^ 32) c.loop-k-test.true na nb

pub returns : goal.returns
returns c =
    let program = c.args.self.samples.now in
    let voice = c.args.voice.now in
    c.loop-k.invariant
    ∙ over-all (6 * c.loop-k.k) (with_voice program voice) c.args.samples.now (omega (arith, length-with program voice)) (omega arith)
