-- `talkback::Program::join_frame` meets its contract: the two sums stay below the next multiple of 16, and do not meet. Assumes
-- nothing.
use mathlib.Core.Path.{◌≡◌, ap, ap₂, ◌∙◌}
use Prim.Native.Nat.{ℕ, ◌+◌, ◌*◌, ◌/◌, ◌%◌, ◌^◌, ◌<◌}
use native.Mathlib.Omega.{arith}
use borrow.Author.Rules.{sfits_of}
use lib.IntN.{ℤ, pos}
use lib.ListN.{get_or, set}
use mir.Syntax.{w32}
use mir.Facts.{to_z-of_z}
use Rattle.subframe.specs.Signed.{code_of, signed_of}
use Rattle.talkback.specs.Talkback.{main, sample_with}
use Rattle.talkback.specs.Inner.{frame_set}
use Rattle.talkback.proofs.Pairs.{added-lt, added-32, to_z-signed}
use Rattle.talkback.proofs.Program.join_frame.Goals as goal
use Rattle.talkback.proofs.Program.join_frame.Goals.{After-pair}

module _ (c : After-pair) where
  abbrev first : ℤ
  first = get_or c.args.self.samples.now c.args.i (pos 0)

  abbrev second : ℤ
  second = get_or c.args.self.samples.now (c.args.i + 1) (pos 0)

  abbrev a : ℕ
  a = c.args.parts % 2 ^ 32

  abbrev b : ℕ
  b = c.args.parts / 2 ^ 32

  both : c.pair.result ≡ code_of 32 first + code_of 32 second * 2 ^ 32
  both =
      rw (to_z-of_z {w = w32} (sfits_of c.pair-arg-1.given), to_z-of_z {w = w32} (sfits_of c.pair-arg-2-1.given)) at c.pair.ensures

  first-lt : code_of 32 first + a < 2 ^ 32
  first-lt = let f = c.args.self.fits c.args.i (omega arith) in added-lt first f.0 f.1 a c.requires.0

  second_lt : code_of 32 second + b < 2 ^ 32
  second_lt = let f = c.args.self.fits (c.args.i + 1) c.requires.2 in added-lt second f.0 f.1 b c.requires.1

  abbrev sum : ℕ
  sum = c.pair.result + c.args.parts

  sum_is : sum ≡ code_of 32 first + a + (code_of 32 second + b) * 2 ^ 32
  sum_is = omega (arith, both)

  below : sum % 2 ^ 32 ≡ code_of 32 first + a
  below = omega (arith, sum_is, first-lt)

  above : sum / 2 ^ 32 ≡ code_of 32 second + b
  above = omega (arith, sum_is, first-lt)

  made-first : signed_of 32 (sum % 2 ^ 32) ≡ sample_with (main first) a
  made-first = let f = c.args.self.fits c.args.i (omega arith) in ap (signed_of 32) below ∙ added-32 first f.0 f.1 a c.requires.0

  made-second : signed_of 32 (sum / 2 ^ 32) ≡ sample_with (main second) b
  made-second = let f = c.args.self.fits (c.args.i + 1) c.requires.2 in ap (signed_of 32) above ∙ added-32 second f.0 f.1 b c.requires.1

pub returns : goal.returns
unfolding frame_set
returns c =
    let p = (goal.at.returns c).After-pair in
    let s = p.args in
    ap₂ (λ (x y : ℤ). set (set s.samples.now s.i x) (s.i + 1) y)
    (to_z-of_z {w = w32} (sfits_of c.cast_signed.type_inv) ∙ c.cast_signed.ensures ∙ to_z-signed (sum p % 2 ^ 32) (omega arith) ∙ made-first p)
    (to_z-of_z {w = w32} (sfits_of c.cast_signed-2.type_inv) ∙ c.cast_signed-2.ensures
    ∙ to_z-signed (sum p / 2 ^ 32) (omega (arith, above p, second_lt p)) ∙ made-second p)
