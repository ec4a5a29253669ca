-- `aes3_write::slots_at` meets its contract: the sample's 24 bits and the flags make the body. Assumes nothing.
use borrow.Author.Rules.{rules, sfits_of}
use mathlib.Core.Path.{ap, ◌∙◌}
use mathlib.Core.Bool.{false}
use Prim.Native.Nat.{ℕ}
use native.Mathlib.Omega.{arith}
use lib.IntN.{pos}
use lib.ListN.{get_or}
use mir.Syntax.{w32}
use mir.Val.{SFits}
use Rattle.bits.specs.Row.{big}
use Rattle.line.specs.Biphase.{biphase}
use Rattle.subframe.specs.Body.{slots}
use Rattle.aes3_write.specs.Inner.{body_with}
use Rattle.aes3_write.proofs.slots_at.Goals as goal
use Rattle.subframe.proofs.SignedLaws.{sum_fits, sum-natural, sum-code}

pub overflow_add-code : goal.overflow_add-code
overflow_add-code c =
    let h : SFits w32 (get_or c.args.samples.now c.args.i (pos 0)) = sfits_of (search rules) in
    sum_fits 24 (omega arith) (omega arith) h c.requires.1

pub overflow_cast-code : goal.overflow_cast-code
overflow_cast-code c =
    let h : SFits w32 (get_or c.args.samples.now c.args.i (pos 0)) = sfits_of (search rules) in
    sum-natural 24 (omega arith) (omega arith) h c.requires.1

pub slots_word-requires : goal.slots_word-requires
slots_word-requires c = (omega arith, c.requires.2)

pub returns : goal.returns
returns c =
    let h : SFits w32 (get_or c.args.samples.now c.args.i (pos 0)) = sfits_of (search rules) in
    let e = c.slots_word.ensures in
    (e.0 ∙ ap (λ (k : ℕ). big (biphase false (slots (body_with k c.args.flags)))) (sum-code 24 (omega arith) (omega arith) h c.requires.1), e.1)
