-- `aes3_read::read_subframe` meets its contract: its word, inverted after level 1. Assumes nothing.
use mathlib.Core.Path.{◌≡◌, sym, ap, ◌∙◌}
use mathlib.Core.Bool.{Bool, false}
use Prim.Native.Nat.{ℕ, ◌-◌, ◌^◌}
use native.Mathlib.Nat.{mod-eq_of_lt}
use native.Mathlib.Omega.{arith}
use Rattle.bits.specs.Pick.{pick}
use Rattle.bits.specs.Row.{odd, big_bits, big}
use Rattle.bits.proofs.Digits.{odd-mod}
use Rattle.bits.proofs.Rows.{length-big_bits, big-big_bits}
use Rattle.line.proofs.PreambleLaws.{word_after_lem}
use Rattle.aes3_line.specs.Subframe.{subframe_read}
use Rattle.aes3_line.proofs.Polarity.{read-after}
use Rattle.aes3_read.proofs.read_subframe.Goals as goal

pub returns : goal.returns
returns c =
    let a = c.args in
    let s = big_bits 64 a.w in
    let l = odd a.before in
    let same : a.w ≡ big s = sym (big-big_bits 64 a.w ∙ mod-eq_of_lt (omega arith)) in
    let w : c.after_level.result ≡ pick l (2 ^ 64 - 1 - big s) (big s) =
    c.after_level.ensures
    ∙ ap (λ (k : Bool). pick k (2 ^ 64 - 1 - a.w) a.w) (odd-mod a.before)
    ∙ ap (λ (v : ℕ). pick l (2 ^ 64 - 1 - v) v) same in
    c.read_word.ensures
    ∙ ap (λ (v : ℕ). subframe_read a.i false (big_bits 64 v)) w
    ∙ ap (subframe_read a.i false) (word_after_lem l s (length-big_bits 64 a.w))
    ∙ read-after a.i l s (omega (arith, length-big_bits 64 a.w))
