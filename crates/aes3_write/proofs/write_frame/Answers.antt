-- `aes3_write::write_frame` meets its contract: two halves. Assumes nothing.
use mathlib.Core.Path.{◌≡◌, ap, ap₂, ◌∙◌}
use mathlib.Core.List.{List, ◌++◌}
use Prim.Native.Nat.{ℕ, ◌+◌, ◌-◌, ◌*◌, ◌/◌, ◌%◌, ◌^◌}
use native.Mathlib.Omega.{arith}
use lib.IntN.{pos}
use lib.ListN.{length, drop, get_or, length-append, length-drop}
use Rattle.bits.specs.Row.{odd, big_bits, big}
use Rattle.bits.specs.Pack.{octets}
use Rattle.bits.proofs.Packing.{length-pack}
use Rattle.subframe.specs.Signed.{code_of}
use Rattle.aes3_write.specs.Inner.{opened, word_after, body_with}
use Rattle.aes3_write.proofs.Writing.{word-opened}
use Rattle.aes3_write.proofs.LineWriting.{halves-laid}
use Rattle.aes3_write.proofs.write_frame.Goals as goal

pub returns : goal.returns
returns c =
    let a = c.args in
    let l = odd a.level in
    let body : ℕ → ℕ → ℕ = λ i f. body_with (code_of 24 (get_or a.samples.now i (pos 0))) f in
    let o = c.write_subframe.new.part in
    let p = c.write_subframe-2.new.part in
    let eo : o ≡ octets 8 (opened a.m l (body a.i (a.flags % 8))) =
    c.write_subframe.ensures ∙ ap (λ (x : ℕ). octets 8 (big_bits 64 (word_after l (a.m * 2 ^ 56 + x)))) c.slots_at-v.ensures.0
    ∙ ap (octets 8) (word-opened a.m l (body a.i (a.flags % 8)) (omega arith)) in
    let ep : p ≡ octets 8 (opened 0b11100100 l (body (a.i + 1) (a.flags / 16 % 8))) =
    c.write_subframe-2.ensures ∙ ap (λ (x : ℕ). octets 8 (big_bits 64 (word_after l (0b11100100 * 2 ^ 56 + x)))) c.slots_at-w.ensures.0
    ∙ ap (octets 8) (word-opened 0b11100100 l (body (a.i + 1) (a.flags / 16 % 8)) (omega arith)) in
    let m = ap length eo ∙ length-pack big 8 8 (opened a.m l (body a.i (a.flags % 8))) in
    let eight : length (o ++ drop 8 a.part.now) - 8 ≡ 8 = simp (length-append, length-drop) (omega arith) in
    rw eight (halves-laid a.part.now o p c.requires.3 m) ∙ ap₂ (λ (x y : List ℕ). x ++ y) eo ep
