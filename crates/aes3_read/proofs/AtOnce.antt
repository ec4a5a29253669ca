-- Preamble and slots by one test of where the levels change: it holds only if both do. Assumes nothing.
use mathlib.Core.Path.{◌≡◌, sym, ap, ap₂, ◌∙◌}
use Prim.Native.Nat.{ℕ, ◌+◌, ◌*◌, ◌/◌, ◌%◌, ◌^◌, ◌<◌}
use native.Mathlib.Nat.{mod-eq_of_lt}
use native.Mathlib.Omega.{arith}
use lib.Bits.{bit_and, bit_xor, and_block, and_le_r, and_mask, and_zero_r, xor_lt, xor_shr}
use Rattle.bits.proofs.Xor.{against, against-twice, against-out}
use Rattle.bits.specs.Row.{big}
use Rattle.aes3_line.specs.Subframe.{due}
use Rattle.aes3_line.proofs.Preambles.{due-lt}
use Rattle.aes3_read.specs.Inner.{due_changes}

-- the changes of eight symbols tell the symbols
abbrev undone : ℕ → ℕ
undone y = against 4 (against 2 (against 1 y))

told : (t : ℕ) → t < 256 → undone (bit_xor t (t / 2)) ≡ t
told t h = ap (λ (y : ℕ). against 4 (against 2 y)) (against-twice 1 t) ∙ ap (against 4) (against-twice 2 t) ∙ against-twice 4 t ∙ against-out 8 t h

same-octet : (t d : ℕ) → t < 256 → d < 256 → bit_xor t (t / 2) ≡ bit_xor d (d / 2) → t ≡ d
same-octet t d ht hd e = sym (told t ht) ∙ ap undone e ∙ told d hd

module _ (i w : ℕ) (small : w < 2 ^ 64) (e : bit_and (bit_xor w (w / 2)) 0xFFAAAAAAAAAAAAAA ≡ due_changes (big (due i))) where
  abbrev x : ℕ
  x = bit_xor w (w / 2)

  abbrev high : ℕ
  high = x / 2 ^ 56

  abbrev low : ℕ
  low = x % 2 ^ 56

  x_lt : x < 2 ^ 64
  x_lt = xor_lt 64 w (w / 2) small (omega arith)

  parts : high * 2 ^ 56 + low ≡ x
  parts = omega arith

  both : bit_and high 255 * 2 ^ 56 + bit_and low 0xAAAAAAAAAAAAAA ≡ due_changes (big (due i))
  both =
      sym (and_block 56 high 255 low 0xAAAAAAAAAAAAAA (omega arith) (omega arith))
      ∙ ap (λ (y : ℕ). bit_and y 0xFFAAAAAAAAAAAAAA) parts ∙ e

  slots : bit_and low 0xAAAAAAAAAAAAAA ≡ 0xAAAAAAAAAAAAAA
  slots = omega (arith, both, and_le_r low 0xAAAAAAAAAAAAAA)

  octet : bit_and high 255 ≡ bit_xor (big (due i)) (big (due i) / 2)
  octet = omega (arith, both, and_le_r low 0xAAAAAAAAAAAAAA)

  pub changes-at-once : bit_and x 0xAAAAAAAAAAAAAA ≡ 0xAAAAAAAAAAAAAA
  changes-at-once =
      ap (λ (y : ℕ). bit_and y 0xAAAAAAAAAAAAAA) (sym parts)
      ∙ and_block 56 high 0 low 0xAAAAAAAAAAAAAA (omega arith) (omega arith)
      ∙ ap₂ (λ (a b : ℕ). a * 2 ^ 56 + b) (and_zero_r high) slots

  pub opens-at-once : w / 2 ^ 56 ≡ big (due i)
  opens-at-once =
      let t : w / 2 / 2 ^ 56 ≡ w / 2 ^ 56 / 2 = omega arith in
      let whole : bit_and high 255 ≡ high = and_mask high 8 ∙ mod-eq_of_lt (omega (arith, x_lt)) in
      let changed : high ≡ bit_xor (w / 2 ^ 56) (w / 2 ^ 56 / 2) = xor_shr w (w / 2) 56 ∙ ap (bit_xor (w / 2 ^ 56)) t in
      same-octet (w / 2 ^ 56) (big (due i)) (omega arith) (due-lt i) (sym changed ∙ sym whole ∙ octet)
