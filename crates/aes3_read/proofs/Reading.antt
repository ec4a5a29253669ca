-- A subframe read from its 64 symbols as a number, after level 0. Assumes nothing.
use mathlib.Core.Path.{◌≡◌, sym, ap, ap₂, ◌∙◌}
use mathlib.Core.Bool.{Bool, false}
use Prim.Native.Nat.{ℕ, ◌+◌, ◌*◌, ◌/◌, ◌%◌, ◌^◌, ◌<◌}
use native.Mathlib.Nat.{mod-eq_of_lt}
use native.Mathlib.Omega.{arith}
use borrow.Author.Tests.{eq-eqb, ne_eqb}
use lib.Bits.{bit_and, bit_xor}
use lib.Dec.{eqb}
use lib.ListN.{take, drop}
use lib.Seq.{take_at, drop_at}
use Rattle.bits.specs.Row.{Row, big_bits, little, big}
use Rattle.bits.specs.Window.{window}
use Rattle.bits.proofs.Rows.{length-big_bits, big-big_bits, big_bits-mod, little-lt}
use Rattle.answer.specs.Answer.{Answer.accepted, Answer.refused}
use Rattle.answer.specs.Demand.{◌&◌}
use Rattle.answer.specs.Demand.Stops.{fails, later}
use Rattle.line.specs.Biphase.{left, changing, held}
use Rattle.line.proofs.BiphaseLaws.{length-held}
use Rattle.line.proofs.BiphaseOctets.{nibble, left-octet}
use Rattle.line.proofs.BiphaseWords.{changing-mask, big_bits-split, held_word}
use Rattle.aes3_line.specs.Subframe.{due, preamble, body_held, subframe_read}
use Rattle.aes3_line.proofs.Preambles.{preamble-0}
use Rattle.aes3_line.proofs.LineLaws.{subframe-met, subframe-stops, body-held, window-first}

-- ---- the bits that the slots hold, four to an octet

module _ (w a b c d e f g : ℕ) (ea : a ≡ nibble (w / 281474976710656 % 256)) (eb : b ≡ nibble (w / 1099511627776 % 256))
    (ec : c ≡ nibble (w / 4294967296 % 256)) (ed : d ≡ nibble (w / 16777216 % 256)) (ee : e ≡ nibble (w / 65536 % 256))
    (ef : f ≡ nibble (w / 256 % 256)) (eg : g ≡ nibble (w % 256)) where
  last-octet : little (held (big_bits 8 w)) ≡ nibble (w % 256)
  last-octet = ap (λ (r : Row). little (held r)) (sym (big_bits-mod 8 w))

  pub slots-held-in : a + b * 16 + c * 256 + d * 4096 + e * 65536 + f * 1048576 + g * 16777216 ≡ little (held (big_bits 56 w))
  slots-held-in =
      omega (arith, held_word 48 w, held_word 40 w, held_word 32 w, held_word 24 w, held_word 16 w, held_word 8 w, last-octet)

-- ---- the answer

module _ (i w : ℕ) (small : w < 2 ^ 64) where
  abbrev symbols : Row
  symbols = big_bits 64 w

  abbrev top : ℕ
  top = w / 72057594037927936

  abbrev rest : Row
  rest = big_bits 56 w

  -- where a level begins a slot as it should
  abbrev changed : ℕ
  changed = bit_and (bit_xor w (w / 2)) 48038396025285290

  take-8 : take 8 symbols ≡ big_bits 8 top
  take-8 = rw (big_bits-split 8 56 w) (take_at (big_bits 8 top) rest 8 (length-big_bits 8 top))

  drop-8 : drop 8 symbols ≡ rest
  drop-8 = rw (big_bits-split 8 56 w) (drop_at (big_bits 8 top) rest 8 (length-big_bits 8 top))

  opens : eqb (window symbols 0 8) (big (preamble i false)) ≡ eqb top (big (due i))
  opens =
      let e : window symbols 0 8 ≡ top =
      rw (big_bits-split 8 56 w) (window-first (big_bits 8 top) rest (length-big_bits 8 top)) ∙ big-big_bits 8 top ∙ mod-eq_of_lt (omega arith) in
      ap₂ (λ (a b : ℕ). eqb a b) e (ap big (preamble-0 i))

  changes : changing (left false (take 8 symbols)) (drop 8 symbols) ≡ eqb changed 48038396025285290
  changes =
      ap₂ (λ (s r : Row). changing (left false s) r) take-8 drop-8
      ∙ ap (λ (l : Bool). changing l rest) (left-octet false top) ∙ changing-mask 28 w

  pub answer-7 : (top ≡ big (due i) → ⊥) → refused 7 i ≡ subframe_read i false symbols
  answer-7 m = sym (subframe-stops i false symbols (fails (opens ∙ ne_eqb top (big (due i)) m)))

  module _ (m : top ≡ big (due i)) where
    pub answer-8 : (changed ≡ 48038396025285290 → ⊥) → refused 8 i ≡ subframe_read i false symbols
    answer-8 h = sym (subframe-stops i false symbols (later (opens ∙ eq-eqb top (big (due i)) m) (fails (changes ∙ ne_eqb changed 48038396025285290 h))))

    -- the body that was taken out
    pub answer-body : changed ≡ 48038396025285290 → (d : ℕ) → d ≡ little (held rest) → accepted (d * 16) ≡ subframe_read i false symbols
    answer-body h d e =
        let body : body_held (drop 8 symbols) ≡ d * 16 = ap body_held drop-8 ∙ body-held rest ∙ ap (λ (n : ℕ). n * 16) (sym e) in
        ap accepted (sym body)
        ∙ sym (subframe-met i false symbols ((opens ∙ eq-eqb top (big (due i)) m) & (changes ∙ eq-eqb changed 48038396025285290 h) & tt))

pub held_small : (w : ℕ) → little (held (big_bits 56 w)) < 268435456
held_small w = rw (length-held 28 (big_bits 56 w) (length-big_bits 56 w)) at (little-lt (held (big_bits 56 w)))
