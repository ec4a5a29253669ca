-- The sixteen symbols of a candidate, as code has them: nine from each of two places, and one number that says which
-- differ from those required. Assumes nothing.
use mathlib.Core.Path.{◌≡◌, refl, sym, ap, ap₂, ◌∙◌}
use mathlib.Core.Bool.{Bool, true, false}
use mathlib.Core.List.{List, ◌++◌}
use Prim.Native.Nat.{ℕ, suc, ◌+◌, ◌-◌, ◌*◌, ◌/◌, ◌%◌, ◌^◌, ◌≤◌, ◌<◌}
use native.Mathlib.Omega.{arith}
use lib.Bits.{bit_xor}
use lib.ListN.{length, get_or, length-append}
use Rattle.bits.specs.Row.{Row, digit, odd, big, big_bits, xor_row}
use Rattle.bits.specs.Window.{part, window}
use Rattle.bits.specs.Pack.{symbols}
use Rattle.bits.proofs.Digits.{digit-odd}
use Rattle.bits.proofs.Rows.{get_or-big_bits, length-big_bits, big_bits-big, big-append}
use Rattle.bits.proofs.XorRows.{length-xor, get_or-xor, big-xor}
use Rattle.bits.proofs.Windows.{length_part, window-split, window-low, window-high, window-inside}
use Rattle.bits.proofs.Packing.{octet-window}
use Rattle.line.specs.Preamble.{preamble_y, preamble_z, after_level}
use Rattle.line.proofs.PreambleLaws.{after-0, after-1, length-after}
use Rattle.aes3_hunt.specs.Hunt.{same, opens, fits, standing, required, differs}
use Rattle.aes3_hunt.specs.Inner.{mismatches}
use Rattle.aes3_hunt.proofs.SameLaws.{same-append}

-- ---- nine symbols of a line of octets, from two octets

pub nine-at : (line : List ℕ) (t : ℕ) → get_or line (t / 8) 0 < 256 → get_or line (t / 8 + 1) 0 < 256
    → (get_or line (t / 8) 0 * 256 + get_or line (t / 8 + 1) 0) / 2 ^ (7 - t % 8) % 512 ≡ window (symbols line) t 9
nine-at line t h g =
    let place : t / 8 * 8 + t % 8 ≡ t = omega arith in
    let next : (t / 8 + 1) * 8 ≡ t / 8 * 8 + 8 = omega arith in
    let width : 7 - t % 8 ≡ 16 - (t % 8 + 9) = omega arith in
    let second : window (symbols line) (t / 8 * 8 + 8) 8 ≡ get_or line (t / 8 + 1) 0 = rw next at (octet-window line (t / 8 + 1) g) in
    let both : get_or line (t / 8) 0 * 256 + get_or line (t / 8 + 1) 0 ≡ window (symbols line) (t / 8 * 8) 16 =
    sym (window-split (symbols line) (t / 8 * 8) 8 8 ∙ rw (octet-window line (t / 8) h, second)) in
    rw (both, width)
    (window-inside (symbols line) (t / 8 * 8) 16 (t % 8) 9 (omega arith) ∙ ap (λ (i : ℕ). window (symbols line) i 9) place)

-- the first of nine, and the eight after it
one-window : (r : Row) (at : ℕ) → window r at 1 ≡ digit (get_or r at false)
unfolding window part big
one-window r at = go (get_or r at false)
  where
    go : (b : Bool) → digit b * 2 ^ 0 + 0 ≡ digit b
    go true = refl
    go false = refl

pub level-of : (r : Row) (at : ℕ) → window r at 9 / 256 ≡ digit (get_or r at false)
level-of r at = window-high r at 1 8 ∙ one-window r at

pub eight-of : (r : Row) (at : ℕ) → window r at 9 % 256 ≡ window r (at + 1) 8
eight-of r at = window-low r at 1 8

-- ---- the sixteen together

pub length-standing : (r : Row) (p : ℕ) → length (standing r p) ≡ 16
unfolding standing
length-standing r p = length-append (part r p 8) (part r (p + 64) 8) ∙ ap₂ (λ (a b : ℕ). a + b) (length_part r p 8) (length_part r (p + 64) 8)

length-z : (l : Bool) → length (after_level l preamble_z) ≡ 8
length-z l = length-after l preamble_z ∙ length-big_bits 8 0b11101000

length-y : (l : Bool) → length (after_level l preamble_y) ≡ 8
length-y l = length-after l preamble_y ∙ length-big_bits 8 0b11100100

pub length-required : (r : Row) (p : ℕ) → length (required r p) ≡ 16
unfolding required
length-required r p =
    length-append (after_level (get_or r (p - 1) false) preamble_z) (after_level (get_or r (p + 63) false) preamble_y)
    ∙ ap₂ (λ (a b : ℕ). a + b) (length-z (get_or r (p - 1) false)) (length-y (get_or r (p + 63) false))

pub fits_all : (r : Row) (p : ℕ) → fits r p ≡ same (standing r p) (required r p)
unfolding fits opens standing required
fits_all r p =
    let before : p + 64 - 1 ≡ p + 63 = omega arith in
    rw before
    (sym (same-append (part r p 8) (after_level (get_or r (p - 1) false) preamble_z)
    (part r (p + 64) 8) (after_level (get_or r (p + 63) false) preamble_y)
    (length_part r p 8 ∙ sym (length-z (get_or r (p - 1) false)))))

-- ---- as numbers

-- Z and Y after their levels
required-number : (l m : Bool) → big (after_level l preamble_z ++ after_level m preamble_y) ≡ bit_xor 0xE8E4 (digit l * 0xFF00 + digit m * 0xFF)
unfolding big big_bits
required-number false false = rw (after-0 preamble_z, after-0 preamble_y)
required-number false true = rw (after-0 preamble_z, after-1 preamble_y)
required-number true false = rw (after-1 preamble_z, after-0 preamble_y)
required-number true true = rw (after-1 preamble_z, after-1 preamble_y)

module _ (r : Row) (p : ℕ) where
  standing-number : window r p 8 * 256 + window r (p + 64) 8 ≡ big (standing r p)
  unfolding standing window
  standing-number = sym (big-append (part r p 8) (part r (p + 64) 8) ∙ rw (length_part r (p + 64) 8))

  -- the code's number, from the two times nine symbols
  pub differing : {z y : ℕ} → 1 ≤ p → z ≡ window r (p - 1) 9 → y ≡ window r (p + 63) 9
      → bit_xor (z % 256 * 256 + y % 256) (bit_xor 0xE8E4 (z / 256 * 0xFF00 + y / 256 * 0xFF)) ≡ mismatches r p
  unfolding mismatches required
  differing {z} {y} h e f =
      let here : p - 1 + 1 ≡ p = omega arith in
      let there : p + 63 + 1 ≡ p + 64 = omega arith in
      rw (e, f, eight-of r (p - 1), eight-of r (p + 63), level-of r (p - 1), level-of r (p + 63), here, there, standing-number)
      (ap (bit_xor (big (standing r p))) (sym (required-number (get_or r (p - 1) false) (get_or r (p + 63) false)))
      ∙ sym (big-xor (standing r p) (required r p) (length-standing r p ∙ sym (length-required r p))))

  -- its digits: the first of the sixteen highest
  pub differs_at : (k : ℕ) → k < 16 → mismatches r p / 2 ^ (15 - k) % 2 ≡ digit (differs r p k)
  unfolding mismatches differs
  differs_at k h =
      let row = xor_row (standing r p) (required r p) in
      let n : length row ≡ 16 = length-xor (standing r p) (required r p) (length-standing r p ∙ sym (length-required r p)) ∙ length-required r p in
      let width : 16 - suc k ≡ 15 - k = omega arith in
      let back : big_bits 16 (big row) ≡ row = rw n at (big_bits-big row) in
      let bit : get_or row k false ≡ odd (big row / 2 ^ (15 - k)) =
      ap (λ (s : Row). get_or s k false) (sym back) ∙ get_or-big_bits 16 (big row) k h ∙ ap (λ (i : ℕ). odd (big row / 2 ^ i)) width in
      sym (ap digit (sym (get_or-xor (standing r p) (required r p) k) ∙ bit) ∙ digit-odd (big row / 2 ^ (15 - k)))

  -- what the code's test of one digit says
  module _ {d : ℕ} (k : ℕ) (h : k < 16) (e : d ≡ mismatches r p) where
    pub seen-differing : d / 2 ^ (15 - k) % 2 ≡ 1 → differs r p k ≡ true
    seen-differing t = go (differs r p k) (sym (rw e at t) ∙ differs_at k h)
      where
        go : (b : Bool) → 1 ≡ digit b → b ≡ true
        go true f = refl
        go false f = absurd (omega arith)

    pub seen_same : (d / 2 ^ (15 - k) % 2 ≡ 1 → ⊥) → differs r p k ≡ false
    seen_same t = go (differs r p k) (λ f. t (rw e (differs_at k h ∙ f)))
      where
        go : (b : Bool) → (digit b ≡ 1 → ⊥) → b ≡ false
        go true f = absurd (f refl)
        go false f = refl
