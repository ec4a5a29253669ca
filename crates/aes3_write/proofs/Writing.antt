-- A subframe as the writer goes: a body behind the octet of a preamble, and its symbols as octets. Assumes nothing.
use mathlib.Core.Path.{◌≡◌, refl, sym, ap, ◌∙◌}
use mathlib.Core.Bool.{Bool, false}
use mathlib.Core.List.{[], ◌∷◌, ◌++◌}
use Prim.Native.Nat.{ℕ, ◌+◌, ◌-◌, ◌*◌, ◌/◌, ◌%◌, ◌^◌, ◌≤◌, ◌<◌}
use native.Mathlib.Nat.{zero-add, add_comm, mod-eq_of_lt}
use native.Mathlib.Omega.{arith}
use lib.Bits.{bit_xor, xor_zero_r}
use lib.Count.{ones, ones_cat}
use lib.ListN.{length, get_or, length-append}
use Rattle.bits.specs.Row.{Row, odd, bits, big_bits, big}
use Rattle.bits.specs.Window.{window}
use Rattle.std.specs.Int.{w64, to_be_bytes}
use Rattle.bits.specs.Pack.{pack, octets}
use Rattle.bits.proofs.Rows.{length-bits, length-big_bits, bits-mod, big_lt, big-append, big-big_bits}
use Rattle.bits.proofs.Windows.{part-all, part-drop, window-inside}
use Rattle.line.specs.Biphase.{biphase, biphase_table}
use Rattle.line.proofs.PreambleLaws.{after-0, word_after_lem}
use Rattle.line.proofs.BiphaseLaws.{length-biphase}
use Rattle.line.proofs.BiphaseByOctet.{entry_lt, entry-after}
use Rattle.line.proofs.BiphaseOctets.{eight-first}
use Rattle.line.proofs.BiphaseWords.{big-biphase}
use Rattle.subframe.specs.Body.{slots, parity_of}
use Rattle.subframe.proofs.BodyLaws.{parity-lt, parity-ones, slots-bits}
use Rattle.aes3_line.specs.Subframe.{due, subframe}
use Rattle.aes3_line.proofs.Preambles.{due-row, subframe-after}
use Rattle.aes3_write.specs.Inner.{opened, word_after, inverter, inverters, body_with}
use Rattle.aes3_write.proofs.Flags.{laid-with}
use Rattle.aes3_write.proofs.Inverting.{second_of, third_of, fourth_of, side_by_side}

-- ---- a body behind the octet of a preamble

-- after level 0
abbrev plain : ℕ → ℕ → Row
plain m b = big_bits 8 m ++ biphase false (slots b)

slots-long : (b : ℕ) → length (biphase false (slots b)) ≡ 56
slots-long b = rw (slots-bits b, length-biphase false (bits 28 (b / 2 ^ 4)), length-bits 28 (b / 2 ^ 4))

length-plain : (m b : ℕ) → length (plain m b) ≡ 64
length-plain m b = rw (length-append, length-big_bits 8 m, slots-long b)

opened-0 : (m b : ℕ) → opened m false b ≡ plain m b
unfolding opened
opened-0 m b = after-0 (plain m b)

big-opened : (m b : ℕ) → m < 256 → big (opened m false b) ≡ m * 2 ^ 56 + big (biphase false (slots b))
big-opened m b h =
    ap big (opened-0 m b)
    ∙ (rw (slots-long b) at (big-append (big_bits 8 m) (biphase false (slots b))))
    ∙ ap (λ (o : ℕ). o * 2 ^ 56 + big (biphase false (slots b))) (big-big_bits 8 m ∙ mod-eq_of_lt h)

pub slots-lt : (b : ℕ) → big (biphase false (slots b)) < 2 ^ 56
slots-lt b = rw (slots-long b) at (big_lt (biphase false (slots b)))

-- where the octet is that of the preamble that is due, it is the subframe
pub opened-due : (i : ℕ) (l : Bool) (b : ℕ) → opened (big (due i)) l b ≡ subframe i l b
unfolding opened
opened-due i l b = rw (due-row i) (subframe-after i l b)

-- ---- its 56 symbols by four entries

-- of 28 bits, sixteen symbols three times, and the first eight of the last sixteen
module _ (y a b c d : ℕ) (hy : y < 2 ^ 28) (ea : a ≡ get_or biphase_table (y % 256) 0) (eb : b ≡ get_or biphase_table (y / 256 % 256) 0)
    (ec : c ≡ get_or biphase_table (y / 65536 % 256) 0) (ed : d ≡ get_or biphase_table (y / 16777216) 0) where
  -- an entry after a level, for eight of them
  after : (l : Bool) (e x : ℕ) → e ≡ get_or biphase_table (x % 256) 0 → bit_xor e (inverter 16 l) ≡ big (biphase l (bits 8 x))
  after l e x h =
      ap (λ (n : ℕ). bit_xor n (inverter 16 l)) h ∙ entry-after l (x % 256) (omega arith) ∙ ap (λ (r : Row). big (biphase l r)) (bits-mod 8 x)

  first : a ≡ big (biphase false (bits 8 y))
  first = sym (xor_zero_r a) ∙ after false a y ea

  abbrev q : ℕ
  q = second_of a b

  abbrev r : ℕ
  r = third_of a b c

  abbrev s : ℕ
  s = fourth_of a b c d

  q-is : q ≡ big (biphase (odd a) (bits 8 (y / 256)))
  q-is = after (odd a) b (y / 256) eb

  r-is : r ≡ big (biphase (odd q) (bits 8 (y / 256 / 256)))
  r-is =
      let z : y / 256 / 256 % 256 ≡ y / 65536 % 256 = omega arith in
      after (odd q) c (y / 256 / 256) (ec ∙ ap (λ (n : ℕ). get_or biphase_table n 0) (sym z))

  s-is : s / 256 ≡ big (biphase (odd r) (bits 4 (y / 256 / 256 / 256)))
  s-is =
      let x = y / 256 / 256 / 256 in
      let z : x % 256 ≡ y / 16777216 = omega arith in
      ap (λ (n : ℕ). n / 256) (after (odd r) d x (ed ∙ ap (λ (n : ℕ). get_or biphase_table n 0) (sym z))) ∙ eight-first (odd r) x

  whole_word : big (biphase false (bits 28 y)) ≡ a * 2 ^ 40 + (q * 2 ^ 24 + (r * 2 ^ 8 + s / 256))
  whole_word =
      big-biphase 7 20 false y
      ∙ rw (← first)
      (ap (λ (n : ℕ). a * 2 ^ 40 + n)
      (big-biphase 7 12 (odd a) (y / 256) ∙ rw (← q-is)
      (ap (λ (n : ℕ). q * 2 ^ 24 + n) (big-biphase 7 4 (odd q) (y / 256 / 256) ∙ rw (← r-is) (ap (λ (n : ℕ). r * 2 ^ 8 + n) (sym s-is))))))

  entry-small : (e x : ℕ) → x < 256 → e ≡ get_or biphase_table x 0 → e < 2 ^ 16
  entry-small e x h g = rw g (entry_lt x h)

  pub word-by-entries : bit_xor (((a * 65536 + b) * 65536 + c) * 256 + d / 256) (inverters (odd a) (odd b) (odd c)) ≡ big (biphase false (bits 28 y))
  word-by-entries =
      side_by_side a b c d (entry-small b (y / 256 % 256) (omega arith) eb) (entry-small c (y / 65536 % 256) (omega arith) ec)
      (entry-small d (y / 16777216) (omega arith) ed)
      ∙ sym whole_word

-- and of a body, from a sample's 24 bits and its flags
module _ (k f : ℕ) (hk : k < 2 ^ 24) (hf : f < 8) where
  abbrev low : ℕ
  low = k * 16 + f * 2 ^ 28

  -- the order of the bits does not change their parity
  pub same-parity : parity_of (k * 256 + f * 16) ≡ parity_of low
  same-parity =
      let x : (k * 256 + f * 16) / 16 ≡ k * 2 ^ 4 + f = omega arith in
      let y : low / 16 ≡ f * 2 ^ 24 + k = omega arith in
      parity-ones (k * 256 + f * 16) (omega arith) ∙ ap (λ (n : ℕ). ones n % 2) x
      ∙ ap (λ (n : ℕ). n % 2) (ones_cat 4 k f (omega arith) ∙ add_comm (ones k) (ones f))
      ∙ sym (parity-ones low (omega arith) ∙ ap (λ (n : ℕ). ones n % 2) y ∙ ap (λ (n : ℕ). n % 2) (ones_cat 24 f k hk))

  module _ (t : ℕ) (et : t ≡ f + parity_of low * 8) where
    abbrev y : ℕ
    y = k + t * 2 ^ 24

    body-slots : slots (body_with k f) ≡ bits 28 y
    body-slots =
        let z : (low + parity_of low * 2 ^ 31) / 2 ^ 4 ≡ y = omega arith in
        slots-bits (body_with k f) ∙ ap (λ (n : ℕ). bits 28 (n / 2 ^ 4)) (sym (laid-with k f low hf refl)) ∙ ap (bits 28) z

    pub word-of-body : (a b c d : ℕ) → a ≡ get_or biphase_table (k % 256) 0 → b ≡ get_or biphase_table (k / 256 % 256) 0 → c ≡ get_or biphase_table (k / 65536) 0
        → d ≡ get_or biphase_table t 0
        → bit_xor (((a * 65536 + b) * 65536 + c) * 256 + d / 256) (inverters (odd a) (odd b) (odd c)) ≡ big (biphase false (slots (body_with k f)))
    word-of-body a b c d ea eb ec ed =
        let h : t < 16 = omega (arith, parity-lt low) in
        let at : (m n : ℕ) → m ≡ n → get_or biphase_table m 0 ≡ get_or biphase_table n 0 = λ m n e. ap (λ (i : ℕ). get_or biphase_table i 0) e in
        word-by-entries y a b c d (omega arith) (ea ∙ at (k % 256) (y % 256) (omega arith)) (eb ∙ at (k / 256 % 256) (y / 256 % 256) (omega arith))
        (ec ∙ at (k / 65536) (y / 65536 % 256) (omega arith)) (ed ∙ at t (y / 16777216) (omega arith))
        ∙ ap (λ (r : Row). big (biphase false r)) (sym body-slots)

-- ---- 64 symbols as a number

-- behind the octet of a preamble, after a level
pub word-opened : (m : ℕ) (l : Bool) (b : ℕ) → m < 256 → big_bits 64 (word_after l (m * 2 ^ 56 + big (biphase false (slots b)))) ≡ opened m l b
unfolding opened word_after
word-opened m l b h = rw (← big-opened m b h) (rw (after-0 (plain m b)) (word_after_lem l (plain m b) (length-plain m b)))

-- the octets of a word
module _ (w : ℕ) (h : w < 2 ^ 64) where
  abbrev row : Row
  row = big_bits 64 w

  whole : window row 0 64 ≡ w
  unfolding window
  whole = ap big (part-all row 64 (length-big_bits 64 w)) ∙ big-big_bits 64 w ∙ mod-eq_of_lt h

  octet : (a : ℕ) → a + 8 ≤ 64 → w / 2 ^ (64 - (a + 8)) % 2 ^ 8 ≡ window row a 8
  octet a n = ap (λ (x : ℕ). x / 2 ^ (64 - (a + 8)) % 2 ^ 8) (sym whole) ∙ window-inside row 0 64 a 8 n ∙ rw zero-add

  windows : octets 8 row
      ≡ window row 0 8 ∷ window row 8 8 ∷ window row 16 8 ∷ window row 24 8 ∷ window row 32 8 ∷ window row 40 8 ∷ window row 48 8 ∷ window row 56 8 ∷ []
  unfolding pack window
  windows = simp part-drop

  pub word-octets : to_be_bytes w64 w ≡ octets 8 row
  word-octets =
      let last : w % 256 ≡ w / 1 % 256 = omega arith in
      rw (
        octet 0 (omega arith),
        octet 8 (omega arith),
        octet 16 (omega arith),
        octet 24 (omega arith),
        octet 32 (omega arith),
        octet 40 (omega arith),
        octet 48 (omega arith),
        last ∙ octet 56 (omega arith),
      ) (sym windows)
