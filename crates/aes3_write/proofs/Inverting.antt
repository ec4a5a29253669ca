-- What inverts the symbols of a body: by the table, and what it makes of the entries that stand side by side. Assumes
-- nothing.
use mathlib.Core.Path.{◌≡◌, refl, sym, ap, ap₂, ◌∙◌}
use mathlib.Core.Bool.{Bool, true, false, xor}
use Prim.Native.Nat.{ℕ, ◌+◌, ◌*◌, ◌/◌, ◌%◌, ◌^◌, ◌<◌}
use native.Mathlib.Omega.{arith}
use lib.Bits.{bit_and, bit_xor, and_block, and_mask, xor_block, xor_zero_r, xor_shr}
use lib.ListN.{get_or}
use Rattle.bits.specs.Row.{odd}
use Rattle.bits.specs.Listed.{listed}
use Rattle.bits.proofs.Digits.{digit-cases, odd-mod}
use Rattle.bits.proofs.XorRows.{odd-xor}
use Rattle.aes3_write.specs.Inner.{inverter, inverters, inverters_table}
use Rattle.aes3_write.specs.declared.tables.TheConstants.{INVERTERS}

-- ---- the table

pub inverters-right : INVERTERS ≡ inverters_table
unfolding inverters_table inverters listed xor
inverters-right = refl

at-three : (x y z : ℕ) → x < 2 → y < 2 → z < 2 → get_or inverters_table (x * 4 + y * 2 + z) 0 ≡ inverters (odd x) (odd y) (odd z)
unfolding inverters_table listed
at-three x y z hx hy hz =
    digit-cases (λ (x : ℕ). get_or inverters_table (x * 4 + y * 2 + z) 0 ≡ inverters (odd x) (odd y) (odd z))
    (digit-cases (λ (y : ℕ). get_or inverters_table (0 * 4 + y * 2 + z) 0 ≡ inverters false (odd y) (odd z))
    (digit-cases (λ (z : ℕ). get_or inverters_table (0 * 4 + 0 * 2 + z) 0 ≡ inverters false false (odd z)) refl refl z hz)
    (digit-cases (λ (z : ℕ). get_or inverters_table (0 * 4 + 1 * 2 + z) 0 ≡ inverters false true (odd z)) refl refl z hz) y hy)
    (digit-cases (λ (y : ℕ). get_or inverters_table (1 * 4 + y * 2 + z) 0 ≡ inverters true (odd y) (odd z))
    (digit-cases (λ (z : ℕ). get_or inverters_table (1 * 4 + 0 * 2 + z) 0 ≡ inverters true false (odd z)) refl refl z hz)
    (digit-cases (λ (z : ℕ). get_or inverters_table (1 * 4 + 1 * 2 + z) 0 ≡ inverters true true (odd z)) refl refl z hz) y hy)
    x hx

-- ---- the lowest bits of three entries

-- side by side
gathered : (x y z : ℕ) → x < 2 → y < 2 → z < 2 → (x * 2 ^ 32 + (y * 2 ^ 16 + z)) * 0x80010002 / 0x80000000 % 8 ≡ x * 4 + y * 2 + z
gathered x y z hx hy hz =
    digit-cases (λ (x : ℕ). (x * 2 ^ 32 + (y * 2 ^ 16 + z)) * 0x80010002 / 0x80000000 % 8 ≡ x * 4 + y * 2 + z)
    (digit-cases (λ (y : ℕ). (0 * 2 ^ 32 + (y * 2 ^ 16 + z)) * 0x80010002 / 0x80000000 % 8 ≡ 0 * 4 + y * 2 + z)
    (digit-cases (λ (z : ℕ). (0 * 2 ^ 32 + (0 * 2 ^ 16 + z)) * 0x80010002 / 0x80000000 % 8 ≡ 0 * 4 + 0 * 2 + z) refl refl z hz)
    (digit-cases (λ (z : ℕ). (0 * 2 ^ 32 + (1 * 2 ^ 16 + z)) * 0x80010002 / 0x80000000 % 8 ≡ 0 * 4 + 1 * 2 + z) refl refl z hz) y hy)
    (digit-cases (λ (y : ℕ). (1 * 2 ^ 32 + (y * 2 ^ 16 + z)) * 0x80010002 / 0x80000000 % 8 ≡ 1 * 4 + y * 2 + z)
    (digit-cases (λ (z : ℕ). (1 * 2 ^ 32 + (0 * 2 ^ 16 + z)) * 0x80010002 / 0x80000000 % 8 ≡ 1 * 4 + 0 * 2 + z) refl refl z hz)
    (digit-cases (λ (z : ℕ). (1 * 2 ^ 32 + (1 * 2 ^ 16 + z)) * 0x80010002 / 0x80000000 % 8 ≡ 1 * 4 + 1 * 2 + z) refl refl z hz) y hy)
    x hx

one : (x : ℕ) → bit_and x 1 ≡ x % 2
one x = and_mask x 1

module _ (u : ℕ) where
  pub lows : bit_and u 0x100010001 ≡ u / 2 ^ 32 % 2 * 2 ^ 32 + (u / 2 ^ 16 % 2 * 2 ^ 16 + u % 2)
  lows =
      let a = u / 2 ^ 32 in
      let b = u / 2 ^ 16 % 2 ^ 16 in
      let c = u % 2 ^ 16 in
      let split : u ≡ (a * 2 ^ 16 + b) * 2 ^ 16 + c = omega arith in
      ap (λ (n : ℕ). bit_and n 0x100010001) split
      ∙ and_block 16 (a * 2 ^ 16 + b) 0x10001 c 1 (omega arith) (omega arith)
      ∙ ap₂ (λ (m n : ℕ). m * 2 ^ 16 + n) (and_block 16 a 1 b 1 (omega arith) (omega arith) ∙ ap₂ (λ (m n : ℕ). m * 2 ^ 16 + n) (one a) (one b)) (one c)
      ∙ omega arith

  pub lows-lt : bit_and u 0x100010001 < 0x100010002
  lows-lt = omega (arith, lows)

  pub inverters-at : get_or inverters_table (bit_and u 0x100010001 * 0x80010002 / 0x80000000 % 8) 0
      ≡ inverters (odd (u / 2 ^ 32)) (odd (u / 2 ^ 16)) (odd u)
  inverters-at =
      let x = u / 2 ^ 32 % 2 in
      let y = u / 2 ^ 16 % 2 in
      let z = u % 2 in
      ap (λ (n : ℕ). get_or inverters_table (n * 0x80010002 / 0x80000000 % 8) 0) lows
      ∙ ap (λ (n : ℕ). get_or inverters_table n 0) (gathered x y z (omega arith) (omega arith) (omega arith))
      ∙ at-three x y z (omega arith) (omega arith) (omega arith)
      ∙ rw (odd-mod (u / 2 ^ 32), odd-mod (u / 2 ^ 16), odd-mod u)

-- ---- side by side they are the entries after their levels

odd-inverter : (l : Bool) → odd (inverter 16 l) ≡ l
odd-inverter true = refl
odd-inverter false = refl

first-inverter : (l : Bool) → inverter 16 l / 2 ^ 8 ≡ inverter 8 l
first-inverter true = refl
first-inverter false = refl

inverter-lt : (l : Bool) → inverter 16 l < 2 ^ 16
inverter-lt true = omega arith
inverter-lt false = omega arith

inverter-8-lt : (l : Bool) → inverter 8 l < 2 ^ 8
inverter-8-lt true = omega arith
inverter-8-lt false = omega arith

-- the entries after the first, each after the level that the one before it leaves
abbrev pub second_of : ℕ → ℕ → ℕ
second_of a b = bit_xor b (inverter 16 (odd a))

abbrev pub third_of : ℕ → ℕ → ℕ → ℕ
third_of a b c = bit_xor c (inverter 16 (odd (second_of a b)))

abbrev pub fourth_of : ℕ → ℕ → ℕ → ℕ → ℕ
fourth_of a b c d = bit_xor d (inverter 16 (odd (third_of a b c)))

module _ (a b c d : ℕ) (hb : b < 2 ^ 16) (hc : c < 2 ^ 16) (hd : d < 2 ^ 16) where
  abbrev second : ℕ
  second = second_of a b

  abbrev third : ℕ
  third = third_of a b c

  abbrev fourth : ℕ
  fourth = fourth_of a b c d

  odd-second : odd second ≡ xor (odd b) (odd a)
  odd-second = odd-xor b (inverter 16 (odd a)) ∙ ap (xor (odd b)) (odd-inverter (odd a))

  odd-third : odd third ≡ xor (odd c) (xor (odd b) (odd a))
  odd-third = odd-xor c (inverter 16 (odd second)) ∙ ap (xor (odd c)) (odd-inverter (odd second) ∙ odd-second)

  last-eight : fourth / 2 ^ 8 ≡ bit_xor (d / 2 ^ 8) (inverter 8 (odd third))
  last-eight = xor_shr d (inverter 16 (odd third)) 8 ∙ ap (bit_xor (d / 2 ^ 8)) (first-inverter (odd third))

  abbrev m : ℕ
  m = inverter 16 (odd a)

  abbrev n : ℕ
  n = inverter 16 (odd second)

  abbrev o : ℕ
  o = inverter 8 (odd third)

  made : inverters (odd a) (odd b) (odd c) ≡ m * 2 ^ 24 + (n * 2 ^ 8 + o)
  unfolding inverters
  made = rw (odd-third, odd-second)

  pub side_by_side : bit_xor (((a * 65536 + b) * 65536 + c) * 256 + d / 256) (inverters (odd a) (odd b) (odd c))
      ≡ a * 2 ^ 40 + (second * 2 ^ 24 + (third * 2 ^ 8 + fourth / 2 ^ 8))
  side_by_side =
      let hm : m < 2 ^ 16 = inverter-lt (odd a) in
      let hn : n < 2 ^ 16 = inverter-lt (odd second) in
      let ho : o < 2 ^ 8 = inverter-8-lt (odd third) in
      let e : ((a * 65536 + b) * 65536 + c) * 256 + d / 256 ≡ a * 2 ^ 40 + (b * 2 ^ 24 + (c * 2 ^ 8 + d / 2 ^ 8)) = omega arith in
      let f : inverters (odd a) (odd b) (odd c) ≡ 0 * 2 ^ 40 + (m * 2 ^ 24 + (n * 2 ^ 8 + o)) = made ∙ omega arith in
      ap₂ bit_xor e f
      ∙ xor_block 40 a 0 (b * 2 ^ 24 + (c * 2 ^ 8 + d / 2 ^ 8)) (m * 2 ^ 24 + (n * 2 ^ 8 + o)) (omega arith) (omega arith)
      ∙ ap₂ (λ (x y : ℕ). x * 2 ^ 40 + y) (xor_zero_r a)
      (xor_block 24 b m (c * 2 ^ 8 + d / 2 ^ 8) (n * 2 ^ 8 + o) (omega arith) (omega arith)
      ∙ ap (λ (y : ℕ). second * 2 ^ 24 + y)
      (xor_block 8 c n (d / 2 ^ 8) o (omega arith) ho ∙ ap (λ (y : ℕ). third * 2 ^ 8 + y) (sym last-eight)))
