-- The V bits of a channel by octets: eight frames at a time, one of them 0 where the octet is not 255. Assumes nothing.
use mathlib.Core.Path.{◌≡◌, sym, ap, ap₂, ◌∙◌}
use mathlib.Core.Logic.{◌≢◌}
use mathlib.Core.Bool.{Bool, true, false, not}
use mathlib.Core.List.{List}
use Prim.Native.Nat.{ℕ, ◌+◌, ◌-◌, ◌*◌, ◌/◌, ◌%◌, ◌≤◌, ◌<◌}
use native.Mathlib.Omega.{arith}
use borrow.Author.Tests.{eq-eqb, ne_eqb}
use lib.Dec.{eqb}
use lib.ListN.{get_or}
use Rattle.bits.specs.Pick.{pick, first}
use Rattle.bits.specs.Row.{digit, odd, bit}
use Rattle.bits.proofs.Digits.{odd-digit}
use Rattle.bits.proofs.Every.{agree}
use Rattle.bits.proofs.Places.{some, some-split, some_same}
use Rattle.block.specs.Side.{columns, column_length, side_bit}
use Rattle.block.proofs.SideLaws.{side-in}

-- the bit of a frame in column k is 0
abbrev pub no_v : List ℕ → ℕ → ℕ → Bool
no_v side k f = eqb (side_bit side k f) 0

-- one of the eight bits of an octet is 0 where it is not 255
some-zero : (x : ℕ) → x < 256 → some (λ i. eqb (bit i x) 0) 0 8 ≡ not (eqb x 255)
unfolding first
some-zero x h =
    sym (odd-digit (some (λ i. eqb (bit i x) 0) 0 8))
    ∙ ap odd (agree 256 (λ y. digit (some (λ i. eqb (bit i y) 0) 0 8)) (λ y. digit (not (eqb y 255))) tt x h)
    ∙ odd-digit (not (eqb x 255))

module _ (side : List ℕ) (k j : ℕ) (hk : k < 2 * columns) (hj : j < column_length) where
  eight : get_or side (column_length * k + j) 0 < 256 → some (no_v side k) (j * 8) 8 ≡ not (eqb (get_or side (column_length * k + j) 0) 255)
  eight h =
      some_same (no_v side k) (λ i. eqb (bit i (get_or side (column_length * k + j) 0)) 0) (j * 8) 0 8 same ∙ some-zero (get_or side (column_length * k + j) 0) h
    where
      same : (i : ℕ) → i < 8 → no_v side k (j * 8 + i) ≡ eqb (bit (0 + i) (get_or side (column_length * k + j) 0)) 0
      same i l =
          let p : (j * 8 + i) % 8 ≡ 0 + i = omega arith in
          let q : column_length * k + (j * 8 + i) / 8 ≡ column_length * k + j = omega arith in
          ap (λ (d : ℕ). eqb d 0) (side-in side k (j * 8 + i) hk (omega arith)
          ∙ ap₂ (λ (b o : ℕ). bit b (get_or side o 0)) p q)

  split : some (no_v side k) (j * 8) (192 - j * 8)
      ≡ pick (some (no_v side k) (j * 8) 8) true (some (no_v side k) ((j + 1) * 8) (192 - (j + 1) * 8))
  split =
      let n : 192 - j * 8 ≡ 8 + (192 - (j + 1) * 8) = omega arith in
      let m : j * 8 + 8 ≡ (j + 1) * 8 = omega arith in
      rw (n, some-split (no_v side k) (j * 8) 8 (192 - (j + 1) * 8), m)

  pub octet-one : get_or side (column_length * k + j) 0 < 256 → get_or side (column_length * k + j) 0 ≢ 255 → some (no_v side k) (j * 8) (192 - j * 8) ≡ true
  octet-one h ne = rw (split, eight h, ne_eqb (get_or side (column_length * k + j) 0) 255 ne)

  pub octet-none : get_or side (column_length * k + j) 0 ≡ 255
      → some (no_v side k) (j * 8) (192 - j * 8) ≡ some (no_v side k) ((j + 1) * 8) (192 - (j + 1) * 8)
  octet-none e = rw (split, eight (omega arith), eq-eqb (get_or side (column_length * k + j) 0) 255 e)

pub none_left : (side : List ℕ) (k j : ℕ) → column_length ≤ j → some (no_v side k) (j * 8) (192 - j * 8) ≡ false
unfolding first
none_left side k j h =
    let n : 192 - j * 8 ≡ 0 = omega arith in
    rw n
