-- Laws of the side table: a column's row there and back, and what is read from a table in which a column was filled.
-- Assumes nothing.
use mathlib.Core.Path.{◌≡◌, sym, ap, ◌∙◌}
use mathlib.Core.Logic.{◌≢◌, ⊎_elim}
use mathlib.Core.Bool.{false, ◌&&◌}
use mathlib.Core.List.{List}
use Prim.Native.Nat.{ℕ, zero, suc, ◌+◌, ◌-◌, ◌*◌, ◌/◌, ◌%◌, ◌^◌, ◌≤◌, ◌<◌}
use native.Mathlib.Omega.{arith}
use borrow.Rule.Slice.PartMut.{mid_of}
use borrow.Author.Tests.{lt-ltb}
use lib.Dec.{ltb}
use lib.ListN.{length, get_or, drop, length-drop}
use lib.Seq.{paste, length-take-le, get_or-take, get_or-drop}
use Rattle.bits.specs.Row.{Row, digit, odd, bit, little, Below}
use Rattle.bits.specs.Window.{part}
use Rattle.bits.specs.Listed.{listed}
use Rattle.bits.proofs.Tests.{pick-cases, order}
use Rattle.bits.proofs.Digits.{digit-odd, odd-digit}
use Rattle.bits.proofs.Rows.{get_d_bits}
use Rattle.bits.proofs.Packing.{lowest, length-chain, length-pack, get_or-pack, pack-chain, chain-pack-all, get_or-chain}
use Rattle.bits.proofs.Filling.{get_or-paste, get_or-paste-below, get_or-paste-above}
use Rattle.bits.proofs.Bounds.{below-take, below-drop}
use Rattle.bits.proofs.Lists.{listed-all}
use Rattle.subframe.specs.Body.{even_body}
use Rattle.subframe.proofs.BodyLaws.{parity-lt}
use Rattle.block.specs.Side.{columns, column_bit, column_length, side_length, side_bit, column_in, column_row, column_of}

-- the part of the table that begins with a column is the column
pub column-is : (side : List ℕ) (column : ℕ) → mid_of (24 * column) (24 * column + 24 - 24 * column) side ≡ column_in side column
unfolding column_in
column-is side column =
    let e : 24 * column + 24 - 24 * column ≡ 24 = omega arith in
    rw e

-- ---- a column there and back

pub row-column : (r : Row) → length r ≡ 192 → column_row (column_of r) ≡ r
unfolding column_row column_of
row-column r h = chain-pack-all (lowest 8) column_length r h

pub column-row : (column : List ℕ) → length column ≡ column_length → Below 256 column → column_of (column_row column) ≡ column
unfolding column_row column_of
column-row column n h = rw n at (pack-chain (lowest 8) column h)

pub length-row : (column : List ℕ) → length column ≡ column_length → length (column_row column) ≡ 192
unfolding column_row
length-row column n = omega (arith, length-chain (lowest 8) column)

pub length-column : (r : Row) → length (column_of r) ≡ column_length
unfolding column_of
length-column r = length-pack little 8 column_length r

pub get_or-column : (r : Row) (j : ℕ) → j < column_length → get_or (column_of r) j 0 ≡ little (part r (j * 8) 8)
unfolding column_of
get_or-column r j h = get_or-pack little 8 column_length r j h

-- the bit of frame f stands at place f of the row
pub column-at : (column : List ℕ) (f : ℕ) → f < length column * 8
    → digit (get_or (column_row column) f false) ≡ bit (f % 8) (get_or column (f / 8) 0)
unfolding column_row
column-at column f h =
    let e : f / 8 * 8 + f % 8 ≡ f = omega arith in
    ap digit (rw e at (get_or-chain (lowest 8) column (f / 8) (f % 8) (omega arith) (omega arith))
    ∙ get_d_bits 8 (get_or column (f / 8) 0) (f % 8) (omega arith))
    ∙ digit-odd (get_or column (f / 8) 0 / 2 ^ (f % 8))

-- ---- what a column holds of a body is a digit

pub column-lt : (k body : ℕ) → column_bit k body < 2
unfolding column_bit
column-lt zero body = pick-cases (λ n. n < 2) (even_body body) (bit 28 body) 1 (λ e. omega arith) (λ e. omega arith)
column-lt (suc zero) body = omega arith
column-lt (suc (suc zero)) body = omega arith
column-lt (suc (suc (suc zero))) body = parity-lt body
column-lt (suc (suc (suc (suc k)))) body = omega arith

-- ---- the table

pub side-lt : (t : List ℕ) (k f : ℕ) → side_bit t k f < 2
unfolding side_bit
side-lt t k f =
    pick-cases (λ n. n < 2) (ltb k (2 * columns) && ltb f 192) (bit (f % 8) (get_or t (column_length * k + f / 8) 0)) 0 (λ e. omega arith) (λ e. omega arith)

-- a bit of the table, by its octet
pub side-in : (t : List ℕ) (k f : ℕ) → k < 2 * columns → f < 192 → side_bit t k f ≡ bit (f % 8) (get_or t (column_length * k + f / 8) 0)
unfolding side_bit
side-in t k f hk hf = rw (lt-ltb k (2 * columns) hk, lt-ltb f 192 hf)

pub get_or-column_in : (t : List ℕ) (k j : ℕ) → j < column_length → get_or (column_in t k) j 0 ≡ get_or t (column_length * k + j) 0
unfolding column_in
get_or-column_in t k j h = rw (get_or-take column_length (drop (column_length * k) t) j 0 h, get_or-drop)

module _ (t : List ℕ) (n : length t ≡ side_length) (k : ℕ) (hk : k < 2 * columns) where
  pub length-column_in : length (column_in t k) ≡ column_length
  unfolding column_in
  length-column_in = length-take-le column_length (drop (column_length * k) t) (rw length-drop (omega arith))

  -- a table's bits are those of its columns' rows
  pub side-row : (f : ℕ) → f < 192 → side_bit t k f ≡ digit (get_or (column_row (column_in t k)) f false)
  side-row f hf =
      side-in t k f hk hf
      ∙ sym (column-at (column_in t k) f (omega (arith, length-column_in)) ∙ ap (bit (f % 8)) (get_or-column_in t k (f / 8) (omega arith)))

  -- ---- the promises

  -- bits read and written back leave the same octets
  module _ (octets : Below 256 t) where
    pub written_back : column_of (listed 0 192 (λ f. odd (side_bit t k f))) ≡ column_in t k
    unfolding column_in
    written_back =
        ap column_of (listed-all 192 (λ f. odd (side_bit t k f)) (column_row (column_in t k)) false
        (length-row (column_in t k) length-column_in)
        (λ f hf. ap odd (side-row f hf) ∙ odd-digit (get_or (column_row (column_in t k)) f false)))
        ∙ column-row (column_in t k) length-column_in (below-take 256 column_length (drop (column_length * k) t) (below-drop 256 (column_length * k) t octets))

  -- a column that was filled is read back, and no other is changed
  module _ (r : Row) (f : ℕ) (hf : f < 192) where
    pub read-filled : length r ≡ 192 → side_bit (paste t (column_length * k) (column_of r) column_length) k f ≡ digit (get_or r f false)
    read-filled l =
        let c : length (column_of r) ≡ column_length = length-column r in
        side-in (paste t (column_length * k) (column_of r) column_length) k f hk hf
        ∙ ap (bit (f % 8)) (get_or-paste t (column_length * k) (column_of r) column_length (omega arith) (omega arith) 0 (f / 8) (omega arith))
        ∙ sym (column-at (column_of r) f (omega arith)) ∙ rw (row-column r l)

    pub read-other : (j : ℕ) → j < 2 * columns → j ≢ k → side_bit (paste t (column_length * j) (column_of r) column_length) k f ≡ side_bit t k f
    read-other j hj ne =
        let c : length (column_of r) ≡ column_length = length-column r in
        side-in (paste t (column_length * j) (column_of r) column_length) k f hk hf
        ∙ ap (bit (f % 8)) (⊎_elim
        (λ (l : j ≤ k). get_or-paste-above t (column_length * j) (column_of r) column_length (omega arith) (omega arith) 0 (column_length * k + f / 8) (omega (arith, ne)))
        (λ (l : k < j). get_or-paste-below t (column_length * j) (column_of r) column_length (omega arith) (omega arith) 0 (column_length * k + f / 8) (omega arith))
        (order j k))
        ∙ sym (side-in t k f hk hf)
