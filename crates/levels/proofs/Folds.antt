-- What one turn of the loops over a block's samples and octets does, and the sheet that is laid of it. Assumes nothing.
use mathlib.Core.Path.{◌≡◌, refl, sym, ap, ◌∙◌}
use mathlib.Core.Bool.{Bool, true, false, not, cond}
use mathlib.Core.List.{List, [], ◌∷◌}
use Prim.Native.Nat.{ℕ, suc, ◌+◌, ◌*◌, ◌/◌, ◌%◌, ◌≤◌, ◌<◌}
use native.Mathlib.Numerals.{add-one}
use native.Mathlib.Nat.{add-zero, zero-add}
use Rattle.std.specs.Prelude.{Option, Some, None, position}
use Rattle.std.specs.List.{position_from}
use Rattle.std.proofs.lemmas.Iterator.Adapters.{position_from-zero}
use native.Mathlib.Omega.{arith}
use lib.Count.{ones}
use lib.IntN.{ℤ, pos, nat_abs, ◌+ℤ◌}
use lib.ListN.{length, get_or, take, drop, drop_of_length-le}
use lib.Seq.{drop-cons, take-suc, length-take-le}
use Rattle.bits.specs.Pick.{pick, first}
use Rattle.bits.specs.Row.{bits, count, digit}
use Rattle.bits.specs.Listed.{listed}
use Rattle.bits.proofs.Tests.{no-yes}
use Rattle.bits.proofs.Counts.{count_ones, count-le, count-append}
use Rattle.bits.proofs.Rows.{length-bits}
use Rattle.answer.proofs.Chains.{search-cases}
use Rattle.subframe.specs.Signed.{in_range}
use Rattle.block.specs.Side.{columns, column_length, side_length, column_in, column_row}
use Rattle.block.specs.Check.{outside}
use Rattle.block.proofs.SideLaws.{get_or-column_in, length-column_in}
use Rattle.block.proofs.Frames.{row-none, row_next, outside-is}
use Rattle.levels.specs.Lines.{least, most, both}
use Rattle.levels.specs.Sheets.{Block, channel_samples, at_end, of_one, of_samples, frames_set, sheet_of}
use Rattle.levels.specs.Calls.{Fit, as_block}
use Rattle.levels.specs.Inner.{figures_of, block_lines}
use Rattle.levels.proofs.Stretches.{folded-join, folded-samples, length-channel}
use Rattle.levels.proofs.Blocks.{channel-at, samples-one, counted-one}
use Rattle.levels.proofs.Extremes.{all-in-range, magnitude-of-extremes}

-- ---- samples, from the first on

folded-one : (j : ℕ) (x : ℤ) → of_samples j (x ∷ []) ≡ of_one j x
unfolding of_samples
folded-one j x = refl

pass-first : (j : ℕ) (xs : List ℤ) → 0 < length xs → of_samples j (take 1 xs) ≡ of_one j (get_or xs 0 (pos 0))
pass-first j [] h = absurd (omega arith)
pass-first j (x ∷ xs) h = folded-one j x

ends-natural : (xs : List ℤ) → of_samples 6 xs ≡ pos (nat_abs (of_samples 6 xs))
unfolding of_samples of_one both
ends-natural [] = refl
ends-natural (x ∷ []) = refl
ends-natural (x ∷ y ∷ ys) = rw (ends-natural (y ∷ ys))

unmarked-by : (xs : List ℤ) → 0 < length xs → of_samples 1 xs ≡ pos 0
unfolding of_samples of_one both
unmarked-by [] h = absurd (omega arith)
unmarked-by (x ∷ []) h = refl
unmarked-by (x ∷ y ∷ ys) h = rw (unmarked-by (y ∷ ys) (omega arith))

module _ (xs : List ℤ) (i : ℕ) (some : 0 < i) (h : i < length xs) where
  pass-next : (j : ℕ) → of_samples j (take (i + 1) xs) ≡ both j (of_samples j (take i xs)) (of_one j (get_or xs i (pos 0)))
  pass-next j =
      rw (add-one i, take-suc xs i (pos 0) h)
      (folded-join j (take i xs) (get_or xs i (pos 0) ∷ []) (omega (arith, length-take-le i xs (omega arith))) (omega arith)
      ∙ ap (both j (of_samples j (take i xs))) (folded-one j (get_or xs i (pos 0))))

  pub smallest-next : of_samples 2 (take (i + 1) xs) ≡ least (of_samples 2 (take i xs)) (get_or xs i (pos 0))
  unfolding both of_one
  smallest-next = pass-next 2

  pub largest-next : of_samples 3 (take (i + 1) xs) ≡ most (of_samples 3 (take i xs)) (get_or xs i (pos 0))
  unfolding both of_one
  largest-next = pass-next 3

  pub sum-next : of_samples 5 (take (i + 1) xs) ≡ of_samples 5 (take i xs) +ℤ get_or xs i (pos 0)
  unfolding both of_one
  sum-next = pass-next 5

  pub ends_next : nat_abs (of_samples 6 (take (i + 1) xs)) ≡ nat_abs (of_samples 6 (take i xs)) + digit (at_end (get_or xs i (pos 0)))
  unfolding both of_one
  ends_next = rw (pass-next 6, ends-natural (take i xs))

module _ (xs : List ℤ) (some : 0 < length xs) where
  pub smallest-first : of_samples 2 (take 1 xs) ≡ get_or xs 0 (pos 0)
  unfolding of_one
  smallest-first = pass-first 2 xs some

  pub largest-first : of_samples 3 (take 1 xs) ≡ get_or xs 0 (pos 0)
  unfolding of_one
  largest-first = pass-first 3 xs some

  pub sum_first : of_samples 5 (take 1 xs) ≡ get_or xs 0 (pos 0)
  unfolding of_one
  sum_first = pass-first 5 xs some

  pub ends-first : nat_abs (of_samples 6 (take 1 xs)) ≡ digit (at_end (get_or xs 0 (pos 0)))
  unfolding of_one
  ends-first = ap nat_abs (pass-first 6 xs some)

-- ---- samples of both channels whose extremes are in range

fit-by : (samples : List ℤ)
    → ((c : ℕ) → c < 2 → (in_range 24 (of_samples 2 (channel_samples c samples)) ≡ true) × (in_range 24 (of_samples 3 (channel_samples c samples)) ≡ true))
    → Fit samples
fit-by samples both i h =
    let e : 2 * (i / 2) + i % 2 ≡ i = omega arith in
    let r = both (i % 2) (omega arith) in
    let q = all-in-range (channel_samples (i % 2) samples) r.0 r.1 (i / 2) (omega (arith, length-channel (i % 2) samples)) in
    let g = channel-at (i % 2) samples (i / 2) (omega arith) ∙ ap (λ (k : ℕ). get_or samples k (pos 0)) e in
    outside-is samples i ∙ ap not (sym (ap (in_range 24) g) ∙ q)

pub none-outside : (samples : List ℤ)
    → ((c : ℕ) → c < 2 → (in_range 24 (of_samples 2 (channel_samples c samples)) ≡ true) × (in_range 24 (of_samples 3 (channel_samples c samples)) ≡ true))
    → None ≡ first (outside samples) 0 384 (λ i. Some i) None
none-outside samples both =
    search-cases (outside samples) (λ i. Some i) None 0 384 (λ (x : Option ℕ). None ≡ x)
    (λ i l m t before. no-yes (outside samples i) (fit-by samples both i (omega arith)) t) (λ none. refl)

-- ---- a search from the first on

either-way : {A : Type 0} (t : Bool) (x y z : A) → y ≡ z → cond t x y ≡ pick t x z
either-way true x y z e = refl
either-way false x y z e = e

searched : (p : ℤ → Bool) (xs : List ℤ) (q : ℕ → Bool) (k : ℕ) → ((i : ℕ) → i < length xs → q (k + i) ≡ p (get_or xs i (pos 0)))
    → position_from p k xs ≡ first q k (length xs) (λ i. Some i) None
unfolding first
searched p [] q k same = refl
searched p (x ∷ xs) q k same =
    let h : q k ≡ p x = rw add-zero at (same 0 (omega arith)) in
    let next : (i : ℕ) → i < length xs → q (suc k + i) ≡ p (get_or xs i (pos 0)) = λ i l.
    (let e : k + suc i ≡ suc k + i = omega arith in rw e at (same (suc i) (omega arith))) in
    rw (h, add-one k) (either-way (p x) (Some k) (position_from p (suc k) xs) (first q (suc k) (length xs) (λ i. Some i) None) (searched p xs q (suc k) next))

pub first-searched : (s : List ℤ) → length s ≡ 384 → position (λ x. not (in_range 24 x)) s ≡ first (outside s) 0 384 (λ i. Some i) None
first-searched s n =
    position_from-zero (λ x. not (in_range 24 x)) s
    ∙ (rw n at (searched (λ x. not (in_range 24 x)) s (outside s) 0 (λ i h. ap (outside s) (zero-add i) ∙ outside-is s i)))

-- ---- octets of a column

pub ones-le : (x : ℕ) → x < 256 → ones x ≤ 8
ones-le x h = omega (arith, count_ones 8 x h, count-le (bits 8 x), length-bits 8 x)

row_count : (x : ℕ) (xs : List ℕ) → x < 256 → count (column_row (x ∷ xs)) ≡ ones x + count (column_row xs)
row_count x xs h =
    ap count (row_next x xs) ∙ count-append (bits 8 x) (column_row xs) ∙ ap (λ (n : ℕ). n + count (column_row xs)) (count_ones 8 x h)

count_none : count (column_row []) ≡ 0
unfolding count
count_none = rw row-none

module _ (side : List ℕ) (column : ℕ) (n : length side ≡ side_length) (c : column < 2 * columns) where
  abbrev pub left : ℕ → ℕ
  left i = count (column_row (drop i (column_in side column)))

  pub column-all : left 0 ≡ frames_set column side
  unfolding frames_set
  column-all = refl

  pub column-step : (i x : ℕ) → i < column_length → x ≡ get_or side (column_length * column + i) 0 → x < 256 → left i ≡ ones x + left (i + 1)
  column-step i x h q l =
      let g : get_or (column_in side column) i 0 ≡ x = get_or-column_in side column i h ∙ sym q in
      rw (add-one i, drop-cons (column_in side column) i 0 (omega (arith, length-column_in side n column c)), g)
      (row_count x (drop (suc i) (column_in side column)) l)

  pub column-done : (i : ℕ) → column_length ≤ i → left i ≡ 0
  column-done i h =
      rw (drop_of_length-le (column_in side column) {i = i} (omega (arith, length-column_in side n column c))) count_none

-- ---- the sheet of one block

module _ (samples : List ℤ) (side : List ℕ) where
  abbrev b : Block
  b = as_block samples side

  pub block-laid : block_lines (figures_of (channel_samples 0 samples)) (figures_of (channel_samples 1 samples)) side ≡ sheet_of (as_block samples side ∷ [])
  unfolding sheet_of listed
  block-laid =
      rw (
        samples-one 0 b,
        samples-one 1 b,
        counted-one 7 0 b,
        counted-one 8 0 b,
        counted-one 9 0 b,
        counted-one 7 1 b,
        counted-one 8 1 b,
        counted-one 9 1 b,
        folded-samples (channel_samples 0 samples),
        folded-samples (channel_samples 1 samples),
        length-channel 0 samples,
        length-channel 1 samples,
        magnitude-of-extremes (channel_samples 0 samples) (omega (arith, length-channel 0 samples)),
        magnitude-of-extremes (channel_samples 1 samples) (omega (arith, length-channel 1 samples)),
        ← ends-natural (channel_samples 0 samples),
        ← ends-natural (channel_samples 1 samples),
        unmarked-by (channel_samples 0 samples) (omega (arith, length-channel 0 samples)),
        unmarked-by (channel_samples 1 samples) (omega (arith, length-channel 1 samples)),
      )
