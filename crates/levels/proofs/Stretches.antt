-- The sheet of blocks: that of two stretches on end is the join of theirs; adding one by one gives it. Assumes nothing.
use mathlib.Core.Path.{◌≡◌, refl, sym, ap, ◌∙◌}
use mathlib.Core.Bool.{Bool, true, false}
use mathlib.Core.List.{List, [], ◌∷◌, ◌++◌, append_assoc, append-nil}
use Prim.Native.Nat.{ℕ, ◌+◌, ◌*◌, ◌/◌, ◌%◌, ◌≤◌, ◌<◌}
use native.Mathlib.Nat.{zero-add}
use native.Mathlib.Omega.{arith}
use borrow.Author.Tests.{ltb-false, ne_eqb}
use lib.Dec.{ltb}
use lib.IntN.{ℤ, pos, nat_abs, ◌+ℤ◌}
use lib.ListN.{length, length-append, get_or}
use Rattle.bits.proofs.Lists.{length-listed}
use Rattle.levels.specs.Lines.{both, joined_line, samples_on, sheet_joined, joined_at, empty_sheet, empty_line}
use Rattle.levels.specs.Sheets.{Block, channel_samples, samples_in, of_one, of_samples, of_sides, line_in, sheet_of}
use Rattle.levels.proofs.Joining.{both-assoc, none_left, none_right, some-both, listed_same}
use Rattle.levels.proofs.Places.{at-sheet}

-- ---- folds of two lists on end

pub folded-join : (j : ℕ) (xs ys : List ℤ) → 0 < length xs → 0 < length ys → of_samples j (xs ++ ys) ≡ both j (of_samples j xs) (of_samples j ys)
unfolding of_samples
folded-join j [] ys p q = absurd (omega arith)
folded-join j (x ∷ xs) [] p q = absurd (omega arith)
folded-join j (x ∷ []) (y ∷ ys) p q = refl
folded-join j (x ∷ w ∷ xs) (y ∷ ys) p q =
    rw (folded-join j (w ∷ xs) (y ∷ ys) (omega arith) (omega arith)) (sym (both-assoc j (of_one j x) (of_samples j (w ∷ xs)) (of_samples j (y ∷ ys))))

pub folded-samples : (xs : List ℤ) → of_samples 0 xs ≡ pos (length xs)
unfolding of_samples of_one both
folded-samples [] = refl
folded-samples (x ∷ []) = refl
folded-samples (x ∷ y ∷ ys) = rw (folded-samples (y ∷ ys)) (ap pos (omega arith))

-- ---- samples and counts of blocks

pub length-channel : (c : ℕ) (s : List ℤ) → length (channel_samples c s) ≡ 192
unfolding channel_samples
length-channel c s = length-listed 0 192 (λ i. get_or s (2 * i + c) (pos 0))

pub length-samples : (c : ℕ) (bs : List Block) → length (samples_in c bs) ≡ 192 * length bs
unfolding samples_in
length-samples c [] = omega arith
length-samples c (b ∷ bs) =
    rw (length-append, length-channel c b.samples, length-samples c bs) (omega arith)

pub samples-join : (c : ℕ) (us bs : List Block) → samples_in c (us ++ bs) ≡ samples_in c us ++ samples_in c bs
unfolding samples_in
samples-join c [] bs = refl
samples-join c (a ∷ us) bs = rw (samples-join c us bs, append_assoc)

pub counted-join : (j c : ℕ) (us bs : List Block) → of_sides j c (us ++ bs) ≡ of_sides j c us + of_sides j c bs
unfolding of_sides
counted-join j c [] bs = rw zero-add
counted-join j c (a ∷ us) bs = rw (counted-join j c us bs) (omega arith)

-- ---- the samples of a sheet's channel

pub head-sheet : (bs : List Block) (k : ℕ) → k < 20 → samples_on (sheet_of bs) k ≡ 192 * length bs
head-sheet bs k h =
    let z : k / 10 * 10 % 10 ≡ 0 = omega arith in
    ap nat_abs (at-sheet bs (k / 10 * 10) (omega arith))
    ∙ rw (z, folded-samples (samples_in (k / 10 * 10 / 10) bs)) (length-samples (k / 10 * 10 / 10) bs)

-- ---- line by line

both-sum : (j : ℕ) (x y : ℤ) → 7 ≤ j → both j x y ≡ x +ℤ y
unfolding both
both-sum j x y h = rw (ne_eqb j 2 (λ e. omega arith), ne_eqb j 3 (λ e. omega arith), ne_eqb j 4 (λ e. omega arith))

line-join : (us bs : List Block) (k : ℕ) → 0 < length us → 0 < length bs → line_in (us ++ bs) k ≡ both (k % 10) (line_in us k) (line_in bs k)
line-join us bs k p q = go (ltb (k % 10) 7) refl
  where
    go : (t : Bool) → ltb (k % 10) 7 ≡ t → line_in (us ++ bs) k ≡ both (k % 10) (line_in us k) (line_in bs k)
    go true e =
        rw (e, samples-join (k / 10) us bs)
        (folded-join (k % 10) (samples_in (k / 10) us) (samples_in (k / 10) bs) (omega (arith, length-samples (k / 10) us))
        (omega (arith, length-samples (k / 10) bs)))
    go false e =
        rw (e, counted-join (k % 10) (k / 10) us bs)
        (sym (both-sum (k % 10) (pos (of_sides (k % 10) (k / 10) us)) (pos (of_sides (k % 10) (k / 10) bs)) (omega (
          arith,
          ltb-false
              (k % 10) 7 e,
        ))))

-- ---- the sheet of two stretches on end is the join of their sheets

pub sheet-join : (us bs : List Block) → sheet_of (us ++ bs) ≡ sheet_joined (sheet_of us) (sheet_of bs)
unfolding sheet_of sheet_joined
sheet-join us bs =
    listed_same (line_in (us ++ bs)) (joined_at (sheet_of us) (sheet_of bs))
    (λ k h. rw (head-sheet us k h, head-sheet bs k h, at-sheet us k h, at-sheet bs k h) (go us bs k))
  where
    go : (us bs : List Block) (k : ℕ)
        → line_in (us ++ bs) k ≡ joined_line (k % 10) (192 * length us) (192 * length bs) (line_in us k) (line_in bs k)
    go [] bs k = sym (none_left (k % 10) (192 * length bs) (line_in [] k) (line_in bs k))
    go (a ∷ us) [] k =
        rw append-nil (sym (none_right (k % 10) (192 * length (a ∷ us)) (line_in (a ∷ us) k) (line_in [] k) (omega arith)))
    go (a ∷ us) (b ∷ bs) k =
        line-join (a ∷ us) (b ∷ bs) k (omega arith) (omega arith)
        ∙ sym (some-both (k % 10) (192 * length (a ∷ us)) (192 * length (b ∷ bs)) (line_in (a ∷ us) k) (line_in (b ∷ bs) k) (omega arith)
        (omega arith))

none-at : (k : ℕ) (t : Bool) → ltb (k % 10) 7 ≡ t → line_in [] k ≡ empty_line (k % 10)
unfolding of_samples samples_in of_sides
none-at k true e = rw e
none-at k false e = rw (e, ne_eqb (k % 10) 1 (λ q. omega (arith, ltb-false (k % 10) 7 e)))

-- the sheet of no blocks is the empty sheet
pub sheet-none : sheet_of [] ≡ empty_sheet
unfolding sheet_of empty_sheet
sheet-none = listed_same (line_in []) (λ k. empty_line (k % 10)) (λ k h. none-at k (ltb (k % 10) 7) refl)
