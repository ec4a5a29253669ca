-- The sheet of one block is accepted, and so is what adding leaves. Assumes nothing.
use mathlib.Core.Path.{◌≡◌, refl, sym, ap, ◌∙◌}
use mathlib.Core.Bool.{Bool, true, false, not}
use mathlib.Core.List.{List, [], ◌∷◌, append-nil}
use Prim.Native.Nat.{ℕ, zero, suc, ◌+◌, ◌*◌, ◌/◌, ◌%◌, ◌≤◌, ◌<◌}
use native.Mathlib.Nat.{add-zero}
use native.Mathlib.Omega.{arith}
use borrow.Author.Tests.{lt-ltb, ltb-true, ltb-false, le-leb, ne_eqb, not-false}
use lib.Dec.{eqb, ltb}
use lib.IntN.{ℤ, pos, negsuc}
use lib.ListN.{length, get_or}
use lib.Signed.{mag}
use Rattle.bits.specs.Row.{digit}
use Rattle.bits.proofs.Tests.{pick-cases}
use Rattle.bits.proofs.Lists.{get_or-listed}
use Rattle.bits.proofs.Counts.{count-le}
use Rattle.bits.proofs.Digits.{digit_lt}
use Rattle.answer.specs.Answer.{Answer.accepted}
use Rattle.answer.proofs.Chains.{met}
use Rattle.codes.specs.Crcc.{crcc_right}
use Rattle.block.specs.Side.{validity, fault, columns, column_in, column_row}
use Rattle.block.specs.Check.{status_of}
use Rattle.block.proofs.Frames.{row-le, outside-is}
use Rattle.levels.specs.Lines.{low_of, high_of, mark_right, line_sound, line_at, samples_on, sheet_sound, sheet_joined}
use Rattle.levels.specs.Sheets.{Block, channel_samples, samples_in, at_end, of_one, of_samples}
use Rattle.levels.specs.Sheets.{frames_set, of_side, of_sides, line_in, sheet_of}
use Rattle.levels.specs.Calls.{Fit, add_demands, add_answer}
use Rattle.levels.proofs.Accepted.{all_sound, line_made, tail-reach}
use Rattle.levels.proofs.Kept.{both-kept, joined-sound}
use Rattle.levels.proofs.Stretches.{folded-samples, length-channel, head-sheet}
use Rattle.levels.proofs.Places.{length-joined, at-sheet}

-- samples of 24 bits
abbrev pub Ranged : List ℤ → Type 0
Ranged xs = (i : ℕ) → i < length xs → mag (get_or xs i (pos 0)) < 8388608

-- ---- line j of one sample

pub one-sound : (j : ℕ) (x : ℤ) → j < 7 → mag x < 8388608 → line_sound j 1 (of_one j x) ≡ true
unfolding of_one line_sound low_of high_of mark_right
one-sound zero x h r = refl
one-sound (suc zero) x h r = refl
one-sound (suc (suc zero)) (pos n) h r = rw (le-leb n 8388607 (omega arith))
one-sound (suc (suc zero)) (negsuc n) h r = rw (lt-ltb n 8388608 r)
one-sound (suc (suc (suc zero))) (pos n) h r = rw (le-leb n 8388607 (omega arith))
one-sound (suc (suc (suc zero))) (negsuc n) h r = rw (lt-ltb n 8388608 r)
one-sound (suc (suc (suc (suc zero)))) (pos n) h r = rw (le-leb n 8388608 (omega arith))
one-sound (suc (suc (suc (suc zero)))) (negsuc n) h r = rw (le-leb (suc n) 8388608 (omega arith))
one-sound (suc (suc (suc (suc (suc zero))))) (pos n) h r = rw (le-leb n 8388608 (omega arith))
one-sound (suc (suc (suc (suc (suc zero))))) (negsuc n) h r = rw (lt-ltb n 8388608 r)
one-sound (suc (suc (suc (suc (suc (suc zero)))))) x h r = rw (le-leb (digit (at_end x)) 1 (omega (arith, digit_lt (at_end x))))
one-sound (suc (suc (suc (suc (suc (suc (suc j))))))) x h r = absurd (omega arith)

first_one : (x : ℤ) → of_one 0 x ≡ pos 1
unfolding of_one
first_one x = refl

-- ---- and of samples

pub folded-sound : (j : ℕ) (xs : List ℤ) → j < 7 → 0 < length xs → length xs ≤ 4294967296 → Ranged xs
    → line_sound j (length xs) (of_samples j xs) ≡ true
unfolding of_samples
folded-sound j [] h p l r = absurd (omega arith)
folded-sound j (x ∷ []) h p l r = one-sound j x h (r 0 (omega arith))
folded-sound j (x ∷ y ∷ ys) h p l r =
    let n : 1 + length (y ∷ ys) ≡ length (x ∷ y ∷ ys) = omega arith in
    rw n at (both-kept 1 (length (y ∷ ys)) (omega arith) (omega arith) (of_one j x) (of_samples j (y ∷ ys)) j (omega arith)
    (λ e. rw e (first_one x)) (λ e. ap (λ (i : ℕ). of_samples i (y ∷ ys)) e ∙ folded-samples (y ∷ ys)) (one-sound j x h (r 0 (omega arith)))
    (folded-sound j (y ∷ ys) h (omega arith) (omega arith) (λ i q. r (suc i) (omega arith))))

-- ---- the counts of a side table

frames-le : (column : ℕ) (side : List ℕ) → frames_set column side ≤ 192
unfolding frames_set
frames-le column side = omega (arith, count-le (column_row (column_in side column)), row-le side column)

pub counted-le : (j c : ℕ) (side : List ℕ) → of_side j c side ≤ 192
unfolding of_side
counted-le j c side =
    pick-cases (λ (n : ℕ). n ≤ 192) (eqb j 7) (frames_set (columns * c + validity) side) _ (λ t. frames-le (columns * c + validity) side)
    (λ t. pick-cases (λ (n : ℕ). n ≤ 192) (eqb j 8) (frames_set (columns * c + fault) side) _
    (λ u. frames-le (columns * c + fault) side) (λ u. omega (arith, digit_lt (crcc_right (status_of c side)))))

-- ---- one block

pub channel-at : (c : ℕ) (s : List ℤ) (i : ℕ) → i < 192 → get_or (channel_samples c s) i (pos 0) ≡ get_or s (2 * i + c) (pos 0)
unfolding channel_samples
channel-at c s i h = get_or-listed 192 (λ i. get_or s (2 * i + c) (pos 0)) i (pos 0) h

pub channel-ranged : (c : ℕ) (s : List ℤ) → c < 2 → Fit s → Ranged (channel_samples c s)
channel-ranged c s h f i l =
    let n : i < 192 = omega (arith, length-channel c s) in
    rw (channel-at c s i n)
    (ltb-true (mag (get_or s (2 * i + c) (pos 0))) 8388608 (not-false _ (sym (outside-is s (2 * i + c)) ∙ f (2 * i + c) (omega arith))))

pub samples-one : (c : ℕ) (b : Block) → samples_in c (b ∷ []) ≡ channel_samples c b.samples
unfolding samples_in
samples-one c b = append-nil (channel_samples c b.samples)

pub counted-one : (j c : ℕ) (b : Block) → of_sides j c (b ∷ []) ≡ of_side j c b.side
unfolding of_sides
counted-one j c b = add-zero (of_side j c b.side)

count-sound : (j n : ℕ) → 7 ≤ j → n ≤ 192 → line_sound j 192 (pos n) ≡ true
unfolding mark_right
count-sound j n h l =
    let r = tail-reach j 192 (omega arith) in
    line_made j 192 (pos n) (rw r.1 (le-leb n 192 l)) (rw (ne_eqb j 1 (λ q. omega arith)))

line-one : (b : Block) → Fit b.samples → (k : ℕ) → k < 20 → (t : Bool) → ltb (k % 10) 7 ≡ t → line_sound (k % 10) 192 (line_in
    (b ∷ []) k) ≡ true
line-one b f k h true e =
    let xs = channel_samples (k / 10) b.samples in
    let n = length-channel (k / 10) b.samples in
    rw (e, samples-one (k / 10) b)
    (rw n at (folded-sound (k % 10) xs (ltb-true (k % 10) 7 e) (omega (arith, n)) (omega (arith, n)) (channel-ranged (k / 10)
    b.samples (omega arith) f)))
line-one b f k h false e =
    rw (e, counted-one (k % 10) (k / 10) b)
    (count-sound (k % 10) (of_side (k % 10) (k / 10) b.side) (ltb-false (k % 10) 7 e) (counted-le (k % 10) (k / 10) b.side))

pub sheet-one-sound : (b : Block) → Fit b.samples → sheet_sound (sheet_of (b ∷ [])) ≡ true
sheet-one-sound b f = all_sound (sheet_of (b ∷ [])) (λ k h. ap not (at-line k h))
  where
    at-line : (k : ℕ) → k < 20 → line_sound (k % 10) (samples_on (sheet_of (b ∷ [])) k) (line_at (sheet_of (b ∷ [])) k) ≡ true
    at-line k h = rw (head-sheet (b ∷ []) k h, at-sheet (b ∷ []) k h) (line-one b f k h (ltb (k % 10) 7) refl)

-- ---- what adding leaves

pub adding-leaves : (s : List ℤ) (b : Block) (v : List ℤ) → add_answer s b ≡ accepted v → (length v ≡ 20) × (sheet_sound v ≡ true)
unfolding add_answer
adding-leaves s b v e =
    let m = met (sheet_joined s (sheet_of (b ∷ []))) (add_demands s b) e in
    let d = m.0.1.1.1 in
    let f : Fit b.samples = λ i h. d.1.0 i (omega arith) (omega arith) in
    let a = head-sheet (b ∷ []) 0 (omega arith) in
    let c = head-sheet (b ∷ []) 10 (omega arith) in (
      rw (← m.1) (length-joined s (sheet_of (b ∷ []))),
      rw (← m.1) (joined-sound s (sheet_of (b ∷ [])) d.0 (sheet-one-sound b f) (rw a d.1.1.0) (rw c d.1.1.1.0)),
    )
