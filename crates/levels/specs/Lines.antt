-- The ten lines of a channel of a level sheet, by their number j. What two stretches make of a line, and which values a
-- line may have. A sheet is a list of 20 numbers, the lines of A and then those of B. Assumes nothing.
use Rattle.std.specs.Prelude.{ℕ, ◌*◌, ◌/◌, ◌%◌, ◌^◌, Bool, true, false, not, List, eqb, ltb, leb, ℤ, pos, negsuc, nat_abs, ◌+ℤ◌, get_or}
use Rattle.std.specs.Int.Signed.{le_z}
use Rattle.bits.specs.Pick.{pick, first}
use Rattle.bits.specs.Listed.{listed}

-- ---- which line is which; 6 to 9 are counts, of samples at either end, frames with V, frames with E, right blocks

abbrev pub samples_line : ℕ
samples_line = 0

abbrev pub absent_line : ℕ
absent_line = 1

abbrev pub smallest_line : ℕ
smallest_line = 2

abbrev pub largest_line : ℕ
largest_line = 3

abbrev pub magnitude_line : ℕ
magnitude_line = 4

abbrev pub sum_line : ℕ
sum_line = 5

abbrev pub ends_line : ℕ
ends_line = 6

abbrev pub validity_line : ℕ
validity_line = 7

abbrev pub fault_line : ℕ
fault_line = 8

-- ---- two stretches

abbrev pub least : ℤ → ℤ → ℤ
least x y = pick (le_z x y) x y

abbrev pub most : ℤ → ℤ → ℤ
most x y = pick (le_z x y) y x

-- line j of two stretches that both have samples: the smallest, the largest, the largest magnitude; else the sum, of the
-- two marks, which are 0, too
unfoldable pub both : ℕ → ℤ → ℤ → ℤ
both j x y =
    pick (eqb j smallest_line) (least x y) (pick (eqb j largest_line) (most x y) (pick (eqb j magnitude_line) (most x y) (x +ℤ y)))

-- the same of stretches of m and n samples: where one has none it is the other's
unfoldable pub joined_line : (j m n : ℕ) → ℤ → ℤ → ℤ
joined_line j m n x y = pick (eqb m 0) y (pick (eqb n 0) x (both j x y))

-- ---- the values that a line may have

-- from -low to high
abbrev pub inside : (low high : ℕ) → ℤ → Bool
inside low high (pos n) = leb n high
inside low high (negsuc n) = ltb n low

-- a bound that is 0 where there are no samples
abbrev pub if_some : (n bound : ℕ) → ℕ
if_some n bound = pick (eqb n 0) 0 bound

-- how far line j of a channel of n samples reaches below 0, and above
unfoldable pub low_of : (j n : ℕ) → ℕ
low_of j n =
    pick (eqb j sum_line) (8388608 * n) (pick (eqb j smallest_line) (if_some n 8388608) (pick (eqb j largest_line) (if_some n 8388608) 0))

unfoldable pub high_of : (j n : ℕ) → ℕ
high_of j n =
    pick (eqb j samples_line) (2 ^ 32)
    (pick (eqb j absent_line) (pick (eqb n 0) 1 0)
    (pick (eqb j smallest_line) (if_some n 8388607)
    (pick (eqb j largest_line) (if_some n 8388607)
    (pick (eqb j magnitude_line) (if_some n 8388608)
    (pick (eqb j sum_line) (8388608 * n) n)))))

-- the mark is 1 where there are no samples: it may not be 0 there
unfoldable pub mark_right : (j n : ℕ) → ℤ → Bool
mark_right j n x = pick (eqb j absent_line) (pick (eqb n 0) (eqb (nat_abs x) 1) true) true

unfoldable pub line_sound : (j n : ℕ) → ℤ → Bool
line_sound j n x = pick (inside (low_of j n) (high_of j n) x) (mark_right j n x) false

-- ---- a sheet: line k is line k % 10 of channel k / 10

abbrev pub line_at : List ℤ → ℕ → ℤ
line_at sheet k = get_or sheet k (pos 0)

-- the samples of the channel that line k belongs to
abbrev pub samples_on : List ℤ → ℕ → ℕ
samples_on sheet k = nat_abs (line_at sheet (k / 10 * 10))

abbrev pub unsound_at : List ℤ → ℕ → Bool
unsound_at sheet k = not (line_sound (k % 10) (samples_on sheet k) (line_at sheet k))

-- a sheet that is accepted: no line is unsound
unfoldable pub sheet_sound : List ℤ → Bool
sheet_sound sheet = first (unsound_at sheet) 0 20 (λ k. false) true

abbrev pub joined_at : List ℤ → List ℤ → ℕ → ℤ
joined_at a b k = joined_line (k % 10) (samples_on a k) (samples_on b k) (line_at a k) (line_at b k)

-- the sheet of two stretches, from those of each
unfoldable pub sheet_joined : List ℤ → List ℤ → List ℤ
sheet_joined a b = listed 0 20 (joined_at a b)

-- with no samples all is 0, but for the mark
abbrev pub empty_line : ℕ → ℤ
empty_line j = pick (eqb j absent_line) (pos 1) (pos 0)

unfoldable pub empty_sheet : List ℤ
empty_sheet = listed 0 20 (λ k. empty_line (k % 10))
