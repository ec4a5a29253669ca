-- The level sheet of a list of blocks: of all samples of a channel their count, smallest, largest, magnitude, sum and
-- how many are at an end; of the side tables counts. Assumes nothing.
use Rattle.std.specs.Prelude.{ℕ, ◌+◌, ◌*◌, ◌/◌, ◌%◌, Bool, List, [], ◌∷◌, ◌++◌, eqb, ltb, ℤ, pos, nat_abs, get_or}
use Rattle.std.specs.Int.Signed.{mag}
use Rattle.bits.specs.Pick.{pick}
use Rattle.bits.specs.Row.{count, digit}
use Rattle.bits.specs.Listed.{listed}
use Rattle.codes.specs.Crcc.{crcc_right}
use Rattle.block.specs.Side.{validity, fault, columns, column_in, column_row}
use Rattle.block.specs.Check.{status_of}
use Rattle.levels.specs.Lines.{samples_line, absent_line, magnitude_line, ends_line, validity_line, fault_line, both, empty_line}

-- 384 samples, A and B alternating, and a side table
pub record Block : Type 0 where
  pub samples : List ℤ
  pub side : List ℕ

-- ---- the samples

-- a channel's samples of a block
unfoldable pub channel_samples : ℕ → List ℤ → List ℤ
channel_samples c samples = listed 0 192 (λ i. get_or samples (2 * i + c) (pos 0))

-- and of blocks
unfoldable pub samples_in : ℕ → List Block → List ℤ
samples_in c [] = []
samples_in c (b ∷ bs) = channel_samples c b.samples ++ samples_in c bs

-- a sample at either end of the range: 8,388,607, or -8,388,608, whose `mag` is the same
abbrev pub at_end : ℤ → Bool
at_end x = eqb (mag x) 8388607

-- line j, up to the ends, of one sample: a count of 1, not absent, its magnitude, whether it is at an end, else itself
unfoldable pub of_one : ℕ → ℤ → ℤ
of_one j x =
    pick (eqb j samples_line) (pos 1)
    (pick (eqb j absent_line) (pos 0)
    (pick (eqb j magnitude_line) (pos (nat_abs x))
    (pick (eqb j ends_line) (pos (digit (at_end x))) x)))

-- and of samples: smallest, largest or sum of those of each
unfoldable pub of_samples : ℕ → List ℤ → ℤ
of_samples j [] = empty_line j
of_samples j (x ∷ []) = of_one j x
of_samples j (x ∷ y ∷ ys) = both j (of_one j x) (of_samples j (y ∷ ys))

-- ---- the side tables

-- the frames whose bit is set in a column
unfoldable pub frames_set : ℕ → List ℕ → ℕ
frames_set column side = count (column_row (column_in side column))

-- line j, from the frames with V on, of a channel of one block: frames with V, frames with E, whether the CRCC is right
unfoldable pub of_side : ℕ → ℕ → List ℕ → ℕ
of_side j c side =
    pick (eqb j validity_line) (frames_set (columns * c + validity) side)
    (pick (eqb j fault_line) (frames_set (columns * c + fault) side) (digit (crcc_right (status_of c side))))

-- and of blocks
unfoldable pub of_sides : ℕ → ℕ → List Block → ℕ
of_sides j c [] = 0
of_sides j c (b ∷ bs) = of_side j c b.side + of_sides j c bs

-- ---- the sheet

abbrev pub line_in : List Block → ℕ → ℤ
line_in bs k =
    pick (ltb (k % 10) validity_line) (of_samples (k % 10) (samples_in (k / 10) bs)) (pos (of_sides (k % 10) (k / 10) bs))

unfoldable pub sheet_of : List Block → List ℤ
sheet_of bs = listed 0 20 (line_in bs)
