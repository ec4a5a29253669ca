-- A block: 384 samples, channels A and B alternating, and a side table; its 384 bodies, and back. Subframe i belongs to
-- channel i % 2 and frame i / 2. Assumes nothing.
use Rattle.std.specs.Prelude.{ℕ, ◌+◌, ◌*◌, ◌/◌, ◌%◌, List, [], ◌∷◌, eqb, ℤ, pos, length, get_or}
use Rattle.bits.specs.Row.{Row, odd}
use Rattle.bits.specs.Listed.{listed, joined}
use Rattle.answer.specs.Answer.{Answer, Answer.accepted, told}
use Rattle.answer.specs.Demand.{Demand, Demand.asks, provided}
use Rattle.subframe.specs.Body.{body_written, sample_of}
use Rattle.block.specs.Side.{validity, user, status, columns, column_bit, side_length, side_bit, column_of}

-- ---- from samples and side table to bodies

-- V, U, C or E of subframe i
unfoldable pub side_at : List ℕ → ℕ → ℕ → ℕ
side_at side column i = side_bit side (columns * (i % 2) + column) (i / 2)

-- body i, of sample i and its V, U and C; 0 where the sample is out of range
unfoldable pub subframe_body : List ℤ → List ℕ → ℕ → ℕ
subframe_body samples side i =
    (told 0 (body_written (get_or samples i (pos 0)) (side_at side validity i) (side_at side user i) (side_at side status i))).2

unfoldable pub bodies_of : List ℤ → List ℕ → List ℕ
bodies_of samples side = listed 0 384 (subframe_body samples side)

-- ---- from bodies to samples and side table

unfoldable pub samples_of : List ℕ → List ℤ
samples_of bodies = listed 0 384 (λ i. sample_of (get_or bodies i 0))

-- what is held of a channel's bodies, frame 0 first
unfoldable pub row_from : (ℕ → ℕ) → List ℕ → ℕ → Row
row_from holds bodies channel = listed 0 192 (λ frame. odd (holds (get_or bodies (2 * frame + channel) 0)))

-- the columns of A, then those of B
unfoldable pub side_of : List ℕ → List ℕ
side_of bodies = joined 0 (2 * columns) (λ k. column_of (row_from (column_bit (k % columns)) bodies (k / columns)))

-- ---- filling samples and side table from 384 bodies, each buffer of its length (1)

abbrev pub fill_demands : List ℕ → ℕ → ℕ → List Demand
fill_demands bodies samples side =
    asks 1 0 (eqb (length bodies) 384) ∷ asks 1 0 (eqb samples 384) ∷ asks 1 0 (eqb side side_length) ∷ []

unfoldable pub block_filled : List ℕ → ℕ → ℕ → Answer (List ℕ)
block_filled bodies samples side = provided (fill_demands bodies samples side) (accepted bodies)
