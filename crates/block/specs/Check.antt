-- What a writer checks of a block: lengths (1), that E is empty (20), the samples' range (3), then of the channel status
-- that the C bits carry: professional use (4), the CRCC (5), and validity where other than linear PCM is declared (6);
-- last, the samples by the word length that it declares (18). Each kind goes over all its places, smallest first.
-- Assumes nothing.
use Rattle.std.specs.Prelude.{ℕ, ◌+◌, ◌*◌, ◌%◌, ◌<◌, ◌≡◌, Bool, true, false, not, ◌&&◌, List, [], ◌∷◌, ◌++◌, ltb, eqb, ℤ, pos, length, get_or}
use Rattle.bits.specs.Pick.{first}
use Rattle.bits.specs.Row.{bit}
use Rattle.answer.specs.Answer.{Answer, Answer.accepted}
use Rattle.answer.specs.Demand.{Demand, Demand.asks, Demand.finds_none, provided}
use Rattle.codes.specs.Crcc.{crcc_right}
use Rattle.subframe.specs.Signed.{in_range, code_of}
use Rattle.status.specs.declared.Use.{Use}
use Rattle.status.specs.Meaning.{meaning_of}
use Rattle.block.specs.Side.{validity, status, fault, columns, side_length, side_bit, column_in}
use Rattle.block.specs.Block.{side_at}
use Rattle.block.specs.Length.{busy_under}

-- the 24 status octets of a channel: its C column
unfoldable pub status_of : ℕ → List ℕ → List ℕ
status_of channel side = column_in side (columns * channel + status)

-- a channel of a side table whose CRCC is right
unfoldable pub status_right : List ℕ → ℕ → Bool
status_right side channel = eqb (length side) side_length && ltb channel 2 && crcc_right (status_of channel side)

-- E is empty: no subframe's E is set
abbrev pub Faultless : List ℕ → Type 0
Faultless side = (i : ℕ) → i < 384 → side_at side fault i ≡ 0

-- ---- each refusal at one of its places

-- E of the subframe is set
unfoldable pub faulty : List ℕ → ℕ → Bool
faulty side i = eqb (side_at side fault i) 1

unfoldable pub outside : List ℤ → ℕ → Bool
outside samples i = not (in_range 24 (get_or samples i (pos 0)))

-- byte 0 bit 0 is 0
unfoldable pub consumer : List ℕ → ℕ → Bool
consumer side channel = eqb (bit 0 (get_or (status_of channel side) 0 0)) 0

-- byte 23 is wrong
unfoldable pub wrong : List ℕ → ℕ → Bool
wrong side channel = not (crcc_right (status_of channel side))

-- some V of the channel is 0
unfoldable pub some_valid : List ℕ → ℕ → Bool
some_valid side channel = first (λ frame. eqb (side_bit side (columns * channel + validity) frame) 0) 0 192 (λ frame. true) false

-- byte 0 bit 1 is 1 and some V of the channel is 0
unfoldable pub unmarked : List ℕ → ℕ → Bool
unmarked side channel = eqb (bit 1 (get_or (status_of channel side) 0 0)) 1 && some_valid side channel

-- what a channel's status means
unfoldable pub meaning_in : List ℕ → ℕ → Use
meaning_in side channel =
    meaning_of (get_or (status_of channel side) 0 0) (get_or (status_of channel side) 1 0) (get_or (status_of channel side) 2 0)

-- sample i, of channel i % 2, has a 1 below the length that this channel's status declares
unfoldable pub overlong : List ℤ → List ℕ → ℕ → Bool
overlong samples side i = busy_under (meaning_in side (i % 2)) (code_of 24 (get_or samples i (pos 0)))

-- ---- in their order

-- of a side table alone: 4 for both channels, then 5, then 6
abbrev pub status_demands : List ℕ → List Demand
status_demands side = finds_none 4 (consumer side) 0 2 ∷ finds_none 5 (wrong side) 0 2 ∷ finds_none 6 (unmarked side) 0 2 ∷ []

-- of the samples by their status: 18
abbrev pub length_demands : List ℤ → List ℕ → List Demand
length_demands samples side = finds_none 18 (overlong samples side) 0 384 ∷ []

-- of samples and side table of the right lengths: 20, then 3, then those
abbrev pub block_demands : List ℤ → List ℕ → List Demand
block_demands samples side =
    finds_none 20 (faulty side) 0 384 ∷ finds_none 3 (outside samples) 0 384 ∷ (status_demands side ++ length_demands samples side)

abbrev pub check_demands : List ℤ → List ℕ → List Demand
check_demands samples side =
    asks 1 0 (eqb (length samples) 384) ∷ asks 1 0 (eqb (length side) side_length) ∷ block_demands samples side

unfoldable pub status_checked : List ℕ → Answer (Unit {0})
status_checked side = provided (status_demands side) (accepted tt)

unfoldable pub checked : List ℤ → List ℕ → Answer (Unit {0})
checked samples side = provided (check_demands samples side) (accepted tt)
