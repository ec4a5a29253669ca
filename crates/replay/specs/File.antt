-- A file as a list of records: each four octets of length, the highest first, and then as many octets. The records
-- before the stop, and how it stops. Assumes nothing.
use Rattle.std.specs.Prelude.{ℕ, zero, suc, ◌+◌, Bool, ◌&&◌, List, [], ◌∷◌, eqb, ltb, leb, length, take, drop}
use Rattle.bits.specs.Pick.{pick}
use Rattle.records.specs.Head.{longest, size_of}
use Rattle.replay.specs.declared.Next.{Next}
use Rattle.replay.specs.declared.Next.TheVariants.{End, Long, Cut}

-- a whole record stands first: a length that is not above 8,192, and as many octets after it
unfoldable pub whole : List ℕ → Bool
whole input = leb 4 (length input) && leb (size_of input) longest && leb (4 + size_of input) (length input)

-- its octets after the length, and what comes after it
abbrev pub record_first : List ℕ → List ℕ
record_first input = take (size_of input) (drop 4 input)

abbrev pub rest_of : List ℕ → List ℕ
rest_of input = drop (4 + size_of input) input

-- the records before the stop, each without its length; at most so many
unfoldable pub records_on : ℕ → List ℕ → List (List ℕ)
records_on zero input = []
records_on (suc most) input = pick (whole input) (record_first input ∷ records_on most (rest_of input)) []

-- each takes four octets at least, so that there are no more of them than octets
unfoldable pub records_of : List ℕ → List (List ℕ)
records_of input = records_on (length input) input

-- how many octets of a file records take
unfoldable pub octets_in : List (List ℕ) → ℕ
octets_in [] = 0
octets_in (r ∷ rs) = 4 + length r + octets_in rs

-- why no whole record stands first: the input ends; a length above 8,192; a record that is cut
unfoldable pub stop_at : List ℕ → Next
stop_at left = pick (eqb (length left) 0) End (pick (ltb (length left) 4) Cut (pick (ltb longest (size_of left)) Long Cut))

-- the stop of a file: of what is left after its whole records
unfoldable pub file_stop : List ℕ → Next
file_stop input = stop_at (drop (octets_in (records_of input)) input)
