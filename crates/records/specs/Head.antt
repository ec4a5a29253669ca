-- The header of a record, four octets of length, the highest first: how many octets are to be read after it, and what
-- it comes to with as many octets as there were then. Assumes nothing.
use Rattle.std.specs.Prelude.{ℕ, ◌+◌, ◌-◌, ◌*◌, ◌^◌, List, eqb, ltb, length, get_or}
use Rattle.bits.specs.Pick.{pick}
use Rattle.records.specs.declared.Turn.{Turn}
use Rattle.records.specs.declared.Turn.TheVariants.{End, Cut, Long, Record}

-- the length that stands first
unfoldable pub size_of : List ℕ → ℕ
size_of input = get_or input 0 0 * 2 ^ 24 + get_or input 1 0 * 2 ^ 16 + get_or input 2 0 * 2 ^ 8 + get_or input 3 0

-- a record has at most so many octets after its length
abbrev pub longest : ℕ
longest = 8192

-- how many octets are to be read after a header: none after one that is cut, or that gives more than that
unfoldable pub body_size : List ℕ → ℕ
body_size head = pick (ltb (length head) 4) 0 (pick (ltb longest (size_of head)) 0 (size_of head))

-- after n records, from the octets that there were of a header, and how many there were of the body after it: the
-- turn, and how many records are counted then. A count that has no room for another record ends the report.
unfoldable pub turn_of : ℕ → List ℕ → ℕ → Turn
turn_of n head had =
    pick (eqb (length head) 0) (End n)
    (pick (eqb n (2 ^ 64 - 1)) (End n)
    (pick (ltb (length head) 4) (Cut n)
    (pick (ltb longest (size_of head)) (Long (n + 1))
    (pick (ltb had (size_of head)) (Cut n)
    (Record (n + 1))))))
