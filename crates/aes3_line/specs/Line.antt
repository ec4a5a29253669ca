-- The subframes of a block on the line, one after the other: 8 octets each, the earliest symbol in the highest bit; the
-- level before each is the last symbol of the one before it. Assumes nothing.
use Rattle.std.specs.Prelude.{ℕ, zero, suc, Bool, true, not, List, [], ◌∷◌, ◌++◌, take, drop, get_or}
use Rattle.bits.specs.Pack.{octets, symbols}
use Rattle.answer.specs.Answer.{Answer, Answer.accepted, Answer.refused}
use Rattle.line.specs.Biphase.{left}
use Rattle.aes3_line.specs.Subframe.{subframe, subframe_read}

-- ---- writing

-- the octets of bodies as subframes from number i on, after a level
unfoldable pub line_from : ℕ → Bool → List ℕ → List ℕ
line_from i l [] = []
line_from i l (b ∷ bs) = octets 8 (subframe i l b) ++ line_from (suc i) (left l (subframe i l b)) bs

-- ---- reading

-- the answer of a subframe, and then that of those after it
unfoldable pub leading : Answer ℕ → Answer (List ℕ) → Answer (List ℕ)
leading (Answer.accepted b) (Answer.accepted bs) = accepted (b ∷ bs)
leading (Answer.accepted b) (Answer.refused n p) = refused n p
leading (Answer.refused n p) rest = refused n p

-- n subframes from number i on, after a level
unfoldable pub bodies_from : ℕ → ℕ → Bool → List ℕ → Answer (List ℕ)
bodies_from zero i l line = accepted []
bodies_from (suc n) i l line =
    leading (subframe_read i l (symbols (take 8 line))) (bodies_from n (suc i) (left l (symbols (take 8 line))) (drop 8 line))

-- the level before a block, as its reader takes it: the opposite of the first symbol
unfoldable pub level_before : List ℕ → Bool
level_before line = not (get_or (symbols line) 0 true)

-- the bodies of a block
unfoldable pub bodies_on : List ℕ → Answer (List ℕ)
bodies_on line = bodies_from 384 0 (level_before line) line
