-- One subframe on the line: 64 symbols, written after a level and read after a level. Assumes nothing.
use Rattle.std.specs.Prelude.{ℕ, ◌*◌, ◌^◌, Bool, List, [], ◌∷◌, ◌++◌, eqb, take, drop}
use Rattle.bits.specs.Pick.{pick}
use Rattle.bits.specs.Row.{Row, odd, little, big}
use Rattle.bits.specs.Window.{window}
use Rattle.answer.specs.Answer.{Answer, Answer.accepted}
use Rattle.answer.specs.Demand.{Demand, Demand.asks, provided}
use Rattle.line.specs.Preamble.{preamble_x, preamble_y, preamble_z, after_level}
use Rattle.line.specs.Biphase.{biphase, left, changing, held}
use Rattle.subframe.specs.Body.{slots}

-- Z opens subframe 0, X the other even ones, Y the odd ones
unfoldable pub due : ℕ → Row
due i = pick (eqb i 0) preamble_z (pick (odd i) preamble_y preamble_x)

-- the preamble of subframe i after a level: after level 1 all inverted
unfoldable pub preamble : ℕ → Bool → Row
preamble i l = after_level l (due i)

-- ---- writing

-- the 64 symbols of subframe i after a level: its preamble, and slots 4 to 31 of a body
unfoldable pub subframe : ℕ → Bool → ℕ → Row
subframe i l body = preamble i l ++ biphase (left l (preamble i l)) (slots body)

-- ---- reading

-- the body that the symbols of slots 4 to 31 hold
unfoldable pub body_held : Row → ℕ
body_held s = little (held s) * 2 ^ 4

-- 64 symbols after a level, where subframe i is due: they open with its preamble (7), every slot begins with a change
-- of level (8)
abbrev pub subframe_demands : ℕ → Bool → Row → List Demand
subframe_demands i l s = asks 7 i (eqb (window s 0 8) (big (preamble i l))) ∷ asks 8 i (changing (left l (take 8 s)) (drop 8 s)) ∷ []

-- the body, be the number of its ones even or odd
unfoldable pub subframe_read : ℕ → Bool → Row → Answer ℕ
subframe_read i l s = provided (subframe_demands i l s) (accepted (body_held (drop 8 s)))
