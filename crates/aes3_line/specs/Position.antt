-- A block's subframes where they stand in a line's symbols, from a position on that need not be an octet's. Assumes nothing.
use Rattle.std.specs.Prelude.{ℕ, zero, suc, ◌+◌, Bool, List, []}
use Rattle.bits.specs.Row.{Row}
use Rattle.bits.specs.Window.{part}
use Rattle.answer.specs.Answer.{Answer, Answer.accepted}
use Rattle.line.specs.Biphase.{left}
use Rattle.aes3_line.specs.Subframe.{subframe_read}
use Rattle.aes3_line.specs.Line.{leading}

-- n subframes from number i on, after a level: 64 symbols each, from position p on
unfoldable pub bodies_at : ℕ → ℕ → Bool → Row → ℕ → Answer (List ℕ)
bodies_at zero i l r p = accepted []
bodies_at (suc n) i l r p = leading (subframe_read i l (part r p 64)) (bodies_at n (suc i) (left l (part r p 64)) r (p + 64))
