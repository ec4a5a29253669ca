-- What code compares: a candidate's sixteen symbols against the sixteen required, as one number. Assumes nothing.
use Rattle.std.specs.Prelude.{ℕ}
use Rattle.bits.specs.Row.{Row, big, xor_row}
use Rattle.aes3_hunt.specs.Hunt.{standing, required}

-- 1 where a symbol differs from the one required, the first of the sixteen highest
unfoldable pub mismatches : Row → ℕ → ℕ
mismatches r p = big (xor_row (standing r p) (required r p))
