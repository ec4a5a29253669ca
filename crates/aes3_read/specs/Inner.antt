-- Clauses that only inner functions need. Assumes nothing.
use Rattle.std.specs.Prelude.{ℕ, ◌+◌, ◌*◌, ◌/◌, ◌^◌, List, Result}
use Rattle.std.specs.Int.Bits.{bit_xor}
use Rattle.bits.specs.Row.{big_bits, little}
use Rattle.bits.specs.Listed.{listed}
use Rattle.answer.specs.Answer.{Answer, mapped}
use Rattle.answer.specs.Said.{said}
use Rattle.answer.specs.declared.Refusal.{Refusal}
use Rattle.line.specs.Biphase.{held}

-- the four bits that the slots of each octet hold, the first lowest
unfoldable pub held_table : List ℕ
held_table = listed 0 256 (λ o. little (held (big_bits 8 o)))

-- behind a preamble's octet after level 0: where its levels change, and a change at the first symbol of every slot
abbrev pub due_changes : ℕ → ℕ
due_changes m = bit_xor m (m / 2) * 2 ^ 56 + 0xAAAAAAAAAAAAAA

-- what a loop over the subframes answered, with the bodies that it left in a buffer
abbrev pub decoded : Result (Unit {0}) Refusal → List ℕ → Answer (List ℕ)
decoded answer bodies = mapped (λ u. bodies) (said answer)
