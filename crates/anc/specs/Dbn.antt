-- The data block number: 0 to 255 (2). A sender that counts runs 1 to 255 and then 1 again; 0 says that it does not
-- count, and the next after 0 is 0. Assumes nothing.
use Rattle.std.specs.Prelude.{ℕ, zero, suc, ◌+◌, [], ◌∷◌, eqb, leb}
use Rattle.bits.specs.Pick.{pick}
use Rattle.answer.specs.Answer.{Answer, Answer.accepted, Answer.refused}
use Rattle.answer.specs.Demand.{Demand.asks, provided}

abbrev pub after_dbn : ℕ → ℕ
after_dbn n = pick (eqb n 0) 0 (pick (eqb n 255) 1 (n + 1))

unfoldable pub next_dbn : ℕ → Answer ℕ
next_dbn n = provided (asks 2 0 (leb n 255) ∷ []) (accepted (after_dbn n))

-- what a sender that starts at n comes to in so many steps
abbrev pub counted_on : Answer ℕ → Answer ℕ
counted_on (Answer.accepted n) = next_dbn n
counted_on (Answer.refused number place) = refused number place

unfoldable pub stepped : ℕ → ℕ → Answer ℕ
stepped zero n = accepted n
stepped (suc k) n = counted_on (stepped k n)
