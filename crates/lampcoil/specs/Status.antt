-- What the entries on 24 octets of channel status answer. Assumes nothing.
use Rattle.std.specs.Prelude.{ℕ, List, [], ◌∷◌, eqb, length, get_or}
use Rattle.bits.specs.Row.{digit}
use Rattle.answer.specs.Answer.{Answer, Answer.accepted}
use Rattle.answer.specs.Demand.{Demand, Demand.asks, provided}
use Rattle.codes.specs.Crcc.{crcc_right}
use Rattle.status.specs.Meaning.{meaning_of}
use Rattle.status.specs.Numbers.{numbers_of}
use Rattle.status.specs.declared.MeaningNumbers.{MeaningNumbers}

-- 24 octets (1)
abbrev pub status_length_demands : List ℕ → List Demand
status_length_demands status = asks 1 0 (eqb (length status) 24) ∷ []

-- whether the CRCC is right: 1, else 0
unfoldable pub right_answer : List ℕ → Answer ℕ
right_answer status = provided (status_length_demands status) (accepted (digit (crcc_right status)))

-- the meaning of bytes 0 to 2, in numbers
unfoldable pub meaning_answer : List ℕ → Answer MeaningNumbers
meaning_answer status =
    provided (status_length_demands status) (accepted (numbers_of (meaning_of (get_or status 0 0) (get_or status 1 0) (get_or status 2 0))))
