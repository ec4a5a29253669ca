-- Reading an HD audio control packet: the length (1), words above 1,023 (14), ADF, DID and DC (13), b8 and b9 of words
-- 3 to 16 (14), CS (16 at word 17), bits and codes with a required state (12). Assumes nothing.
use Rattle.std.specs.Prelude.{ℕ, ◌/◌, ◌%◌, ◌^◌, not, List, [], ◌∷◌, ◌++◌, eqb, length, get_or}
use Rattle.answer.specs.Answer.{Answer, Answer.accepted}
use Rattle.answer.specs.Demand.{Demand, Demand.asks, provided}
use Rattle.anc.specs.Enclosed.{enclosed_demands}
use Rattle.hd_control.specs.Control.{control_head, rule_of, misused, rate_reserved, control_in}
use Rattle.hd_control.specs.declared.Control.{Control}

-- word 4 is 200h; no frame number in asynchronous use; b4 to b7 of word 7 are 0, and its code is not reserved; b4 to b7
-- of word 8 and b0 to b8 of words 15 and 16 are 0
abbrev pub state_demands : List ℕ → List Demand
state_demands words =
    asks 12 4 (eqb (get_or words 4 0) 0x200)
    ∷ asks 12 6 (not (misused (get_or words 7 0 % 2) (get_or words 6 0 % 2 ^ 9)))
    ∷ asks 12 7 (eqb (get_or words 7 0 / 2 ^ 4 % 2 ^ 4) 0)
    ∷ asks 12 7 (not (rate_reserved (get_or words 7 0 / 2 % 2 ^ 3)))
    ∷ asks 12 8 (eqb (get_or words 8 0 / 2 ^ 4 % 2 ^ 4) 0)
    ∷ asks 12 15 (eqb (get_or words 15 0 % 2 ^ 9) 0)
    ∷ asks 12 16 (eqb (get_or words 16 0 % 2 ^ 9) 0)
    ∷ []

abbrev pub read_demands : List ℕ → List Demand
read_demands words =
    asks 1 0 (eqb (length words) 18) ∷ (enclosed_demands rule_of 14 (control_head words) words ++ state_demands words)

unfoldable pub read_answer : List ℕ → Answer Control
read_answer words = provided (read_demands words) (accepted (control_in words))
