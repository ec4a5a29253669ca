-- Writing an HD audio control packet: the length (1), ranges (2), a frame number in asynchronous use (12 at word 6), a
-- reserved rate code (12 at word 7). Assumes nothing.
use Rattle.std.specs.Prelude.{ℕ, Bool, not, ◌&&◌, List, [], ◌∷◌, eqb, leb, length}
use Rattle.answer.specs.Answer.{Answer, Answer.accepted, rewritten}
use Rattle.answer.specs.Demand.{Demand, Demand.asks, provided}
use Rattle.subframe.specs.Signed.{in_range}
use Rattle.hd_control.specs.Control.{misused, rate_reserved, control_packet}
use Rattle.hd_control.specs.declared.Control.{Control}

-- group 1 to 4, frame to 511, rate to 7, active to 15, the three flags 0 or 1, delays of 26 bits
unfoldable pub control_in_ranges : Control → Bool
control_in_ranges c =
    leb 1 c.group && leb c.group 4 && leb c.frame 511 && leb c.rate 7 && leb c.asynchronous 1 && leb c.active 15
    && leb c.valid12 1 && leb c.valid34 1 && in_range 26 c.delay12 && in_range 26 c.delay34

abbrev pub write_demands : Control → ℕ → List Demand
write_demands c room =
    asks 1 0 (eqb room 18)
    ∷ asks 2 0 (control_in_ranges c)
    ∷ asks 12 6 (not (misused c.asynchronous c.frame))
    ∷ asks 12 7 (not (rate_reserved c.rate))
    ∷ []

unfoldable pub write_answer : Control → ℕ → Answer (List ℕ)
write_answer c room = provided (write_demands c room) (accepted (control_packet c))

-- the words afterwards: the packet, or on refusal what stood there
abbrev pub control_written : Control → List ℕ → List ℕ
control_written c old = rewritten (write_answer c (length old)) old
