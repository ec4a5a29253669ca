-- Writing an HD audio data packet: lengths (1), ranges (2), odd bodies (9), bodies with a low four bit set (12).
-- Assumes nothing.
use Rattle.std.specs.Prelude.{ℕ, ◌%◌, ◌^◌, Bool, not, ◌&&◌, List, [], ◌∷◌, ◌++◌, eqb, leb, length, get_or}
use Rattle.answer.specs.Answer.{Answer, Answer.accepted, rewritten}
use Rattle.answer.specs.Demand.{Demand, Demand.asks, Demand.finds_none, provided}
use Rattle.codes.specs.Lanes.{check_octets}
use Rattle.hd_packet.specs.Packet.{packet_of, data_octets, odd_body}
use Rattle.hd_packet.specs.declared.Fields.{Fields}

-- group 1 to 4, DBN to 255, clock phase to 4,095, ck12 and both Z 0 or 1
unfoldable pub in_ranges : Fields → Bool
in_ranges f =
    leb 1 f.group && leb f.group 4 && leb f.dbn 255 && leb f.phase 4095 && leb f.ck12 1 && leb f.z1 1 && leb f.z2 1

-- one of the low four bits of body n is set
unfoldable pub low_body : List ℕ → ℕ → Bool
low_body bodies n = not (eqb (get_or bodies n 0 % 2 ^ 4) 0)

-- the packet: words 0 to 23, the check words over them, CS
unfoldable pub packet_written : Fields → List ℕ → List ℕ
packet_written f bodies = packet_of (data_octets f bodies ++ check_octets (data_octets f bodies))

-- four bodies and room for 31 words (1), ranges (2), each body even (9), each with the low four bits clear (12)
abbrev pub write_demands : Fields → List ℕ → ℕ → List Demand
write_demands f bodies room =
    asks 1 0 (eqb (length bodies) 4) ∷ asks 1 0 (eqb room 31) ∷ asks 2 0 (in_ranges f) ∷ finds_none 9 (odd_body bodies) 0 (length bodies)
    ∷ finds_none 12 (low_body bodies) 0 (length bodies) ∷ []

unfoldable pub write_answer : Fields → List ℕ → ℕ → Answer (List ℕ)
write_answer f bodies room = provided (write_demands f bodies room) (accepted (packet_written f bodies))

-- the words afterwards: the packet, or on refusal what stood there
abbrev pub words_written : Fields → List ℕ → List ℕ → List ℕ
words_written f bodies old = rewritten (write_answer f bodies (length old)) old
