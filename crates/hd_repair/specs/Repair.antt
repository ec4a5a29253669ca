-- Repairing an HD audio data packet: 31 words into another 31. Lengths (1), words above 1,023 (14), the first lane that
-- lane repair refuses (15), then an ADF that is not 00h, FFh, FFh (13). b8, b9 and CS are built anew, the ADF whole.
-- Assumes nothing.
use Rattle.std.specs.Prelude.{ℕ, List, [], ◌∷◌, eqb, length}
use Rattle.answer.specs.Answer.{Answer, Answer.accepted, after}
use Rattle.answer.specs.Demand.{Demand, Demand.asks, Demand.finds_none, provided}
use Rattle.anc.specs.Word.{wide_at}
use Rattle.anc.specs.Head.{head_demands}
use Rattle.codes.specs.Lanes.{hopeless_at, mended_octets, lanes_apart}
use Rattle.hd_packet.specs.Packet.{octets_of, packet_of}

-- the octets across the lanes that lane repair gives for the lanes received
unfoldable pub repaired_octets : List ℕ → List ℕ
repaired_octets words = mended_octets (octets_of words)

unfoldable pub packet_repaired : List ℕ → List ℕ
packet_repaired words = packet_of (repaired_octets words)

-- the low octets of the ADF
abbrev pub adf_octets : List (ℕ × ℕ)
adf_octets = (0, 0x00) ∷ (1, 0xFF) ∷ (2, 0xFF) ∷ []

abbrev pub repair_demands : List ℕ → ℕ → List Demand
repair_demands words room =
    asks 1 0 (eqb (length words) 31) ∷ asks 1 0 (eqb room 31) ∷ finds_none 14 (wide_at words) 0 (length words)
    ∷ finds_none 15 (hopeless_at (octets_of words)) 0 8 ∷ head_demands adf_octets (repaired_octets words)

-- the repaired packet, and in how many lanes output and input differ
unfoldable pub repair_answer : List ℕ → ℕ → Answer (ℕ × List ℕ)
repair_answer words room =
    provided (repair_demands words room) (accepted (lanes_apart 8 (repaired_octets words) (octets_of words), packet_repaired words))

abbrev pub lanes_changed : ℕ × List ℕ → ℕ
lanes_changed v = v.0

abbrev pub packet_out : ℕ × List ℕ → List ℕ
packet_out v = v.1

-- the words afterwards: the repaired packet, or on refusal what stood there
abbrev pub words_repaired : List ℕ → List ℕ → List ℕ
words_repaired words old = after packet_out (repair_answer words (length old)) old
