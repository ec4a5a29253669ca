-- One record, after its length: a version, which is 1, a kind, and a payload; and what is answered of it. Assumes
-- nothing.
use Rattle.std.specs.Prelude.{ℕ, ◌+◌, ◌*◌, List, [], ◌∷◌, eqb, leb, length, get_or, drop}
use Rattle.bits.specs.Pick.{pick}
use Rattle.answer.specs.Answer.{Answer, Answer.accepted, Answer.refused, mapped}
use Rattle.answer.specs.Demand.{Demand, Demand.asks, provided}
use Rattle.aes3_read.specs.Reader.{read_answer as block_answer, crccs}
use Rattle.hd_packet.specs.declared.Fields.{Fields}
use Rattle.hd_read.specs.Read.{read_answer as packet_answer, fields_read}
use Rattle.madi_read.specs.Reader.{frame_read, counts_of}
use Rattle.hd_control.specs.declared.Control.{Control}
use Rattle.hd_control.specs.Read.{read_answer as control_answer}
use Rattle.records.specs.declared.Content.{Content}
use Rattle.records.specs.declared.Content.TheVariants.{Aes3, Hd, Madi, Ctl}

-- ---- kind 1: an AES3 block

abbrev pub block_content : ℕ × ℕ → Content
block_content crccs = Aes3 crccs.0 crccs.1

unfoldable pub block_record : List ℕ → Answer Content
block_record payload = mapped block_content (mapped crccs (block_answer payload 384 192))

-- ---- kind 2: a packet, 62 octets, each word big-endian

abbrev pub packet_content : Fields → Content
packet_content f = Hd f.group f.dbn

-- words of two octets, the higher first
unfoldable pub big_endian : List ℕ → List ℕ
big_endian [] = []
big_endian (a ∷ []) = []
big_endian (a ∷ b ∷ s) = (a * 256 + b) ∷ big_endian s

-- what words hold after those of octets: these, where the octets are twice as many
unfoldable pub words_filled : List ℕ → List ℕ → List ℕ
words_filled octets old = pick (eqb (length octets) (length old * 2)) (big_endian octets) old

abbrev pub packet_demands : List ℕ → List Demand
packet_demands payload = asks 1 0 (eqb (length payload) 62) ∷ []

unfoldable pub packet_record : List ℕ → Answer Content
packet_record payload = provided (packet_demands payload) (mapped packet_content (mapped fields_read (packet_answer (big_endian payload) 4)))

-- ---- kind 3: channel count, level before, bit length in two octets, line

abbrev pub frame_content : ℕ × ℕ → Content
frame_content counts = Madi counts.0 counts.1

abbrev pub frame_demands : List ℕ → List Demand
frame_demands payload = asks 1 0 (leb 4 (length payload)) ∷ []

unfoldable pub frame_record : List ℕ → Answer Content
frame_record payload =
    provided (frame_demands payload)
    (mapped frame_content (mapped counts_of
    (frame_read (get_or payload 0 0) (get_or payload 1 0) (get_or payload 2 0 * 256 + get_or payload 3 0) (drop 4 payload) (get_or payload 0 0) 255)))

-- ---- kind 4: a control packet, 36 octets, likewise

abbrev pub control_content : Control → Content
control_content c = Ctl c.group

abbrev pub control_demands : List ℕ → List Demand
control_demands payload = asks 1 0 (eqb (length payload) 36) ∷ []

unfoldable pub control_record : List ℕ → Answer Content
control_record payload = provided (control_demands payload) (mapped control_content (control_answer (big_endian payload)))

-- ---- any kind

-- a length below 2, an unknown version: 2
abbrev pub kind_demands : List ℕ → List Demand
kind_demands body = asks 2 0 (leb 2 (length body)) ∷ asks 2 0 (eqb (get_or body 0 0) 1) ∷ []

-- the octet that gives the kind
unfoldable pub kind_of : List ℕ → Answer ℕ
kind_of body = provided (kind_demands body) (accepted (get_or body 1 0))

-- what the reader of the kind says; an unknown kind: 2
unfoldable pub by_kind : ℕ → List ℕ → Answer Content
by_kind kind payload =
    pick (eqb kind 1) (block_record payload)
    (pick (eqb kind 2) (packet_record payload)
    (pick (eqb kind 3) (frame_record payload)
    (pick (eqb kind 4) (control_record payload)
    (refused 2 0))))

unfoldable pub record_answer : List ℕ → Answer Content
record_answer body = provided (kind_demands body) (by_kind (get_or body 1 0) (drop 2 body))
