-- What a record enters in the sheet. A data packet is repaired and then read, a control packet read; the group is that
-- of the DID word after repair, or as received where the packet is not repaired. Assumes nothing.
use Rattle.std.specs.Prelude.{ℕ, List, eqb, length, get_or, drop}
use Rattle.bits.specs.Pick.{pick}
use Rattle.answer.specs.Answer.{Answer, mapped}
use Rattle.anc.specs.Head.{group_in}
use Rattle.hd_packet.specs.Packet.{dids}
use Rattle.hd_packet.specs.declared.Fields.{Fields}
use Rattle.hd_repair.specs.Repair.{lanes_changed, repair_answer, words_repaired}
use Rattle.hd_read.specs.Read.{read_answer, fields_read}
use Rattle.hd_control.specs.Control.{control_dids}
use Rattle.hd_control.specs.Read.{read_answer as control_answer}
use Rattle.hd_control.specs.declared.Control.{Control}
use Rattle.records.specs.Record.{big_endian, kind_of}
use Rattle.replay.specs.declared.Entry.{Entry}
use Rattle.replay.specs.declared.Entry.TheVariants.{Passed, Data, Control as Controls, Refused}

-- ---- a data packet, 62 octets (else 1, without a group)

-- from its group (0 where no DID is listed), the lanes that repair mended or its refusal, and what the reader said
abbrev pub data_heard : ℕ → Answer ℕ → Answer Fields → Entry
data_heard group (Answer.refused n p) read = Refused group 0 n
data_heard group (Answer.accepted lanes) (Answer.accepted f) = Data group lanes f.dbn
data_heard group (Answer.accepted lanes) (Answer.refused n p) = Refused group lanes n

-- the words after repair, or as received
abbrev pub mended : List ℕ → List ℕ
mended words = words_repaired words words

abbrev pub data_words : List ℕ → Entry
data_words words =
    data_heard (group_in dids (get_or (mended words) 3 0)) (mapped lanes_changed (repair_answer words (length words)))
    (mapped fields_read (read_answer (mended words) 4))

unfoldable pub data_entry : List ℕ → Entry
data_entry payload = pick (eqb (length payload) 62) (data_words (big_endian payload)) (Refused 0 0 1)

-- ---- a control packet, 36 octets (else 1, without a group)

abbrev pub control_heard : ℕ → Answer Control → Entry
control_heard group (Answer.accepted c) = Controls group
control_heard group (Answer.refused n p) = Refused group 0 n

abbrev pub control_words : List ℕ → Entry
control_words words = control_heard (group_in control_dids (get_or words 3 0)) (control_answer words)

unfoldable pub control_entry : List ℕ → Entry
control_entry payload = pick (eqb (length payload) 36) (control_words (big_endian payload)) (Refused 0 0 1)

-- ---- any record: other kinds and versions, and lengths below 2, are passed over

abbrev pub entry_for : Answer ℕ → List ℕ → Entry
entry_for (Answer.accepted kind) payload = pick (eqb kind 2) (data_entry payload) (pick (eqb kind 4) (control_entry payload) Passed)
entry_for (Answer.refused n p) payload = Passed

unfoldable pub entry_of : List ℕ → Entry
entry_of body = entry_for (kind_of body) (drop 2 body)
