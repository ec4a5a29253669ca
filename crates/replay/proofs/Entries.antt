-- What a record enters, from what the code found on its way; and that each entry has a place in the sheet. Assumes
-- nothing.
use mathlib.Core.Path.{◌≡◌, refl, sym, ap, ap₂, ◌∙◌}
use mathlib.Core.List.{List}
use Prim.Native.Nat.{ℕ, ◌-◌, ◌≤◌, ◌<◌}
use native.Mathlib.Omega.{arith}
use borrow.Author.Tests.{eq-eqb, ne_eqb}
use lib.Dec.{eqb}
use lib.ListN.{length, get_or, take, drop}
use Rattle.bits.proofs.Tests.{pick-cases}
use Rattle.answer.specs.Answer.{Answer, Answer.accepted, Answer.refused, mapped}
use Rattle.anc.specs.Head.{group_in}
use Rattle.anc.proofs.Heads.{group-most}
use Rattle.hd_packet.specs.Packet.{dids}
use Rattle.hd_packet.specs.declared.Fields.{Fields}
use Rattle.hd_repair.specs.Repair.{lanes_changed, repair_answer, words_repaired}
use Rattle.hd_repair.proofs.RepairLaws.{repair-number}
use Rattle.hd_read.specs.Read.{read_answer, fields_read}
use Rattle.hd_read.proofs.ReadLaws.{read-ranges, read_number}
use Rattle.hd_control.specs.Control.{control_dids}
use Rattle.hd_control.specs.Read.{read_answer as control_answer}
use Rattle.hd_control.specs.declared.Control.{Control}
use Rattle.hd_control.proofs.Ranges.{read_named, read_number as control-number}
use Rattle.records.specs.Record.{big_endian, words_filled, kind_of}
use Rattle.records.proofs.RecordLaws.{filled-words, to_the_end}
use Rattle.replay.specs.Packet.{data_heard, mended, data_words, data_entry, control_heard, control_words, control_entry, entry_for, entry_of}
use Rattle.replay.specs.Inner.{ProperEntry}
use Rattle.replay.specs.declared.Entry.TheVariants.{Passed, Refused}

-- ---- a data packet

pub data-short : (payload : List ℕ) → (length payload ≡ 62 → ⊥) → Refused 0 0 1 ≡ data_entry payload
unfolding data_entry
data-short payload h = simp (ne_eqb (length payload) 62 h)

module _ (payload first second : List ℕ) {words before after : List ℕ} {group : ℕ} {lanes : Answer ℕ}
    (long : length payload ≡ 62) (one : length first ≡ 31) (two : length second ≡ 31) (e : words ≡ words_filled payload first)
    (f : before ≡ words_filled payload second) (m : after ≡ words_repaired words before)
    (l : lanes ≡ mapped lanes_changed (repair_answer words (length before))) (g : group ≡ group_in dids (get_or after 3 0)) where
  received : words ≡ big_endian payload
  received = e ∙ filled-words payload first (omega arith)

  same : before ≡ words
  same = f ∙ filled-words payload second (omega arith) ∙ sym received

  mended-is : after ≡ mended words
  mended-is = m ∙ ap (words_repaired words) same

  by-words : {read : Answer Fields} → read ≡ mapped fields_read (read_answer after 4) → data_heard group lanes read ≡ data_words words
  by-words {read} r =
      ap₂ (λ (n : ℕ) (a : Answer ℕ). data_heard n a read) (g ∙ ap (λ (ws : List ℕ). group_in dids (get_or ws 3 0)) mended-is)
      (l ∙ ap (λ (ws : List ℕ). mapped lanes_changed (repair_answer words (length ws))) same)
      ∙ ap (λ (a : Answer Fields). data_heard (group_in dids (get_or (mended words) 3 0)) (mapped lanes_changed (repair_answer words (length words))) a)
      (r ∙ ap (λ (ws : List ℕ). mapped fields_read (read_answer ws 4)) mended-is)

  pub data_is : {read : Answer Fields} → read ≡ mapped fields_read (read_answer after 4) → data_heard group lanes read ≡ data_entry payload
  unfolding data_entry
  data_is r = by-words r ∙ ap data_words received ∙ simp (eq-eqb (length payload) 62 long)

-- ---- a control packet

pub control-short : (payload : List ℕ) → (length payload ≡ 36 → ⊥) → Refused 0 0 1 ≡ control_entry payload
unfolding control_entry
control-short payload h = simp (ne_eqb (length payload) 36 h)

pub control-is : (payload old : List ℕ) {words : List ℕ} {group : ℕ} {said : Answer Control} → length payload ≡ 36 → length old ≡ 18
    → words ≡ words_filled payload old → group ≡ group_in control_dids (get_or words 3 0) → said ≡ control_answer words
    → control_heard group said ≡ control_entry payload
unfolding control_entry
control-is payload old {words} long many e g s =
    let w : words ≡ big_endian payload = e ∙ filled-words payload old (omega arith) in
    ap₂ control_heard (g ∙ ap (λ (ws : List ℕ). group_in control_dids (get_or ws 3 0)) w) (s ∙ ap control_answer w)
    ∙ simp (eq-eqb (length payload) 36 long)

-- ---- any record

module _ (body : List ℕ) where
  pub entry-none : {number place : ℕ} → kind_of body ≡ refused number place → Passed ≡ entry_of body
  unfolding entry_of
  entry-none e = ap (λ (a : Answer ℕ). entry_for a (drop 2 body)) (sym e)

  module _ {kind : ℕ} (e : kind_of body ≡ accepted kind) where
    by-kind : entry_for (accepted kind) (drop 2 body) ≡ entry_of body
    unfolding entry_of
    by-kind = ap (λ (a : Answer ℕ). entry_for a (drop 2 body)) (sym e)

    pub entry-data : kind ≡ 2 → data_entry (take (length body - 2) (drop 2 body)) ≡ entry_of body
    entry-data k =
        let p : data_entry (drop 2 body) ≡ entry_for (accepted kind) (drop 2 body) = simp (eq-eqb kind 2 k) in
        ap data_entry (to_the_end 2 body) ∙ p ∙ by-kind

    pub entry-control : kind ≡ 4 → control_entry (take (length body - 2) (drop 2 body)) ≡ entry_of body
    entry-control k =
        let p : control_entry (drop 2 body) ≡ entry_for (accepted kind) (drop 2 body) = rw k refl in
        ap control_entry (to_the_end 2 body) ∙ p ∙ by-kind

    pub entry_other : (kind ≡ 2 → ⊥) → (kind ≡ 4 → ⊥) → Passed ≡ entry_of body
    entry_other h k =
        let p : Passed ≡ entry_for (accepted kind) (drop 2 body) = simp (ne_eqb kind 2 h, ne_eqb kind 4 k) in
        p ∙ by-kind

-- ---- each entry has a place

module _ (group : ℕ) (few : group ≤ 4) where
  data-heard : (words : List ℕ) (lanes : Answer (ℕ × List ℕ)) (read : Answer (Fields × List ℕ))
      → ((n p : ℕ) → lanes ≡ refused n p → n < 18) → ((n p : ℕ) → read ≡ refused n p → n < 18)
      → ((v : Fields × List ℕ) → read ≡ accepted v → (1 ≤ group) × (v.0.dbn ≤ 255))
      → ProperEntry (data_heard group (mapped lanes_changed lanes) (mapped fields_read read))
  data-heard words (refused n p) read h k r = (few, h n p refl)
  data-heard words (accepted v) (refused n p) h k r = (few, k n p refl)
  data-heard words (accepted v) (accepted w) h k r = ((r w refl).0, few, (r w refl).1)

  control-heard : (said : Answer Control) → ((n p : ℕ) → said ≡ refused n p → n < 18) → ((c : Control) → said ≡ accepted c → 1 ≤ group)
      → ProperEntry (control_heard group said)
  control-heard (refused n p) h r = (few, h n p refl)
  control-heard (accepted c) h r = (r c refl, few)

data-proper : (payload : List ℕ) → ProperEntry (data_entry payload)
unfolding data_entry
data-proper payload =
    let words = big_endian payload in
    pick-cases ProperEntry (eqb (length payload) 62) (data_words words) (Refused 0 0 1)
    (λ t. data-heard (group_in dids (get_or (mended words) 3 0)) (group-most dids (get_or (mended words) 3 0)) words
    (repair_answer words (length words)) (read_answer (mended words) 4) (repair-number words (length words)) (read_number (mended words) 4)
    (read-ranges (mended words)))
    (λ f. (omega arith, omega arith))

control-proper : (payload : List ℕ) → ProperEntry (control_entry payload)
unfolding control_entry
control-proper payload =
    let words = big_endian payload in
    pick-cases ProperEntry (eqb (length payload) 36) (control_words words) (Refused 0 0 1)
    (λ t. control-heard (group_in control_dids (get_or words 3 0)) (group-most control_dids (get_or words 3 0)) (control_answer words)
    (control-number words) (read_named words))
    (λ f. (omega arith, omega arith))

for-proper : (a : Answer ℕ) (payload : List ℕ) → ProperEntry (entry_for a payload)
for-proper (refused n p) payload = tt
for-proper (accepted kind) payload =
    pick-cases ProperEntry (eqb kind 2) _ _ (λ t. data-proper payload)
    (λ f. pick-cases ProperEntry (eqb kind 4) _ _ (λ t. control-proper payload) (λ g. tt))

pub entry-proper : (body : List ℕ) → ProperEntry (entry_of body)
unfolding entry_of
entry-proper body = for-proper (kind_of body) (drop 2 body)
