-- What C is told of an answer: document 01's number and place, then the values, each 0 on a refusal, but for the hunt's
-- count. Assumes nothing.
use Rattle.std.specs.Prelude.{ℕ, ℤ, pos}
use Rattle.answer.specs.Answer.{Answer, told}
use Rattle.status.specs.Numbers.{consumer_numbers}
use Rattle.status.specs.declared.MeaningNumbers.{MeaningNumbers}
use Rattle.hd_packet.specs.declared.Fields.{Fields}
use Rattle.lampcoil.specs.declared.Told.{Told}
use Rattle.lampcoil.specs.declared.ToldNumber.{ToldNumber}
use Rattle.lampcoil.specs.declared.ToldBody.{ToldBody}
use Rattle.lampcoil.specs.declared.ToldMeaning.{ToldMeaning}
use Rattle.lampcoil.specs.declared.ToldBlock.{ToldBlock}
use Rattle.lampcoil.specs.declared.ToldStart.{ToldStart}
use Rattle.lampcoil.specs.declared.ToldFrame.{ToldFrame}
use Rattle.lampcoil.specs.declared.ToldPacket.{ToldPacket}

-- no value
abbrev pub told_verdict : Answer (Unit {0}) → Told
told_verdict a = record { number = (told tt a).0; place = (told tt a).1 }

-- one number
abbrev pub told_number : Answer ℕ → ToldNumber
told_number a = record { number = (told 0 a).0; place = (told 0 a).1; value = (told 0 a).2 }

-- sample, V, U, C of a body
abbrev pub told_body : Answer (ℤ × ℕ × ℕ × ℕ) → ToldBody
told_body a =
    let t = told (pos 0, 0, 0, 0) a in
    record { number = t.0; place = t.1; sample = t.2.0; v = t.2.1; u = t.2.2; c = t.2.3 }

-- the meaning of channel status, with a number before it
abbrev pub meaning_laid : ℕ → MeaningNumbers → ToldMeaning
meaning_laid n m =
    record {
      number = n;
      place = 0;
      usage = m.usage;
      audio = m.audio;
      emphasis = m.emphasis;
      emphasis_bits = m.emphasis_bits;
      lock = m.lock;
      rate = m.rate;
      mode = m.mode;
      mode_bits = m.mode_bits;
      user = m.user;
      user_bits = m.user_bits;
      auxiliary = m.auxiliary;
      auxiliary_bits = m.auxiliary_bits;
      word_length = m.word_length;
      word_length_bits = m.word_length_bits;
      alignment = m.alignment;
      alignment_bits = m.alignment_bits;
    }

-- each refusal of it is at place 0; the numbers of consumer use are all 0
abbrev pub told_meaning : Answer MeaningNumbers → ToldMeaning
told_meaning a =
    let t = told consumer_numbers a in
    meaning_laid t.0 t.2

-- whether the CRCC of A and of B is right
abbrev pub told_block : Answer (ℕ × ℕ) → ToldBlock
told_block a =
    let t = told (0, 0) a in
    record { number = t.0; place = t.1; crcc_a = t.2.0; crcc_b = t.2.1 }

-- where a block starts; the number of symbols compared stands beside a refusal too
abbrev pub told_start : Answer ℕ × ℕ → ToldStart
told_start a =
    let t = told 0 a.0 in
    record { number = t.0; place = t.1; position = t.2; compared = a.1 }

-- active count and command count
abbrev pub told_frame : Answer (ℕ × ℕ) → ToldFrame
told_frame a =
    let t = told (0, 0) a in
    record { number = t.0; place = t.1; active = t.2.0; commands = t.2.1 }

-- the fields of a packet
abbrev pub no_fields : Fields
no_fields = record { group = 0; dbn = 0; phase = 0; ck12 = 0; z1 = 0; z2 = 0 }

-- those that C lends
abbrev pub fields_lent : ℕ → ℕ → ℕ → ℕ → ℕ → ℕ → Fields
fields_lent group dbn phase ck12 z1 z2 = record { group = group; dbn = dbn; phase = phase; ck12 = ck12; z1 = z1; z2 = z2 }

abbrev pub told_packet : Answer Fields → ToldPacket
told_packet a =
    let t = told no_fields a in
    record {
      number = t.0;
      place = t.1;
      group = t.2.group;
      dbn = t.2.dbn;
      phase = t.2.phase;
      ck12 = t.2.ck12;
      z1 = t.2.z1;
      z2 = t.2.z2;
    }
