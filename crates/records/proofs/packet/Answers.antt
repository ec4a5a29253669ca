-- `records::packet` meets its contract. Assumes nothing.
use mathlib.Core.Path.{◌≡◌, sym, ap, ◌∙◌}
use Rattle.std.proofs.lemmas.Result.{err_from_is_err_and}
use mathlib.Core.List.{List}
use Prim.Native.Nat.{ℕ}
use borrow.Author.Tests.{eq-eqb, ne_eqb}
use Rattle.hd_read.specs.Read.{read_answer, fields_read}
use Rattle.answer.specs.Answer.{mapped}
use Rattle.answer.specs.Said.{said}
use Rattle.answer.specs.Demand.{◌&◌}
use Rattle.answer.specs.Demand.Stops.{fails}
use Rattle.answer.proofs.Chains.{passing, stopped}
use Rattle.records.specs.Record.{packet_content, big_endian, packet_demands, packet_record}
use Rattle.records.proofs.RecordLaws.{filled-words}
use borrow.Author.Rules.{rules}
use Rattle.records.proofs.packet.Goals as goal
use Rattle.records.proofs.packet.Goals.{After-read_packet}

pub returns-then-octets-ne62 : goal.returns-then-octets-ne62
unfolding packet_record
returns-then-octets-ne62 c = sym (stopped _ (fails (ne_eqb _ _ c.if-octets-ne62.true)))

module _ (c : After-read_packet) where
  -- the reader's answer, of the words that were filled
  read : said c.read_packet.result ≡ mapped fields_read (read_answer (big_endian c.args.octets.now) 4)
  read =
      c.read_packet.ensures.result_value
      ∙ ap (λ (ws : List ℕ). mapped fields_read (read_answer ws 4)) (c.fill_words.ensures ∙ filled-words _ _ (search rules))

  last : mapped packet_content (mapped fields_read (read_answer (big_endian c.args.octets.now) 4)) ≡ packet_record c.args.octets.now
  unfolding packet_record
  last = sym (passing _ (packet_demands c.args.octets.now) (eq-eqb _ _ c.if-octets-ne62.false & tt))

pub returns-in_err-fields : goal.returns-in_err-fields
returns-in_err-fields c =
    let r = (goal.at.returns-in_err-fields c).After-read_packet in
    let p = err_from_is_err_and c.from_residual.result c.from_residual.ensures.1 in
    rw (p.1, p.2) (ap (mapped packet_content) (ap said (sym c.in_err-fields.was) ∙ read r) ∙ last r)

pub returns : goal.returns
returns c =
    let r = (goal.at.returns c).After-read_packet in
    ap (mapped packet_content) (ap said (sym c.in_ok-fields.was) ∙ read r) ∙ last r
