-- `hd_read::read_packet` meets its contract: the lengths, then what is read of the words. Assumes nothing.
use mathlib.Core.Path.{◌≡◌, sym, ap, ◌∙◌}
use mathlib.Core.List.{List}
use Prim.Native.Nat.{ℕ}
use native.Mathlib.Omega.{arith}
use borrow.Author.Tests.{eq-eqb, ne_eqb}
use lib.ListN.{length}
use Rattle.std.proofs.lemmas.Result.{err_from_is_err_and}
use Rattle.answer.specs.Answer.{Answer, mapped, after}
use Rattle.answer.specs.Demand.Stops.{fails, later}
use Rattle.answer.proofs.Residues.{whole, shows-refusal}
use Rattle.hd_packet.specs.declared.Fields.{Fields}
use Rattle.hd_read.specs.Read.{read_answer, fields_read, bodies_read}
use Rattle.hd_read.specs.Inner.{words_read}
use Rattle.hd_read.proofs.ReadLaws.{whole-read}
use Rattle.hd_read.proofs.read_packet.Goals as goal
use Rattle.hd_read.proofs.read_packet.Goals.{Else-bodies-ne4}

-- the lengths are right, and what is read is said of the words
said-of : (c : Else-bodies-ne4) {a : Answer (Fields × List ℕ)} → a ≡ words_read c.in-Some.words.now
    → a ≡ read_answer c.args.words.now (length c.args.bodies.now)
said-of c e =
    e ∙ ap words_read c.in-Some.ensures.cases.same
    ∙ sym (whole-read c.args.words.now (length c.args.bodies.now) c.in-Some.ensures.cases.long c.if-bodies-ne4.false)

pub returns-in_default : goal.returns-in_default
unfolding read_answer
returns-in_default c =
    let both = shows-refusal _ _ _ _ (fails (ne_eqb _ 31 c.in_default.ensures.cases)) in
    record { result_value = both.0; bodies_after = both.1 }

pub returns-then-bodies-ne4 : goal.returns-then-bodies-ne4
unfolding read_answer
returns-then-bodies-ne4 c =
    let both = shows-refusal _ _ _ _ (later (eq-eqb _ 31 c.in-Some.ensures.cases.long) (fails (ne_eqb _ 4 c.if-bodies-ne4.true))) in
    record { result_value = both.0; bodies_after = both.1 }

pub returns-in_err-fields : goal.returns-in_err-fields
returns-in_err-fields c =
    let p = err_from_is_err_and c.from_residual.result c.from_residual.ensures.1 in
    let q = said-of (goal.at.returns-in_err-fields c).Else-bodies-ne4 c.in_err-fields.ensures in
    record {
      result_value = rw (p.1, p.2) (ap (mapped fields_read) q);
      bodies_after = ap (λ (a : Answer (Fields × List ℕ)). after bodies_read a c.args.bodies.now) q;
    }

pub returns : goal.returns
returns c =
    let old = c.args.bodies.now in
    let v : Fields × List ℕ = (c.in_ok-fields.fields, c.in_ok-fields.read) in
    let q = said-of (goal.at.returns c).Else-bodies-ne4 c.in_ok-fields.ensures in
    record {
      result_value = ap (mapped fields_read) q;
      bodies_after = c.copy_from_slice.ensures.after
          ∙ sym (whole bodies_read v old (omega (arith, ap length c.copy_from_slice.ensures.after, c.copy_from_slice.ensures.len)))
          ∙ ap (λ (a : Answer (Fields × List ℕ)). after bodies_read a old) q;
    }
