-- `aes3_write::write_block` meets its contract: each return says which demand stops, or that all are met. Assumes
-- nothing.
use mathlib.Core.Path.{◌≡◌, sym, ap, ◌∙◌}
use mathlib.Core.List.{List}
use Prim.Native.Nat.{ℕ, ◌<◌}
use native.Mathlib.Omega.{arith}
use borrow.Author.Tests.{eq-eqb, ne_eqb, lt-ltb, le-ltb}
use lib.IntN.{ℤ}
use lib.ListN.{length}
use Rattle.answer.specs.Answer.{Answer.accepted, Answer.refused}
use Rattle.answer.specs.Demand.{◌&◌}
use Rattle.answer.specs.Demand.Stops.{fails, later}
use Rattle.std.specs.Array.{IsWholeChunk}
use Rattle.std.proofs.lemmas.Result.{MatchResult-at_ok, MatchResult-at_err, err_from_is_err_and}
use Rattle.answer.specs.Said.{number_of, place_of, said}
use Rattle.answer.proofs.Residues.{shows-refusal, shows-acceptance}
use Rattle.block.specs.Side.{side_length}
use Rattle.block.specs.Check.{checked}
use Rattle.block.proofs.CheckLaws.{sound-met, unsound-stops}
use Rattle.aes3_write.specs.Writer.{write_answer}
use Rattle.aes3_write.proofs.BlockWriting.{length-block}
use Rattle.aes3_write.proofs.write_block.Goals as goal
use Rattle.aes3_write.proofs.write_block.Goals.{In-Ok, In-Ok-try_from, Else-level-gt1}

-- the samples lent as an array are the samples, and so are the octets of the side table
samples-whole : (c : In-Ok) → IsWholeChunk c.args.samples.now c.in-Ok.samples.now 384
samples-whole c = MatchResult-at_ok _ _ _ c.in-Ok.is c.try_from.ensures.1

side-whole : (c : In-Ok-try_from) → IsWholeChunk c.args.side.now c.in-Ok-try_from.side.now 192
side-whole c = MatchResult-at_ok _ _ _ c.in-Ok-try_from.is c.try_from-2.ensures.1

-- lengths and level are right
module _ (c : Else-level-gt1) where
  abbrev samples : List ℤ
  samples = c.args.samples.now

  abbrev side : List ℕ
  side = c.args.side.now

  nl : length c.args.line.now ≡ 3072
  nl = c.if-line-ne3072.false

  level : c.args.level < 2
  level = omega arith

pub returns-in_default : goal.returns-in_default
unfolding write_answer
returns-in_default c =
    let ne = MatchResult-at_err _ _ _ c.in_default.is c.try_from.ensures.1 in
    let both = shows-refusal _ _ _ _ (fails (ne_eqb _ 384 ne)) in
    record { result_value = both.0; line_after = both.1 }

pub returns-in_default-try_from : goal.returns-in_default-try_from
unfolding write_answer
returns-in_default-try_from c =
    let p = (goal.at.returns-in_default-try_from c).In-Ok in
    let ne = MatchResult-at_err _ _ _ c.in_default-try_from.is c.try_from-2.ensures.1 in
    let both = shows-refusal _ _ _ _ (later (eq-eqb _ 384 (samples-whole p).long) (fails (ne_eqb _ side_length ne))) in
    record { result_value = both.0; line_after = both.1 }

pub returns-then-line-ne3072 : goal.returns-then-line-ne3072
unfolding write_answer
returns-then-line-ne3072 c =
    let p = (goal.at.returns-then-line-ne3072 c).In-Ok in
    let q = (goal.at.returns-then-line-ne3072 c).In-Ok-try_from in
    let both = shows-refusal _ _ _ _
    (later (eq-eqb _ 384 (samples-whole p).long) (later (eq-eqb _ side_length (side-whole q).long) (fails (ne_eqb _ 3072 c.if-line-ne3072.true)))) in
    record { result_value = both.0; line_after = both.1 }

pub returns-then-level-gt1 : goal.returns-then-level-gt1
unfolding write_answer
returns-then-level-gt1 c =
    let p = (goal.at.returns-then-level-gt1 c).In-Ok in
    let q = (goal.at.returns-then-level-gt1 c).In-Ok-try_from in
    let both = shows-refusal _ _ _ _
    (later (eq-eqb _ 384 (samples-whole p).long) (later (eq-eqb _ side_length (side-whole q).long)
    (later (eq-eqb _ 3072 c.if-line-ne3072.false) (fails (le-ltb _ 2 c.if-level-gt1.true))))) in
    record { result_value = both.0; line_after = both.1 }

pub returns-in_err-check_block : goal.returns-in_err-check_block
unfolding write_answer
returns-in_err-check_block c =
    let t = (goal.at.returns-in_err-check_block c).Else-level-gt1 in
    let p = samples-whole (goal.at.returns-in_err-check_block c).In-Ok in
    let q = side-whole (goal.at.returns-in_err-check_block c).In-Ok-try_from in
    let r = c.in_err-check_block.field-0.0 in
    let same = err_from_is_err_and c.from_residual.result c.from_residual.ensures.1 in
    let e : checked (samples t) (side t) ≡ refused (number_of r) (place_of r) =
    sym (rw (p.same, q.same) at c.check_block.ensures) ∙ ap said c.in_err-check_block.was in
    let both = shows-refusal _ _ _ _
    (later (eq-eqb _ 384 p.long) (later (eq-eqb _ side_length q.long) (later (eq-eqb _ 3072 (nl t)) (later (lt-ltb _ 2 (level t))
    (unsound-stops (samples t) (side t) p.long q.long e))))) in
    record { result_value = rw (same.1, same.2) both.0; line_after = both.1 }

pub write_line-requires : goal.write_line-requires
write_line-requires c = (sym c.check_block.ensures ∙ ap said c.in_ok-check_block.was, c.if-line-ne3072.false)

pub returns : goal.returns
unfolding write_answer
returns c =
    let t = (goal.at.returns c).Else-level-gt1 in
    let p = samples-whole (goal.at.returns c).In-Ok in
    let q = side-whole (goal.at.returns c).In-Ok-try_from in
    let e : checked (samples t) (side t) ≡ accepted tt = sym (rw (p.same, q.same) at c.check_block.ensures) ∙ ap said c.in_ok-check_block.was in
    let m = sound-met (samples t) (side t) e in
    let both = shows-acceptance _ _ _ _ _
    (m.0 & m.1.0 & eq-eqb _ 3072 (nl t) & lt-ltb _ 2 (level t) & m.1.1)
    (length-block (samples t) (side t) t.args.level ∙ sym (nl t)) (rw (p.same, q.same) at c.write_line.ensures) in
    record { result_value = both.0; line_after = both.1 }
