-- `aes3_read::read_word` meets its contract: where both tests hold at once it is the body; else at each return the tests
-- say which answer it is. Assumes nothing.
use mathlib.Core.Path.{sym, ◌∙◌}
use native.Mathlib.Omega.{arith}
use Rattle.aes3_read.proofs.Reading.{answer-7, answer-8, answer-body}
use Rattle.aes3_read.proofs.AtOnce.{changes-at-once, opens-at-once}
use Rattle.aes3_read.proofs.read_word.Goals as goal

pub returns-then-w-due_changes : goal.returns-then-w-due_changes
returns-then-w-due_changes c =
    let a = c.args in
    let e = c.if-w-due_changes.true ∙ c.due_changes.ensures in
    answer-body a.i a.w (omega arith) (opens-at-once a.i a.w (omega arith) e) (changes-at-once a.i a.w (omega arith) e)
    c.read_slots.result c.read_slots.ensures.0

pub returns-then-w-from : goal.returns-then-w-from
returns-then-w-from c =
    let a = c.args in
    answer-7 a.i a.w (omega arith) (λ e. c.if-w-from.true (e ∙ sym (c.from.ensures ∙ c.due_octet.ensures)))

pub returns-then-w-ne48038396025285290 : goal.returns-then-w-ne48038396025285290
returns-then-w-ne48038396025285290 c =
    let a = c.args in
    answer-8 a.i a.w (omega arith) (c.if-w-from.false ∙ (c.from.ensures ∙ c.due_octet.ensures)) c.if-w-ne48038396025285290.true

pub returns : goal.returns
returns c =
    let a = c.args in
    answer-body a.i a.w (omega arith) (c.if-w-from.false ∙ (c.from.ensures ∙ c.due_octet.ensures)) c.if-w-ne48038396025285290.false
    c.read_slots-2.result c.read_slots-2.ensures.0
