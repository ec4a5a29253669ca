-- What a program writes from a step's start on is the step's text: each text has room in the buffer. Assumes nothing.
use mathlib.Core.Path.{◌≡◌, ap, ◌∙◌}
use mathlib.Core.List.{List, []}
use Prim.Native.Nat.{ℕ, ◌+◌, ◌≤◌}
use native.Mathlib.Omega.{arith}
use lib.ListN.{length, drop, length-append}
use Rattle.records.specs.declared.Turn.{Turn}
use Rattle.records.proofs.HeadLaws.{turn-cases}
use Rattle.report.specs.Text.{cut_line, count_line}
use Rattle.report.specs.Placed.{with_text}
use Rattle.answer.specs.Answer.{Answer.refused}
use Rattle.report.proofs.Lengths.{line-most, count_most, starts, with_size, at-end}
use Rattle.records.specs.Record.{record_answer}
use Rattle.report.specs.Report.{Printed, ending, going, printed_for, printed, step_of}
use Rattle.report.specs.declared.Step.{Step}

abbrev Short : Printed → Type 0
Short t = length t.text ≤ 128

ending-short : (n : ℕ) (text : List ℕ) → length text ≤ 71 → Short (ending n text)
unfolding ending
ending-short n text h = omega (arith, length-append text (count_line n), count_most n)

going-short : (n : ℕ) (text : List ℕ) → length text ≤ 71 → Short (going n text)
unfolding going
going-short n text h = omega arith

short : (n : ℕ) (head body : List ℕ) → Short (printed n head body)
unfolding printed printed_for
short n head body =
    turn-cases n head (length body) (λ (t : Turn). Short (printed_for t body)) (ending-short n [] (omega arith)) (ending-short n cut_line (omega arith))
    (ending-short (n + 1) _ (line-most (n + 1) (refused 2 0))) (going-short (n + 1) _ (line-most (n + 1) (record_answer body)))

pub step-starts : (t : Printed) {s : Step} → s ≡ step_of t → s.from ≤ 128
unfolding step_of
step-starts t e = omega (arith, ap (λ (s : Step). s.from) e, starts 128 t.text)

module _ (old : List ℕ) (size : length old ≡ 128) (n : ℕ) (head body : List ℕ) where
  pub step-written : drop (step_of (printed n head body)).from (with_text (printed n head body).text old) ≡ (printed n head body).text
  unfolding step_of
  step-written = at-end (printed n head body).text old size (short n head body)

  pub step-size : {new : List ℕ} → new ≡ with_text (printed n head body).text old → length new ≡ 128
  step-size e = ap length e ∙ with_size (printed n head body).text old size (short n head body)
