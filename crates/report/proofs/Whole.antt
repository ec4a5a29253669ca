-- The report as a whole: a line for each record, and the count line, which has their number, always ends it; and what a
-- caller of the steps goes on with. Assumes nothing.
use mathlib.Core.Path.{◌≡◌, refl, sym, ap, ◌∙◌}
use mathlib.Core.Bool.{true, false}
use mathlib.Core.Logic.{◌⊎◌, inl, inr}
use mathlib.Core.List.{List, [], ◌∷◌, ◌++◌, append_assoc}
use Prim.Native.Nat.{ℕ, zero, suc, ◌+◌, ◌-◌, ◌<◌}
use native.Mathlib.Nat.{add-zero}
use native.Mathlib.Omega.{arith}
use borrow.Author.Tests.{ltb-false}
use lib.Dec.{eqb, ltb}
use lib.ListN.{length, take, drop, length-drop}
use Rattle.bits.proofs.Tests.{pick-cases, no-yes}
use Rattle.answer.specs.Answer.{Answer, Answer.refused}
use Rattle.records.specs.Head.{size_of}
use Rattle.records.specs.declared.Content.{Content}
use Rattle.records.specs.Record.{record_answer}
use Rattle.records.specs.declared.Turn.{Turn}
use Rattle.records.proofs.HeadLaws.{turn-cases}
use Rattle.report.specs.Text.{heading, cut_line, line_of, count_line}
use Rattle.report.specs.Report.{Printed, lines_from, Counted, report_on, report_of, ending, going, printed_for, printed, step_of}
use Rattle.report.specs.declared.Step.{Step}

-- ---- the count line always ends the report

-- after a tail
ended : (n : ℕ) (tail : List ℕ) → (tail ≡ cut_line) ⊎ (tail ≡ []) → Counted n (tail ++ count_line n)
unfolding lines_from
ended n tail h =
    record { answers = []; tail = tail; cut-or-none = h; ends = ap (λ (k : ℕ). tail ++ count_line k) (sym (add-zero n)) }

-- a record more before what follows
behind : (n : ℕ) (a : Answer Content) {rest : List ℕ} → Counted (n + 1) rest → Counted n (line_of (n + 1) a ++ rest)
unfolding lines_from
behind n a c =
    let lines = lines_from (n + 1) c.answers in
    let k : n + 1 + length c.answers ≡ n + length (a ∷ c.answers) = omega arith in
    record {
      answers = a ∷ c.answers;
      tail = c.tail;
      cut-or-none = c.cut-or-none;
      ends =
          ap (λ (r : List ℕ). line_of (n + 1) a ++ r) (c.ends ∙ ap (λ (m : ℕ). lines ++ (c.tail ++ count_line m)) k)
          ∙ sym (append_assoc (line_of (n + 1) a) lines (c.tail ++ count_line (n + length (a ∷ c.answers))));
    }

counted-on : (most n : ℕ) (input : List ℕ) → length input < most → Counted n (report_on most n input)
unfolding report_on
counted-on zero n input h = absurd (omega arith)
counted-on (suc most) n input h =
    pick-cases (Counted n) (eqb (length input) 0) _ _ (λ t. ended n [] (inr refl))
    (λ f. pick-cases (Counted n) (ltb (length input) 4) _ _ (λ t. ended n cut_line (inl refl))
    (λ g. pick-cases (Counted n) (ltb 8192 (size_of input)) _ _ (λ t. behind n (refused 2 0) (ended (n + 1) [] (inr refl)))
    (λ i. pick-cases (Counted n) (ltb (length input - 4) (size_of input)) _ _ (λ t. ended n cut_line (inl refl))
    (λ j. behind n (record_answer (take (size_of input) (drop 4 input)))
    (counted-on most (n + 1) (drop (4 + size_of input) input)
    (omega (arith, ltb-false (length input) 4 g, length-drop (4 + size_of input) input)))))))

-- the report: the heading, and then so
pub count-ends : (input : List ℕ) → (text : List ℕ) × (report_of input ≡ heading ++ text) × Counted 0 text
unfolding report_of
count-ends input = (report_on (suc (length input)) 0 input, refl, counted-on (suc (length input)) 0 input (omega arith))

-- ---- what a caller goes on with

-- each step but the last counts a record
abbrev Counts : ℕ → Printed → Type 0
Counts n t = t.last ≡ false → t.records ≡ n + 1

no_more : (n m : ℕ) (text : List ℕ) → Counts n (ending m text)
unfolding ending
no_more n m text e = no-yes true e refl

one_more : (n : ℕ) (text : List ℕ) → Counts n (going (n + 1) text)
unfolding going
one_more n text e = refl

counts : (n : ℕ) (head body : List ℕ) → Counts n (printed n head body)
unfolding printed printed_for
counts n head body =
    turn-cases n head (length body) (λ (t : Turn). Counts n (printed_for t body)) (no_more n n []) (no_more n n cut_line)
    (no_more n (n + 1) (line_of (n + 1) (refused 2 0))) (one_more n (line_of (n + 1) (record_answer body)))

pub step_counts : (n : ℕ) (head body : List ℕ) {s : Step} → s ≡ step_of (printed n head body) → s.last ≡ false → s.records ≡ n + 1
unfolding step_of
step_counts n head body e f =
    ap (λ (s : Step). s.records) e ∙ counts n head body (sym (ap (λ (s : Step). s.last) e) ∙ f)
