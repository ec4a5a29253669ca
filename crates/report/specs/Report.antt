-- The report of a whole input: records one after the other, each four octets of length, the highest first, and then
-- as many octets. Beside it what is printed of one record from the octets that there were of it. Assumes nothing.
use Rattle.std.specs.Prelude.{ℕ, zero, suc, ◌+◌, ◌-◌, Bool, true, false, ◌≡◌, ◌⊎◌, List, [], ◌∷◌, ◌++◌, eqb, ltb, length, take, drop}
use Rattle.bits.specs.Pick.{pick}
use Rattle.answer.specs.Answer.{Answer, Answer.refused}
use Rattle.records.specs.Head.{longest, size_of, turn_of}
use Rattle.records.specs.declared.Content.{Content}
use Rattle.records.specs.Record.{record_answer}
use Rattle.records.specs.declared.Turn.{Turn}
use Rattle.records.specs.declared.Turn.TheVariants.{End, Cut, Long, Record}
use Rattle.report.specs.Text.{heading, cut_line, line_of, count_line}
use Rattle.report.specs.Placed.{start_of}
use Rattle.report.specs.declared.Step.{Step}

-- ---- the whole input

-- after n records: the end of the input; a header cut by the end; a length above 8,192, which is refused and counted,
-- and ends the reading; a body cut by the end; a record, whose number is n + 1, and what follows it. At most so many
-- records.
unfoldable pub report_on : ℕ → ℕ → List ℕ → List ℕ
report_on zero n input = []
report_on (suc most) n input =
    pick (eqb (length input) 0) (count_line n)
    (pick (ltb (length input) 4) (cut_line ++ count_line n)
    (pick (ltb longest (size_of input)) (line_of (n + 1) (refused 2 0) ++ count_line (n + 1))
    (pick (ltb (length input - 4) (size_of input)) (cut_line ++ count_line n)
    (line_of (n + 1) (record_answer (take (size_of input) (drop 4 input))) ++ report_on most (n + 1) (drop (4 + size_of input) input)))))

-- the whole report; each record takes four octets at least, so that there are fewer records than octets
unfoldable pub report_of : List ℕ → List ℕ
report_of input = heading ++ report_on (suc (length input)) 0 input

-- ---- what a report is made of

-- the lines of records that were answered so, the first of them record n + 1
unfoldable pub lines_from : ℕ → List (Answer Content) → List ℕ
lines_from n [] = []
lines_from n (a ∷ answers) = line_of (n + 1) a ++ lines_from (n + 1) answers

-- after n records: a line for each record that is counted, numbered in order; `cut` or nothing; and the count line, whose number is that
-- of all records counted
pub record Counted (n : ℕ) (text : List ℕ) : Type 0 where
  pub answers : List (Answer Content)
  pub tail : List ℕ
  pub cut-or-none : (tail ≡ cut_line) ⊎ (tail ≡ [])
  pub ends : text ≡ lines_from n answers ++ (tail ++ count_line (n + length answers))

-- ---- one record

-- what is printed of a record: a text, how many records are counted then, and whether the report ends
pub record Printed : Type 0 where
  pub text : List ℕ
  pub records : ℕ
  pub last : Bool

-- the count line always ends the report
unfoldable pub ending : ℕ → List ℕ → Printed
ending n text = record { text = text ++ count_line n; records = n; last = true }

unfoldable pub going : ℕ → List ℕ → Printed
going n text = record { text = text; records = n; last = false }

-- what a turn comes to
unfoldable pub printed_for : Turn → List ℕ → Printed
printed_for (End n) body = ending n []
printed_for (Cut n) body = ending n cut_line
printed_for (Long n) body = ending n (line_of n (refused 2 0))
printed_for (Record n) body = going n (line_of n (record_answer body))

-- after n records, from the octets that there were of a header and of the body after it
unfoldable pub printed : ℕ → List ℕ → List ℕ → Printed
printed n head body = printed_for (turn_of n head (length body)) body

-- the same as the code hands it over: its text stands at the end of a buffer of 128 octets
unfoldable pub step_of : Printed → Step
step_of p = record { from = start_of p.text; records = p.records; last = p.last }
