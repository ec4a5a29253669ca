-- What is printed of a record, case by case; a step from the text that was put. Assumes nothing.
use mathlib.Core.Path.{◌≡◌, sym, ap, ◌∙◌}
use mathlib.Core.Bool.{true, false}
use mathlib.Core.List.{List, ◌++◌}
use Prim.Native.Nat.{ℕ}
use lib.ListN.{length}
use Rattle.records.specs.Head.{turn_of}
use Rattle.records.specs.declared.Turn.{Turn}
use Rattle.report.specs.Text.{count_line}
use Rattle.report.specs.Placed.{start_of, with_text}
use Rattle.report.specs.Report.{Printed, ending, going, printed_for, printed, step_of}
use Rattle.report.specs.declared.Step.{Step}

-- what is printed is what the turn comes to
pub printed-by : (n : ℕ) (head body : List ℕ) {t : Turn} → turn_of n head (length body) ≡ t → printed n head body ≡ printed_for t body
unfolding printed
printed-by n head body e = ap (λ (t : Turn). printed_for t body) e

-- ---- a step from the text that was put

-- the step and the buffer that print t
abbrev pub Prints : Printed → List ℕ → Step → List ℕ → Type 0
Prints t old s new = (s ≡ step_of t) × (new ≡ with_text t.text old)

prints-as : (old : List ℕ) {t u : Printed} {new : List ℕ} {s : Step} → t ≡ u → Prints t old s new → Prints u old s new
prints-as old e p = (p.0 ∙ ap step_of e, p.1 ∙ ap (λ (t : Printed). with_text t.text old) e)

-- the same of a turn that the code took, and whose variant is known
pub prints-turn : (n : ℕ) (head body old : List ℕ) {t u : Turn} {new : List ℕ} {s : Step} → t ≡ turn_of n head (length body) → t ≡ u
    → Prints (printed_for u body) old s new → Prints (printed n head body) old s new
prints-turn n head body old e k p = prints-as old (sym (printed-by n head body (sym e ∙ k))) p

module _ (n : ℕ) (text old : List ℕ) {from : ℕ} {new : List ℕ} where
  pub ends : (from ≡ start_of (text ++ count_line n)) × (new ≡ with_text (text ++ count_line n) old)
      → Prints (ending n text) old (record { from = from; records = n; last = true }) new
  unfolding ending step_of
  ends p = (ap (λ (k : ℕ). record { from = k; records = n; last = true }) p.0, p.1)

  pub goes : (from ≡ start_of text) × (new ≡ with_text text old) → Prints (going n text) old (record { from = from; records = n; last = false }) new
  unfolding going step_of
  goes p = (ap (λ (k : ℕ). record { from = k; records = n; last = false }) p.0, p.1)
