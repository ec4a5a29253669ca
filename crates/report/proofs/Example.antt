-- The example of document 01: eight octets, and the three lines that the report prints exactly. Assumes nothing.
use mathlib.Core.Path.{◌≡◌, refl}
use mathlib.Core.List.{List, [], ◌∷◌}
use Prim.Native.Nat.{ℕ}
use native.Mathlib.Omega.{arith}
use Rattle.records.proofs.HeadLaws.{size_is}
use Rattle.records.proofs.RecordLaws.{kind-is, packet-short}
use Rattle.report.specs.Text.{digits, decimal, single_text, pair_text, answer_text, line_of, count_line}
use Rattle.report.specs.Report.{report_on, report_of}

-- carrier report 1 / 1 refused 1 0 / records 1
abbrev pub three_lines : List ℕ
three_lines =
    99 ∷ 97 ∷ 114 ∷ 114 ∷ 105 ∷ 101 ∷ 114 ∷ 32 ∷ 114 ∷ 101 ∷ 112 ∷ 111 ∷ 114 ∷ 116 ∷ 32 ∷ 49 ∷ 10
    ∷ 49 ∷ 32 ∷ 114 ∷ 101 ∷ 102 ∷ 117 ∷ 115 ∷ 101 ∷ 100 ∷ 32 ∷ 49 ∷ 32 ∷ 48 ∷ 10
    ∷ 114 ∷ 101 ∷ 99 ∷ 111 ∷ 114 ∷ 100 ∷ 115 ∷ 32 ∷ 49 ∷ 10 ∷ []

pub example : report_of (0 ∷ 0 ∷ 0 ∷ 4 ∷ 1 ∷ 2 ∷ 0 ∷ 0 ∷ []) ≡ three_lines
unfolding report_of report_on line_of answer_text pair_text count_line single_text decimal digits
example =
    let body : List ℕ = 1 ∷ 2 ∷ 0 ∷ 0 ∷ [] in
    rw (size_is 0 0 0 4 body, packet-short body (kind-is body (omega arith) refl) (λ e. omega arith))
