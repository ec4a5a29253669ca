-- The report as a program that goes record by record writes it, and that it is the report of the whole input. Assumes
-- nothing.
use mathlib.Core.Path.{◌≡◌, refl, sym, ap, ◌∙◌}
use mathlib.Core.List.{List, [], ◌++◌, append-nil}
use Prim.Native.Nat.{ℕ, zero, suc, ◌+◌, ◌-◌, ◌^◌, ◌≤◌, ◌<◌, min}
use native.Mathlib.Omega.{arith}
use borrow.Author.Tests.{eqb-true, eqb-false, ltb-true, ltb-false}
use lib.Dec.{eqb, ltb}
use lib.ListN.{length, take, drop, length-take, length-drop}
use Rattle.bits.specs.Pick.{pick}
use Rattle.bits.proofs.Tests.{pick-cases}
use Rattle.answer.specs.Answer.{Answer.refused}
use Rattle.records.specs.Head.{size_of, body_size}
use Rattle.records.specs.Record.{record_answer}
use Rattle.records.proofs.HeadLaws.{read_all, size-front, turn-empty, turn-header, turn-long, turn-cut, turn-record}
use Rattle.report.specs.Text.{heading, cut_line, line_of, count_line}
use Rattle.report.specs.Report.{report_on, report_of, ending, going, printed_for, printed}
use Rattle.report.proofs.Steps.{printed-by}

-- ---- record by record

-- the octets of a header, and of what is read after it
abbrev pub record_head : List ℕ → List ℕ
record_head input = take 4 input

abbrev pub record_body : List ℕ → List ℕ
record_body input = take (body_size (record_head input)) (drop 4 input)

-- what is written by a program that reads a header and the octets after it, writes what is printed of them, and goes
-- on with what is left
unfoldable pub walk_on : ℕ → ℕ → List ℕ → List ℕ
walk_on zero n input = []
walk_on (suc most) n input =
    (printed n (record_head input) (record_body input)).text
    ++ pick (printed n (record_head input) (record_body input)).last []
    (walk_on most (printed n (record_head input) (record_body input)).records (drop (4 + body_size (record_head input)) input))

unfoldable pub walked : List ℕ → List ℕ
walked input = heading ++ walk_on (suc (length input)) 0 input

-- ---- it is the report

walk_none : (n : ℕ) (input : List ℕ) → walk_on 0 n input ≡ []
unfolding walk_on
walk_none n input = refl

module _ (most n : ℕ) (input : List ℕ) where
  walk_ends : (m : ℕ) (text : List ℕ) → printed n (record_head input) (record_body input) ≡ ending m text → walk_on (suc most) n input ≡ text ++ count_line m
  unfolding walk_on ending
  walk_ends m text e = rw e (append-nil (text ++ count_line m))

  walk-goes : (m k : ℕ) (text : List ℕ) → printed n (record_head input) (record_body input) ≡ going m text → body_size (record_head input) ≡ k
      → walk_on (suc most) n input ≡ text ++ walk_on most m (drop (4 + k) input)
  unfolding walk_on going
  walk-goes m k text e r = rw (e, r) refl

-- what is printed of the front of an input, where the count has room for the octets that are left
module _ (n : ℕ) (input : List ℕ) (room : n + length input < 2 ^ 64) where
  front : length (record_head input) ≡ min 4 (length input)
  front = length-take 4 input

  front-empty : length input ≡ 0 → printed n (record_head input) (record_body input) ≡ ending n []
  unfolding printed_for
  front-empty e = printed-by n (record_head input) (record_body input) (turn-empty n (record_head input) (length (record_body input)) (omega (arith, front)))

  module _ (some : length input ≡ 0 → ⊥) where
    full : n ≡ 2 ^ 64 - 1 → ⊥
    full e = some (omega arith)

    headed : length (record_head input) ≡ 0 → ⊥
    headed e = some (omega (arith, front))

    front_cut : length input < 4 → printed n (record_head input) (record_body input) ≡ ending n cut_line
    unfolding printed_for
    front_cut l = printed-by n (record_head input) (record_body input) (turn-header n (record_head input) (length (record_body input)) headed full (omega (arith, front)))

    module _ (header : 4 ≤ length input) where
      whole : 4 ≤ length (record_head input)
      whole = omega (arith, front)

      size : size_of input ≡ size_of (record_head input)
      size = sym (size-front input)

      front_long : 8192 < size_of input → printed n (record_head input) (record_body input) ≡ ending (n + 1) (line_of (n + 1) (refused 2 0))
      unfolding printed_for
      front_long l = printed-by n (record_head input) (record_body input) (turn-long n (record_head input) (length (record_body input)) headed full whole size l)

      module _ (most : size_of input ≤ 8192) where
        front_reads : body_size (record_head input) ≡ size_of input
        front_reads = read_all (record_head input) whole size most

        body_is : record_body input ≡ take (size_of input) (drop 4 input)
        body_is = ap (λ (k : ℕ). take k (drop 4 input)) front_reads

        body-length : length (record_body input) ≡ min (size_of input) (length input - 4)
        body-length = ap length body_is ∙ length-take (size_of input) (drop 4 input) ∙ ap (min (size_of input)) (length-drop 4 input)

        front-body-cut : length input - 4 < size_of input → printed n (record_head input) (record_body input) ≡ ending n cut_line
        unfolding printed_for
        front-body-cut l =
            printed-by n (record_head input) (record_body input)
            (turn-cut n (record_head input) (length (record_body input)) headed full whole size most (omega (arith, body-length)))

        front-record : size_of input ≤ length input - 4
            → printed n (record_head input) (record_body input) ≡ going (n + 1) (line_of (n + 1) (record_answer (take (size_of input) (drop 4 input))))
        unfolding printed_for
        front-record l =
            printed-by n (record_head input) (record_body input)
            (turn-record n (record_head input) (length (record_body input)) headed full whole size most (omega (arith, body-length)))
            ∙ ap (λ (body : List ℕ). going (n + 1) (line_of (n + 1) (record_answer body))) body_is

-- a step of the walk is one of the report
walk-on : (most n : ℕ) (input : List ℕ) → n + length input < 2 ^ 64 → walk_on most n input ≡ report_on most n input
unfolding report_on
walk-on zero n input h = walk_none n input
walk-on (suc most) n input h =
    let Is : List ℕ → Type 0 = λ r. walk_on (suc most) n input ≡ r in
    pick-cases Is (eqb (length input) 0) _ _ (λ t. walk_ends most n input n [] (front-empty n input h (eqb-true (length input) 0 t)))
    (λ f. let some = eqb-false (length input) 0 f in
    pick-cases Is (ltb (length input) 4) _ _ (λ t. walk_ends most n input n cut_line (front_cut n input h some (ltb-true (length input) 4 t)))
    (λ g. let header = ltb-false (length input) 4 g in
    pick-cases Is (ltb 8192 (size_of input)) _ _
    (λ t. walk_ends most n input (n + 1) (line_of (n + 1) (refused 2 0)) (front_long n input h some header (ltb-true 8192 (size_of input) t)))
    (λ i. let short = ltb-false 8192 (size_of input) i in
    pick-cases Is (ltb (length input - 4) (size_of input)) _ _
    (λ t. walk_ends most n input n cut_line (front-body-cut n input h some header short (ltb-true (length input - 4) (size_of input) t)))
    (λ j. let line = line_of (n + 1) (record_answer (take (size_of input) (drop 4 input))) in
    walk-goes most n input (n + 1) (size_of input) line
    (front-record n input h some header short (ltb-false (length input - 4) (size_of input) j)) (front_reads n input h some header short)
    ∙ ap (λ (r : List ℕ). line ++ r) (walk-on most (n + 1) (drop (4 + size_of input) input) (omega (arith, header, length-drop (4 + size_of input) input)))))))

pub walked-is : (input : List ℕ) → length input < 2 ^ 64 → walked input ≡ report_of input
unfolding walked report_of
walked-is input h = ap (λ (r : List ℕ). heading ++ r) (walk-on (suc (length input)) 0 input (omega arith))
