-- How long the texts are at most, and what is written from a text's start on: the text, where it has room in the
-- buffer. Assumes nothing.
use mathlib.Core.Path.{◌≡◌, ap, ◌∙◌}
use mathlib.Core.List.{List, [], ◌∷◌}
use Prim.Native.Nat.{ℕ, zero, suc, ◌+◌, ◌/◌, ◌%◌, ◌≤◌}
use native.Mathlib.Omega.{arith}
use lib.Dec.{eqb}
use lib.ListN.{length, take, drop, length-append}
use lib.Seq.{length-take-le, drop_at}
use Rattle.bits.specs.Pick.{pick}
use Rattle.bits.proofs.Tests.{pick-cases}
use Rattle.answer.specs.Answer.{Answer, Answer.accepted, Answer.refused}
use Rattle.records.specs.declared.Content.{Content}
use Rattle.records.specs.declared.Content.TheVariants.{Aes3, Hd, Madi, Ctl}
use Rattle.report.specs.Text.{heading, aes3_ok, hd_ok, madi_ok, ctl_ok, refused_word, records_word, digits, decimal, single_text, pair_text, answer_text, line_of, count_line}
use Rattle.report.specs.Placed.{start_in, start_of, with_text}

-- ---- lengths

digits-most : (most n : ℕ) → length (digits most n) ≤ most
unfolding digits
digits-most zero n = omega arith
digits-most (suc most) n =
    let higher = pick-cases (λ (s : List ℕ). length s ≤ most) (eqb (n / 10) 0) [] (digits most (n / 10)) (λ t. omega arith) (λ f. digits-most most (n / 10)) in
    omega (arith, higher, length-append (pick (eqb (n / 10) 0) [] (digits most (n / 10))) ((48 + n % 10) ∷ []))

pub decimal-most : (n : ℕ) → length (decimal n) ≤ 20
unfolding decimal
decimal-most n = digits-most 20 n

pub single-most : (word : List ℕ) (a : ℕ) → length (single_text word a) ≤ length word + 21
unfolding single_text
single-most word a = simp length-append (omega (arith, decimal-most a))

pub pair-most : (word : List ℕ) (a b : ℕ) → length (pair_text word a b) ≤ length word + 42
unfolding pair_text
pair-most word a b = simp length-append (omega (arith, decimal-most a, decimal-most b))

answer-most : (a : Answer Content) → length (answer_text a) ≤ 51
unfolding answer_text
answer-most (accepted (Aes3 a b)) = omega (arith, pair-most aes3_ok a b)
answer-most (accepted (Hd group dbn)) = omega (arith, pair-most hd_ok group dbn)
answer-most (accepted (Madi active commands)) = omega (arith, pair-most madi_ok active commands)
answer-most (accepted (Ctl group)) = omega (arith, single-most ctl_ok group)
answer-most (refused number place) = omega (arith, pair-most refused_word number place)

pub line-most : (n : ℕ) (a : Answer Content) → length (line_of n a) ≤ 71
unfolding line_of
line-most n a = omega (arith, length-append (decimal n) (answer_text a), decimal-most n, answer-most a)

pub count_most : (n : ℕ) → length (count_line n) ≤ 29
unfolding count_line
count_most n = single-most records_word n

-- ---- what is written, and the buffer then

pub starts : (size : ℕ) (text : List ℕ) → start_in size text ≤ size
unfolding start_in
starts size text = omega arith

pub starts-in : (size : ℕ) (text : List ℕ) {from : ℕ} → from ≡ start_in size text → from ≤ size
starts-in size text e = omega (arith, e, starts size text)

module _ (text old : List ℕ) {size : ℕ} (e : length old ≡ size) (h : length text ≤ size) where
  place : start_in (length old) text ≡ start_in size text
  place = ap (λ (k : ℕ). start_in k text) e

  front : length (take (start_in (length old) text) old) ≡ start_in (length old) text
  front = length-take-le (start_in (length old) text) old (starts (length old) text)

  pub with_size : length (with_text text old) ≡ size
  unfolding with_text start_in
  with_size = simp (length-append, front) (omega arith)

  pub at-end : drop (start_in size text) (with_text text old) ≡ text
  unfolding with_text
  at-end = drop_at (take (start_in (length old) text) old) text (start_in size text) (front ∙ place)

module _ (old : List ℕ) (size : length old ≡ 128) where
  pub heading-written : drop (start_of heading) (with_text heading old) ≡ heading
  heading-written = at-end heading old size (omega arith)

  pub heading-size : {new : List ℕ} → new ≡ with_text heading old → length new ≡ 128
  heading-size e = ap length e ∙ with_size heading old size (omega arith)
