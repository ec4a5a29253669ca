-- Where one way of joining three sheets is accepted, the other is, with the same result. Assumes nothing.
use mathlib.Core.Path.{◌≡◌, sym, ap, ◌∙◌}
use mathlib.Core.Bool.{true}
use mathlib.Core.List.{List}
use Prim.Native.Nat.{ℕ, ◌+◌, ◌≤◌, ◌<◌, ◌^◌}
use native.Mathlib.Omega.{arith}
use borrow.Author.Tests.{eq-eqb, leb-true, le-leb}
use lib.IntN.{ℤ, nat_abs}
use Rattle.answer.specs.Answer.{Answer.accepted}
use Rattle.answer.specs.Demand.{AllMet, ◌&◌}
use Rattle.answer.proofs.Chains.{met, passing}
use Rattle.levels.specs.Lines.{line_at, samples_on, sheet_sound, sheet_joined}
use Rattle.levels.specs.Calls.{has_room, join_demands, join_answer}
use Rattle.levels.proofs.Joining.{head-joined, joined-assoc}
use Rattle.levels.proofs.Kept.{joined-sound}
use Rattle.levels.proofs.Places.{length-joined}

accepts : (a b : List ℤ) → AllMet (join_demands a b) → join_answer a b ≡ accepted (sheet_joined a b)
unfolding join_answer
accepts a b m = passing (accepted (sheet_joined a b)) (join_demands a b) m

met_by : (a b v : List ℤ) → join_answer a b ≡ accepted v → AllMet (join_demands a b) × (sheet_joined a b ≡ v)
unfolding join_answer
met_by a b v e = met (sheet_joined a b) (join_demands a b) e

-- the samples of three, joined pairwise
module _ (a b c : List ℤ) (sa : sheet_sound a ≡ true) (sb : sheet_sound b ≡ true) (sc : sheet_sound c ≡ true) (k : ℕ) (h : k < 20) where
  first_two : samples_on (sheet_joined a b) k ≡ samples_on a k + samples_on b k
  first_two = head-joined a b sa sb k h

  last-two : samples_on (sheet_joined b c) k ≡ samples_on b k + samples_on c k
  last-two = head-joined b c sb sc k h

pub first-way-gives-second : (a b c ab v : List ℤ) → join_answer a b ≡ accepted ab → join_answer ab c ≡ accepted v
    → (join_answer b c ≡ accepted (sheet_joined b c)) × (join_answer a (sheet_joined b c) ≡ accepted v)
first-way-gives-second a b c ab v e f =
    let m = met_by a b ab e in
    let n = met_by (sheet_joined a b) c v (rw (← m.1) at f) in
    let la = m.0.0 in
    let lb = m.0.1.0 in
    let sa = m.0.1.1.0 in
    let sb = m.0.1.1.1.0 in
    let lc = n.0.1.0 in
    let sc = n.0.1.1.1.0 in
    let p = first_two a b c sa sb sc 0 (omega arith) in
    let q = first_two a b c sa sb sc 10 (omega arith) in
    let r = last-two a b c sa sb sc 0 (omega arith) in
    let s = last-two a b c sa sb sc 10 (omega arith) in
    let x : nat_abs (line_at (sheet_joined a b) 0) + nat_abs (line_at c 0) ≤ 2 ^ 32 = leb-true _ _ n.0.1.1.1.1.0 in
    let y : nat_abs (line_at (sheet_joined a b) 10) + nat_abs (line_at c 10) ≤ 2 ^ 32 = leb-true _ _ n.0.1.1.1.1.1.0 in
    let t : has_room b 0 (nat_abs (line_at c 0)) ≡ true = le-leb (nat_abs (line_at b 0) + nat_abs (line_at c 0)) (2 ^ 32) (omega (arith, p, x)) in
    let u : has_room b 10 (nat_abs (line_at c 10)) ≡ true
    = le-leb (nat_abs (line_at b 10) + nat_abs (line_at c 10)) (2 ^ 32) (omega (arith, q, y)) in
    let w : has_room a 0 (nat_abs (line_at (sheet_joined b c) 0)) ≡ true
    = le-leb (nat_abs (line_at a 0) + nat_abs (line_at (sheet_joined b c) 0)) (2 ^ 32) (omega (arith, p, r, x)) in
    let z : has_room a 10 (nat_abs (line_at (sheet_joined b c) 10)) ≡ true
    = le-leb (nat_abs (line_at a 10) + nat_abs (line_at (sheet_joined b c) 10)) (2 ^ 32) (omega (arith, q, s, y)) in (
      accepts b c (lb & lc & sb & sc & t & u & tt),
      accepts a (sheet_joined b c) (la & eq-eqb _ 20 (length-joined b c) & sa & joined-sound b c sb sc t u & w & z & tt)
          ∙ ap accepted (sym (joined-assoc a b c sa sb sc) ∙ n.1),
    )

pub second-way-gives-first : (a b c bc v : List ℤ) → join_answer b c ≡ accepted bc → join_answer a bc ≡ accepted v
    → (join_answer a b ≡ accepted (sheet_joined a b)) × (join_answer (sheet_joined a b) c ≡ accepted v)
second-way-gives-first a b c bc v e f =
    let m = met_by b c bc e in
    let n = met_by a (sheet_joined b c) v (rw (← m.1) at f) in
    let la = n.0.0 in
    let sa = n.0.1.1.0 in
    let lb = m.0.0 in
    let lc = m.0.1.0 in
    let sb = m.0.1.1.0 in
    let sc = m.0.1.1.1.0 in
    let p = first_two a b c sa sb sc 0 (omega arith) in
    let q = first_two a b c sa sb sc 10 (omega arith) in
    let r = last-two a b c sa sb sc 0 (omega arith) in
    let s = last-two a b c sa sb sc 10 (omega arith) in
    let x : nat_abs (line_at a 0) + nat_abs (line_at (sheet_joined b c) 0) ≤ 2 ^ 32 = leb-true _ _ n.0.1.1.1.1.0 in
    let y : nat_abs (line_at a 10) + nat_abs (line_at (sheet_joined b c) 10) ≤ 2 ^ 32 = leb-true _ _ n.0.1.1.1.1.1.0 in
    let t : has_room a 0 (nat_abs (line_at b 0)) ≡ true = le-leb (nat_abs (line_at a 0) + nat_abs (line_at b 0)) (2 ^ 32) (omega (arith, r, x)) in
    let u : has_room a 10 (nat_abs (line_at b 10)) ≡ true
    = le-leb (nat_abs (line_at a 10) + nat_abs (line_at b 10)) (2 ^ 32) (omega (arith, s, y)) in
    let w : has_room (sheet_joined a b) 0 (nat_abs (line_at c 0)) ≡ true
    = le-leb (nat_abs (line_at (sheet_joined a b) 0) + nat_abs (line_at c 0)) (2 ^ 32) (omega (arith, p, r, x)) in
    let z : has_room (sheet_joined a b) 10 (nat_abs (line_at c 10)) ≡ true
    = le-leb (nat_abs (line_at (sheet_joined a b) 10) + nat_abs (line_at c 10)) (2 ^ 32) (omega (arith, q, s, y)) in (
      accepts a b (la & lb & sa & sb & t & u & tt),
      accepts (sheet_joined a b) c (eq-eqb _ 20 (length-joined a b) & lc & joined-sound a b sa sb t u & sc & w & z & tt)
          ∙ ap accepted (joined-assoc a b c sa sb sc ∙ n.1),
    )
