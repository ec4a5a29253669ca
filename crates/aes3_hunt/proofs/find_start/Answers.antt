-- `aes3_hunt::find_start` meets its contract. Outer invariant: the answer is that of the candidates from p on, and the
-- count is the total of those before p. Inner: besides, none of p's first k symbols differs. A `continue` of the outer
-- loop steps p and the count inside the inner one, so the inner invariant says that p is still the outer p. Assumes
-- nothing.
use mathlib.Core.Path.{◌≡◌, sym, ap, ◌∙◌}
use mathlib.Core.Bool.{true}
use mathlib.Core.List.{List}
use Prim.Native.Nat.{ℕ, ◌+◌, ◌-◌, ◌*◌, ◌≤◌, ◌<◌}
use native.Mathlib.Omega.{arith}
use borrow.Author.Rules.{rules}
use borrow.Author.Count.{below_more}
use lib.ListN.{length}
use Rattle.bits.specs.Row.{Row}
use Rattle.bits.specs.Pack.{symbols}
use Rattle.bits.proofs.Firsts.{first-hit, first_next, first-miss}
use Rattle.answer.specs.Answer.{Answer.accepted, Answer.refused}
use Rattle.aes3_hunt.specs.Hunt.{fits, hunted, differs, total}
use Rattle.aes3_hunt.specs.Inner.{mismatches}
use Rattle.aes3_hunt.proofs.Symbols.{seen-differing, seen_same}
use Rattle.aes3_hunt.proofs.Cost.{NoneBefore, fits-same, misfit, cost-differs, cost-same}
use Rattle.aes3_hunt.proofs.Compared.{total-most}
use Rattle.aes3_hunt.proofs.Turns.{onwards, hunt-begins, hunt-long, hunt-found, hunt-ends, total-none, total-next}
use Rattle.aes3_hunt.proofs.find_start.Goals as goal
use Rattle.aes3_hunt.proofs.find_start.Goals.{At-loop-k}

module _ (c : At-loop-k) where
  abbrev line : List ℕ
  line = c.args.line.now

  abbrev p : ℕ
  p = c.next.p

  abbrev k : ℕ
  k = c.loop-k.k

  abbrev end : ℕ
  end = length line * 8 - 71

  abbrev r : Row
  r = symbols line

  -- what was compared is the candidate's
  compared-here : c.compare-differing.result ≡ mismatches r p
  compared-here = c.compare-differing.ensures ∙ ap (mismatches r) (sym c.loop-k.invariant.0)

  -- a symbol differs: on with the next candidate
  passed : differs r p k ≡ true → onwards line end (p + 1) ≡ hunted line
  passed d = sym (first_next (fits r) accepted (refused 17 0) end p (omega arith) (misfit r p k d)) ∙ c.loop-k.invariant.1

  passed-count : k < 16 → differs r p k ≡ true → c.loop-k.compared + (k + 1) ≡ total r (p + 1 - 1)
  passed-count h d =
      let place : p + 1 - 1 ≡ p = omega arith in
      let more : total r (p - 1) + (k + 1) ≡ total r p =
      total-next r p (k + 1) (omega arith) (sym (cost-differs r p k h c.loop-k.invariant.3 d)) in
      rw place (omega (arith, c.loop-k.invariant.2))

  -- none differed
  none-differed : 16 ≤ k → NoneBefore r p 16
  none-differed h j l = c.loop-k.invariant.3 j (omega arith)

  found : 16 ≤ k → accepted p ≡ hunted line
  found h = sym (first-hit (fits r) accepted (refused 17 0) end p (omega arith) (fits-same r p (none-differed h))) ∙ c.loop-k.invariant.1

  found-count : 16 ≤ k → c.loop-k.compared + 16 ≡ total r p
  found-count h =
      let more : total r (p - 1) + 16 ≡ total r p = total-next r p 16 (omega arith) (sym (cost-same r p (none-differed h))) in
      omega (arith, c.loop-k.invariant.2)

pub returns-then-line-gt8192 : goal.returns-then-line-gt8192
returns-then-line-gt8192 c = c.refused.ensures ∙ hunt-long c.args.line.now c.if-line-gt8192.true

pub returns-then-t-lt72 : goal.returns-then-t-lt72
returns-then-t-lt72 c =
    let s = c.args.line.now in
    let n : length s * 8 - 72 ≡ 0 = omega arith in
    c.refused-then-t-lt72.ensures
    ∙ hunt-ends s 0
    (sym (first-miss (fits (symbols s)) accepted (refused 17 0) (length s * 8 - 71) 1 (omega arith)) ∙ hunt-begins s c.if-line-gt8192.false)
    (rw n (sym (total-none (symbols s))))

pub next-init : goal.next-init
next-init c =
    let s = c.args.line.now in
    (hunt-begins s c.if-line-gt8192.false, sym (total-none (symbols s)))

pub loop-k-init : goal.loop-k-init
loop-k-init c =
    let n = c.next.invariant in
    (search rules, n.0, omega (arith, n.1), λ j l. absurd (omega arith))

pub overflow_add-compared-then-differing-k-eq1 : goal.overflow_add-compared-then-differing-k-eq1
overflow_add-compared-then-differing-k-eq1 c =
    let a = (goal.at.overflow_add-compared-then-differing-k-eq1 c).At-loop-k in
    omega (arith, a.loop-k.invariant.2, total-most (r a) (p a - 1))

pub next-preserved : goal.next-preserved
next-preserved c =
    let a = (goal.at.next-preserved c).At-loop-k in
    let d = seen-differing (r a) (p a) (k a) (omega arith) (compared-here a) c.if-differing-k-eq1.true in
    (passed a d, passed-count a (omega arith) d)

pub loop-k-preserved : goal.loop-k-preserved
loop-k-preserved c =
    let a = (goal.at.loop-k-preserved c).At-loop-k in
    let same = seen_same (r a) (p a) (k a) (omega arith) (compared-here a) c.if-differing-k-eq1.false in
    (search rules, a.loop-k.invariant.1, omega (arith, a.loop-k.invariant.2), below_more _ _ a.loop-k.invariant.3 same)

pub found-requires : goal.found-requires
found-requires c =
    let a = (goal.at.found-requires c).At-loop-k in
    (search rules, omega (arith, a.loop-k.invariant.2, total-most (r a) (p a - 1)))

pub returns-in-next : goal.returns-in-next
returns-in-next c =
    let a = (goal.at.returns-in-next c).At-loop-k in
    let all : 16 ≤ k a = c.loop-k-test.false in
    c.found.ensures ∙ hunt-found (line a) (p a) (a.loop-k.compared + 16) (found a all) (found-count a all)

pub returns : goal.returns
returns c =
    let n = c.next in
    let s = c.args.line.now in
    let last : n.p - 1 ≡ length s * 8 - 72 = omega arith in
    c.refused-2.ensures
    ∙ hunt-ends s n.compared
    (sym (first-miss (fits (symbols s)) accepted (refused 17 0) (length s * 8 - 71) n.p (omega arith)) ∙ n.invariant.0)
    (n.invariant.1 ∙ ap (total (symbols s)) last)
