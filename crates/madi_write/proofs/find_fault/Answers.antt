-- `madi_write::find_fault` meets its contract: what was passed is right, and the first that is not is the place.
-- Assumes nothing.
use mathlib.Core.Path.{◌≡◌, sym, ap}
use mathlib.Core.Bool.{true, false, not}
use mathlib.Core.List.{List}
use Prim.Native.Nat.{ℕ, ◌%◌, ◌<◌}
use native.Mathlib.Omega.{arith}
use lib.Dec.{eqb}
use lib.ListN.{length}
use Rattle.std.proofs.Common.{Option, rules, tests}
use Rattle.std.specs.List.{AllWithin, HoldsAt}
use Rattle.std.specs.Option.{MatchOption}
use Rattle.std.proofs.lemmas.Iterator.{YieldsList-from_slice, IsFirst-from_position}
use Rattle.std.proofs.lemmas.Option.{MatchOption-at_some, MatchOption-at_none}
use Rattle.answer.specs.Answer.{Answer.accepted}
use Rattle.answer.specs.Demand.{◌&◌}
use Rattle.answer.specs.Demand.Stops.{found, later}
use Rattle.answer.proofs.Chains.{passing, stopped}
use Rattle.subframe.specs.Body.{even_body}
use Rattle.madi_write.specs.Writer.{channel_word_demands}
use Rattle.madi_write.proofs.find_fault.Goals as goal
use Rattle.madi_write.proofs.find_fault.Goals.{After-position, After-position-2}

-- what the searches say: the first word that breaks a rule, none before it, or none at all
abbrev First : (ℕ → Type 0) → (ℕ → Type 0) → List ℕ → Option ℕ → Type 0
First Yes No ws r = MatchOption r (AllWithin No ws 0 (length ws)) (λ i. (i < length ws) × HoldsAt Yes ws i × AllWithin No ws 0 i)

odd : (c : After-position) → First (λ w. even_body w ≡ false) (λ w. even_body w ≡ true) c.args.words.now c.position.result
odd c =
    IsFirst-from_position _ _ _ (λ w. even_body w ≡ false) (λ w. even_body w ≡ true) c.position.ensures.ran
    (YieldsList-from_slice c.args.words.now cc) (λ x q k. search (rules, tests)) (λ x q k. search (rules, tests))

marked : (c : After-position-2) → First (λ w. eqb (w % 4) 0 ≡ false) (λ w. eqb (w % 4) 0 ≡ true) c.args.words.now c.position-2.result
marked c =
    IsFirst-from_position _ _ _ (λ w. eqb (w % 4) 0 ≡ false) (λ w. eqb (w % 4) 0 ≡ true) c.position-2.ensures.ran
    (YieldsList-from_slice c.args.words.now cc) (λ x q k. search (rules, tests)) (λ x q k. search (rules, tests))

pub returns-in-Some : goal.returns-in-Some
returns-in-Some c =
    let f = MatchOption-at_some _ _ c.in-Some.i c.in-Some.is (odd (goal.at.returns-in-Some c).After-position) in
    sym (stopped (accepted tt) (found (omega arith) (omega (arith, f.0)) (ap not (f.1 0)) (λ j a b. ap not (f.2 j 0 a b))))

pub returns-in-Some-position : goal.returns-in-Some-position
returns-in-Some-position c =
    let e = MatchOption-at_none _ _ c.in_default.is (odd (goal.at.returns-in-Some-position c).After-position) in
    let f = MatchOption-at_some _ _ c.in-Some-position.i c.in-Some-position.is (marked (goal.at.returns-in-Some-position c).After-position-2) in
    sym (stopped (accepted tt) (later (λ j a b. ap not (e j 0 a (omega arith))) (found (omega arith) (omega (arith, f.0)) (ap not (f.1 0)) (λ j a b. ap not (f.2 j 0 a b)))))

pub returns : goal.returns
returns c =
    let e = MatchOption-at_none _ _ c.in_default.is (odd (goal.at.returns c).After-position) in
    let f = MatchOption-at_none _ _ c.in_default-position.is (marked (goal.at.returns c).After-position-2) in
    sym (passing (accepted tt) (channel_word_demands c.args.words.now) ((λ j a b. ap not (e j 0 a (omega arith))) & (λ j a b. ap not (f j 0 a (omega arith))) & tt))
