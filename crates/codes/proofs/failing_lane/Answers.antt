-- `codes::failing_lane` meets its contract: what is left of the search is the whole search. Assumes nothing.
use mathlib.Core.Path.{◌≡◌, refl, sym, ap, ◌∙◌}
use mathlib.Core.Bool.{not}
use mathlib.Core.List.{List}
use Prim.Native.Nat.{ℕ, ◌<◌}
use native.Mathlib.Omega.{arith}
use borrow.Author.Tests.{eq-eqb, ne_eqb}
use lib.Dec.{eqb}
use lib.ListN.{length}
use lib.Pointwise.{bytes_decides}
use Rattle.std.specs.Prelude.{Some, None}
use Rattle.bits.proofs.Firsts.{first-hit, first_next, first-miss}
use Rattle.bits.proofs.Places.{first-none}
use Rattle.codes.specs.Lanes.{lane_of, failing}
use Rattle.codes.specs.Inner.{syndrome, lack_octets}
use Rattle.codes.proofs.CheckLaws.{zeros, lane-lacks, clean-lacks, failing-lacks}
use Rattle.codes.proofs.failing_lane.Goals as goal
use Rattle.codes.proofs.failing_lane.Goals.{After-gather}

-- the code's test of lane i
tested : (os : List ℕ) (g i : ℕ) (s : List ℕ) → length os ≡ 30 → i < 8 → s ≡ lack_octets os → g ≡ lane_of i s → failing os i ≡ not (eqb g 0)
tested os g i s h l e q =
    failing-lacks os h i ∙ ap (λ (x : ℕ). not (eqb x 0)) (sym (q ∙ ap (lane_of i) e ∙ lane-lacks os h i l))

pub returns-then-eq : goal.returns-then-eq
returns-then-eq c =
    let os : List ℕ = c.args.octets.now in
    let none : lack_octets os ≡ zeros = sym c.lacks-lacks.ensures ∙ (bytes_decides c.lacks-lacks.result zeros).0 (sym c.if-eq.ensures) in
    sym (first-none (failing os) (λ k. Some k) None 0 8
    (λ i l. failing-lacks os c.told-octets i
    ∙ ap not (eq-eqb (syndrome (lane_of i os)) 0 (clean-lacks os c.told-octets none i (omega arith)))))

module _ (c : After-gather) where
  test : failing c.args.octets.now c.loop-i.i ≡ not (eqb c.gather.result 0)
  test = tested c.args.octets.now c.gather.result c.loop-i.i c.lacks-lacks.result c.told-octets c.loop-i-test.true c.lacks-lacks.ensures c.gather.ensures

pub returns-then-gather-ne0 : goal.returns-then-gather-ne0
returns-then-gather-ne0 c =
    let os : List ℕ = c.args.octets.now in
    sym (first-hit (failing os) (λ k. Some k) None 8 c.loop-i.i c.loop-i-test.true
    (test (goal.at.returns-then-gather-ne0 c).After-gather ∙ ap not (ne_eqb c.gather.result 0 c.if-gather-ne0.true)))
    ∙ c.loop-i.invariant

pub loop-i-init : goal.loop-i-init
loop-i-init c = refl

pub loop-i-preserved : goal.loop-i-preserved
loop-i-preserved c =
    let os : List ℕ = c.args.octets.now in
    sym (first_next (failing os) (λ k. Some k) None 8 c.loop-i.i c.loop-i-test.true
    (test (goal.at.loop-i-preserved c).After-gather ∙ ap not (eq-eqb c.gather.result 0 c.if-gather-ne0.false)))
    ∙ c.loop-i.invariant

pub returns : goal.returns
returns c = sym (first-miss (failing c.args.octets.now) (λ k. Some k) None 8 c.loop-i.i c.loop-i-test.false) ∙ c.loop-i.invariant
