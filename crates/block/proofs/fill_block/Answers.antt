-- `block::fill_block` meets its contract, by the tests on the lengths. Assumes nothing.
use mathlib.Core.Path.{◌≡◌, refl, sym, ap, ◌∙◌}
use mathlib.Core.List.{List}
use Prim.Native.Nat.{ℕ}
use borrow.Author.Tests.{eq-eqb, ne_eqb}
use lib.IntN.{ℤ}
use lib.ListN.{length}
use Rattle.answer.specs.Answer.{Answer.accepted, Answer.refused, verdict, after}
use Rattle.answer.specs.Demand.{Stops}
use Rattle.answer.specs.Demand.Stops.{fails, later}
use Rattle.answer.proofs.Chains.{stopped}
use Rattle.block.specs.Block.{samples_of, side_of, fill_demands, block_filled}
use Rattle.block.proofs.BlockLaws.{filling}
use Rattle.block.proofs.fill_block.Goals.{then-samples-ne-SUBFRAMES-via-then-samples-ne-SUBFRAMES, then-samples-ne-SUBFRAMES-via-else-samples-ne-SUBFRAMES+then-side-ne-SIDE}
use Rattle.block.proofs.fill_block.Goals as goal

-- a length that is not as stated
refuses : (bodies : List ℕ) (samples : List ℤ) (side : List ℕ) → Stops (fill_demands bodies (length samples) (length side)) 1 0
    → (refused 1 0 ≡ verdict (block_filled bodies (length samples) (length side)))
    × ((samples ≡ after samples_of (block_filled bodies (length samples) (length side)) samples)
    × (side ≡ after side_of (block_filled bodies (length samples) (length side)) side))
unfolding block_filled
refuses bodies samples side s = rw (stopped (accepted bodies) s) (refl, (refl, refl))

pub returns-in_default : goal.returns-in_default
returns-in_default c =
    let both = refuses _ _ _ (fails (ne_eqb _ 384 c.in_default.ensures.cases)) in
    record { result_value = both.0; samples_after = both.1.0; side_after = both.1.1 }

pub returns-then-samples-ne-SUBFRAMES : goal.returns-then-samples-ne-SUBFRAMES
returns-then-samples-ne-SUBFRAMES c =
    let bodies = eq-eqb _ 384 c.in-Some.ensures.cases.long in
    let s : Stops (fill_demands c.args.bodies.now (length c.args.samples.now) (length c.args.side.now)) 1 0 = elim c.then-samples-ne-SUBFRAMES.branch [
      | then-samples-ne-SUBFRAMES-via-then-samples-ne-SUBFRAMES w ↦ later bodies (fails (ne_eqb _ 384 w.if-samples-ne-SUBFRAMES.true))
      | then-samples-ne-SUBFRAMES-via-else-samples-ne-SUBFRAMES+then-side-ne-SIDE w ↦
          later bodies (later (eq-eqb _ 384 w.if-samples-ne-SUBFRAMES.false) (fails (ne_eqb _ _ w.if-side-ne-SIDE.true)))
    ] in
    let both = refuses c.args.bodies.now c.args.samples.now c.args.side.now s in
    record { result_value = both.0; samples_after = both.1.0; side_after = both.1.1 }

pub returns : goal.returns
returns c =
    let a = c.args in
    let same : c.in-Some.bodies.now ≡ a.bodies.now = c.in-Some.ensures.cases.same in
    let f = filling a.bodies.now a.samples.now a.side.now c.in-Some.ensures.cases.long c.if-samples-ne-SUBFRAMES.false c.if-side-ne-SIDE.false in
    record {
      result_value = rw f.0 refl;
      samples_after = c.fill_samples.ensures ∙ ap samples_of same ∙ sym f.1;
      side_after = c.fill_side.ensures ∙ ap side_of same ∙ sym f.2;
    }
