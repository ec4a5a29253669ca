-- `madi_patch::patch` meets its contract: the demands in their order, and then every output slot. Assumes nothing.
use mathlib.Core.Path.{◌≡◌, sym, ap, ◌∙◌}
use mathlib.Core.List.{[], ◌∷◌}
use Prim.Native.Nat.{ℕ}
use borrow.Author.Tests.{leb-true}
use lib.ListN.{length}
use Rattle.std.specs.Prelude.{Ok}
use Rattle.std.proofs.lemmas.Result.{err_from_is_err_and}
use Rattle.answer.specs.Answer.{Answer.refused, verdict}
use Rattle.answer.specs.Demand.{Demand, Stops, AllMet, ◌&◌}
use Rattle.answer.specs.Demand.Stops.{fails}
use Rattle.answer.specs.Said.{number_of, place_of, said}
use Rattle.answer.proofs.Chains.{met, stops, further, extended}
use Rattle.answer.proofs.Residues.{shows-refusal, shows-acceptance}
use Rattle.madi_patch.specs.Slot.{Panel, panel}
use Rattle.madi_patch.specs.Inner.{count_demands}
use Rattle.madi_patch.specs.Patch.{patched, frame_of, verdicts_of, patch_demands, patch_answer, frame_after, verdicts_after}
use Rattle.madi_patch.proofs.PatchLaws.{lengths, frame_made, verdicts-made, length-made-frame, length-verdicts}
use Rattle.madi_patch.proofs.patch.Goals as goal
use Rattle.madi_patch.proofs.patch.Goals.{After-check_counts, Start}

-- what was lent
abbrev lent : Start → Panel
lent s = panel s.args.active s.args.ins.now s.args.outs.now s.args.rows.now s.args.frame.now

-- a way out by a demand that is not met
refuses : (s : Start) {number place : ℕ}
    → Stops (patch_demands s.args.channels (lent s) (length s.args.out.now) (length s.args.verdicts.now)) number place
    → (refused number place ≡ verdict (patch_answer s.args.channels (lent s) (length s.args.out.now) (length s.args.verdicts.now)))
    × ((s.args.out.now ≡ frame_after s.args.channels (lent s) s.args.out.now s.args.verdicts.now)
    × (s.args.verdicts.now ≡ verdicts_after s.args.channels (lent s) s.args.out.now s.args.verdicts.now))
unfolding patch_answer
refuses s stop =
    let made = patched s.args.channels (lent s) in
    let f = shows-refusal {B = Unit {0}} (λ v. tt) frame_of made s.args.out.now stop in
    let g = shows-refusal {B = Unit {0}} (λ v. tt) verdicts_of made s.args.verdicts.now stop in
    (f.0, (f.1, g.1))

-- what holds where the counts are right
counts : (c : After-check_counts) → c.check_counts.result ≡ Ok tt → AllMet (count_demands c.args.channels c.args.active)
counts c e = (met tt (count_demands c.args.channels c.args.active) (sym c.check_counts.ensures ∙ ap said e)).0

pub returns-in_err-check_counts : goal.returns-in_err-check_counts
returns-in_err-check_counts c =
    let a = c.args in
    let r = c.in_err-check_counts.field-0.0 in
    let stop = stops tt (count_demands a.channels a.active) (number_of r) (place_of r) (sym c.check_counts.ensures ∙ ap said c.in_err-check_counts.was) in
    let both = refuses (goal.at.returns-in_err-check_counts c).Start (extended stop (Demand.asks 1 0 _ ∷ [])) in
    let p = err_from_is_err_and c.from_residual.result c.from_residual.ensures.1 in
    rw (p.1, p.2) (record { result_value = both.0; out_after = both.1.0; verdicts_after = both.1.1 })

pub returns-then-not-is_as_long : goal.returns-then-not-is_as_long
returns-then-not-is_as_long c =
    let a = c.args in
    let m = counts (goal.at.returns-then-not-is_as_long c).After-check_counts c.in_ok-check_counts.was in
    let both = refuses (goal.at.returns-then-not-is_as_long c).Start
    (further (count_demands a.channels a.active) m (fails (sym c.is_as_long.ensures ∙ c.if-not-is_as_long.true))) in
    record { result_value = both.0; out_after = both.1.0; verdicts_after = both.1.1 }

pub fill-requires : goal.fill-requires
fill-requires c =
    let s = (goal.at.fill-requires c).Start in
    let m = counts (goal.at.fill-requires c).After-check_counts c.in_ok-check_counts.was in
    lengths s.args.channels (lent s) (length s.args.out.now) (length s.args.verdicts.now) (leb-true s.args.active s.args.channels m.1.1.0)
    (sym c.is_as_long.ensures ∙ c.if-not-is_as_long.false)

pub returns : goal.returns
unfolding patch_answer
returns c =
    let s = (goal.at.returns c).Start in
    let m = counts (goal.at.returns c).After-check_counts c.in_ok-check_counts.was in
    let made = patched s.args.channels (lent s) in
    let l = sym c.is_as_long.ensures ∙ c.if-not-is_as_long.false in
    let long =
    lengths s.args.channels (lent s) (length s.args.out.now) (length s.args.verdicts.now) (leb-true s.args.active s.args.channels m.1.1.0) l in
    let ds = patch_demands s.args.channels (lent s) (length s.args.out.now) (length s.args.verdicts.now) in
    let all : AllMet ds = m.0 & m.1.0 & m.1.1.0 & l & tt in
    let a =
    shows-acceptance {B = Unit {0}} (λ v. tt) frame_of made s.args.out.now ds all
    (length-made-frame s.args.channels (lent s) ∙ sym long.of-out) (c.fill.ensures.out_after ∙ sym (frame_made s.args.channels (lent s))) in
    let b =
    shows-acceptance {B = Unit {0}} (λ v. tt) verdicts_of made s.args.verdicts.now ds all
    (length-verdicts s.args.channels (lent s) ∙ sym long.of-verdicts) (c.fill.ensures.verdicts_after ∙ sym (verdicts-made s.args.channels (lent s))) in
    record { result_value = a.0; out_after = a.1; verdicts_after = b.1 }
