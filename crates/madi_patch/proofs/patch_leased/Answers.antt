-- `madi_patch::patch_leased` meets its contract: the demands in their order, and then the patch by two tables that are
-- one. Assumes nothing.
use mathlib.Core.Path.{◌≡◌, refl, sym, ap, ◌∙◌}
use mathlib.Core.List.{[], ◌∷◌}
use Prim.Native.Nat.{ℕ}
use native.Mathlib.Omega.{arith}
use borrow.Author.Tests.{eq-eqb, ne_eqb}
use lib.ListN.{length}
use lib.Seq.{length-take-le}
use Rattle.std.specs.Prelude.{Ok}
use Rattle.std.proofs.lemmas.Result.{err_from_is_err_and}
use Rattle.answer.specs.Answer.{Answer.refused, verdict}
use Rattle.answer.specs.Demand.{Demand, Stops, AllMet, ◌&◌}
use Rattle.answer.specs.Demand.Stops.{fails}
use Rattle.answer.specs.Said.{number_of, place_of, said}
use Rattle.answer.proofs.Chains.{met, stops, passing, stopped, further, extended}
use Rattle.madi_code.proofs.FrameLaws.{counted-le}
use Rattle.madi_patch.specs.Inner.{count_demands}
use Rattle.madi_patch.specs.Patch.{patch_answer}
use Rattle.madi_patch.specs.Leased.{leased_panel, leased_demands, leased_answer, leased_frame, leased_verdicts}
use Rattle.madi_patch.proofs.patch_leased.Goals as goal
use Rattle.madi_patch.proofs.patch_leased.Goals.{After-check_counts, Start}

-- a way out by a demand that is not met
refuses : (s : Start) {number place : ℕ} → Stops (leased_demands s.args.channels s.args.active s.args.leases.now) number place
    → (refused number place ≡ verdict (leased_answer s.args.channels s.args.active s.args.leases.now s.args.rows.now s.args.frame.now
    (length s.args.out.now) (length s.args.verdicts.now)))
    × ((s.args.out.now ≡ leased_frame s.args.channels s.args.active s.args.leases.now s.args.rows.now s.args.frame.now
    s.args.out.now s.args.verdicts.now)
    × (s.args.verdicts.now ≡ leased_verdicts s.args.channels s.args.active s.args.leases.now s.args.rows.now s.args.frame.now
    s.args.out.now s.args.verdicts.now))
unfolding leased_answer
refuses s stop =
    rw (stopped (patch_answer s.args.channels (leased_panel s.args.channels s.args.active s.args.leases.now s.args.rows.now s.args.frame.now)
    (length s.args.out.now) (length s.args.verdicts.now)) stop) (refl, (refl, refl))

-- what holds where the counts are right
counts : (c : After-check_counts) → c.check_counts.result ≡ Ok tt → AllMet (count_demands c.args.channels c.args.active)
counts c e = (met tt (count_demands c.args.channels c.args.active) (sym c.check_counts.ensures ∙ ap said e)).0

pub returns-in_err-check_counts : goal.returns-in_err-check_counts
returns-in_err-check_counts c =
    let a = c.args in
    let r = c.in_err-check_counts.field-0.0 in
    let stop = stops tt (count_demands a.channels a.active) (number_of r) (place_of r) (sym c.check_counts.ensures ∙ ap said c.in_err-check_counts.was) in
    let both = refuses (goal.at.returns-in_err-check_counts c).Start (extended stop (Demand.asks 1 0 _ ∷ [])) in
    let p = err_from_is_err_and c.from_residual.result c.from_residual.ensures.1 in
    rw (p.1, p.2) (record { result_value = both.0; out_after = both.1.0; verdicts_after = both.1.1 })

pub returns-then-leases-ne64 : goal.returns-then-leases-ne64
returns-then-leases-ne64 c =
    let a = c.args in
    let m = counts (goal.at.returns-then-leases-ne64 c).After-check_counts c.in_ok-check_counts.was in
    let both = refuses (goal.at.returns-then-leases-ne64 c).Start (further (count_demands a.channels a.active) m (fails (ne_eqb _ _ c.if-leases-ne64.true))) in
    record { result_value = both.0; out_after = both.1.0; verdicts_after = both.1.1 }

pub slice_bounds-owners-end : goal.slice_bounds-owners-end
slice_bounds-owners-end c =
    let a = c.args in
    let m = counts (goal.at.slice_bounds-owners-end c).After-check_counts c.in_ok-check_counts.was in
    sym (length-take-le a.channels a.leases.now (omega (arith, c.if-leases-ne64.false, counted-le a.channels m.0)))

pub returns : goal.returns
unfolding leased_answer
returns c =
    let a = c.args in
    let m = counts (goal.at.returns c).After-check_counts c.in_ok-check_counts.was in
    let all : AllMet (leased_demands a.channels a.active a.leases.now) = m.0 & m.1.0 & m.1.1.0 & eq-eqb _ _ c.if-leases-ne64.false & tt in
    rw (passing (patch_answer a.channels (leased_panel a.channels a.active a.leases.now a.rows.now a.frame.now) (length a.out.now) (length a.verdicts.now))
    (leased_demands a.channels a.active a.leases.now) all) c.patch.ensures
