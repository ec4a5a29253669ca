-- `codes::mend` meets its contract: nothing is lacking, or by what is. Assumes nothing.
use mathlib.Core.Path.{◌≡◌, sym, ap, ◌∙◌}
use mathlib.Core.Logic.{◌≢◌}
use mathlib.Core.List.{List}
use Prim.Native.Nat.{ℕ, ◌^◌}
use native.Mathlib.Omega.{arith}
use borrow.Author.Tests.{ne_eqb}
use lib.ListN.{length}
use lib.Pointwise.{bytes_decides}
use Rattle.std.specs.Array.{IsWholeChunk}
use Rattle.std.proofs.lemmas.Option.{MatchOption-at_some, MatchOption-at_none}
use Rattle.std.proofs.lemmas.Result.{err_from_is_err_and}
use Rattle.bits.specs.Row.{Below}
use Rattle.answer.specs.declared.Refusal.TheVariants.{Length}
use Rattle.answer.specs.Answer.{Answer.accepted}
use Rattle.answer.specs.Demand.Stops.{fails}
use Rattle.answer.proofs.Chains.{stopped}
use Rattle.codes.specs.Inner.{lack_octets, mend_answer, octets_after}
use Rattle.codes.proofs.Exits.{nothing_there, refused_so}
use Rattle.codes.proofs.CheckLaws.{zeros, clean-lacks}
use Rattle.codes.proofs.MendLaws.{clean-hope, clean-octets, clean-count, all_done, whole, after}
use Rattle.codes.proofs.mend.Goals as goal
use Rattle.codes.proofs.mend.Goals.{In_ok-octets}

-- the octets are the 30 of the slice
chunk : (c : In_ok-octets) → IsWholeChunk c.args.octets.now c.in_ok-octets.octets.now 30
chunk c =
    MatchOption-at_some (length c.args.octets.now ≢ 30) (λ y. IsWholeChunk c.args.octets.now y.now 30) c.in_ok-octets.octets
    c.in_ok-octets.ensures.ok_part c.as_mut_array.ensures.cases

-- where nothing is lacking
module _ (os : List ℕ) (h : length os ≡ 30) (b : Below (2 ^ 8) os) (none : lack_octets os ≡ zeros) where
  answered : accepted 0 ≡ mend_answer os
  answered = sym (ap accepted (clean-count os h b (clean-lacks os h none))) ∙ whole os h (λ j l. clean-hope os h b (clean-lacks os h none) j l)

  left : os ≡ octets_after os
  left = sym (all_done os h b ∙ clean-octets os h b (clean-lacks os h none)) ∙ after os h (accepted 0) answered

pub returns-in_err-octets : goal.returns-in_err-octets
unfolding mend_answer octets_after
returns-in_err-octets c =
    let p = err_from_is_err_and c.from_residual.result c.from_residual.ensures.1 in
    let q = nothing_there c.as_mut_array.result Length _ c.in_err-octets.ensures.value in
    let n = MatchOption-at_none (length c.args.octets.now ≢ 30) (λ y. IsWholeChunk c.args.octets.now y.now 30) q c.as_mut_array.ensures.cases in
    let e = ne_eqb _ 30 n in
    record {
      result_value = rw (p.1, p.2, refused_so c.as_mut_array.result Length _ c.in_err-octets.ensures.value) (sym (stopped _ (fails e)));
      octets_after = simp e;
    }

pub returns-then-eq : goal.returns-then-eq
returns-then-eq c =
    let k = chunk (goal.at.returns-then-eq c).In_ok-octets in
    let os : List ℕ = c.in_ok-octets.octets.now in
    let h : length os ≡ 30 = ap length k.same ∙ k.long in
    let b : Below (2 ^ 8) os = λ i. omega (arith, c.type_inv.octets i) in
    let none : lack_octets os ≡ zeros = sym c.lacks-lacks.ensures ∙ (bytes_decides c.lacks-lacks.result zeros).0 (sym c.if-eq.ensures) in
    record {
      result_value = answered os h b none ∙ ap mend_answer k.same;
      octets_after = left os h b none ∙ ap octets_after k.same;
    }

pub returns : goal.returns
returns c =
    let k = chunk (goal.at.returns c).In_ok-octets in
    record {
      result_value = c.mend_by.ensures.result_value ∙ ap mend_answer k.same;
      octets_after = c.mend_by.ensures.octets_after ∙ ap octets_after k.same;
    }
