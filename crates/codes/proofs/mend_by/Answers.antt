-- `codes::mend_by` meets its contract: before lane i the lanes are mended, and none of them is refused.
use mathlib.Core.Path.{◌≡◌, refl, sym, ap, ◌∙◌, subst}
use mathlib.Core.Logic.{⊎_elim}
use mathlib.Core.Bool.{false}
use mathlib.Core.List.{List}
use Prim.Native.Nat.{ℕ, ◌+◌, ◌^◌, ◌≤◌, ◌<◌}
use native.Mathlib.Omega.{arith}
use lib.ListN.{get_or, set}
use lib.Bits.{bit_xor}
use Rattle.bits.specs.Row.{Below}
use Rattle.bits.proofs.Tests.{order}
use Rattle.bits.proofs.Windows.{one_shl}
use Rattle.bits.proofs.Beside.{same_or_not}
use Rattle.bits.proofs.Lists.{get_or-listed}
use Rattle.std.specs.Prelude.{Option, Some, None}
use Rattle.std.proofs.lemmas.Result.{err_from_is_err_and}
use Rattle.answer.specs.declared.Refusal.TheVariants.{Lane}
use Rattle.answer.specs.Answer.{Answer.accepted, Answer.refused}
use Rattle.codes.specs.Lane.{repaired}
use Rattle.codes.specs.Lanes.{lane_of, hopeless_at, mended_octets, lanes_apart}
use Rattle.codes.specs.Inner.{syndrome, place_for, mended_to, mend_answer}
use Rattle.codes.proofs.Exits.{nothing_there, refused_so}
use Rattle.codes.proofs.LaneLaws.{place_below}
use Rattle.codes.proofs.Syndrome.{syndrome-lt}
use Rattle.codes.proofs.CheckLaws.{lane-lacks, lane-lt}
use Rattle.codes.proofs.MendLaws.{none-lacking, one-lacking, too-much-lacking, apart-le, none-mended, next-none, next_one, count_none, count-one, Passed, whole, halted, after}
use Rattle.codes.proofs.RepairedLanes.{lane-refused, lane-given}
use Rattle.codes.proofs.mend_by.Goals as goal
use Rattle.codes.proofs.mend_by.Goals.{After-gather-lack, After-ok_or, then-lack-ne0+in_ok-place, else-lack-ne0}

-- ---- over plain variables
sooner : (j i : ℕ) → j < i + 1 → (i ≡ j → ⊥) → j < i
sooner j i l n = ⊎_elim (λ (q : i ≤ j). absurd (n (omega arith))) (λ (q : j < i). q) (order i j)

-- ---- lane i, which lacks g

module _ (c : After-gather-lack) where
  abbrev os : List ℕ
  os = c.args.octets.now

  abbrev i : ℕ
  i = c.loop-i.i

  abbrev lane : ℕ
  lane = lane_of i os

  abbrev g : ℕ
  g = c.gather-lack.result

  abbrev entry : Option ℕ
  entry = get_or c.places-table.result.now g None

  bounded : Below (2 ^ 8) os
  bounded j = c.fits-octets j

  lacks-g : g ≡ syndrome lane
  lacks-g = c.gather-lack.ensures ∙ ap (lane_of i) c.requires ∙ lane-lacks os c.told-octets i c.loop-i-test.true

  small : g < 64
  small = rw lacks-g (syndrome-lt lane (lane-lt os c.told-octets i))

  entry-place : entry ≡ place_for (syndrome lane)
  entry-place =
      ap (λ (t : List (Option ℕ)). get_or t g None) c.places-table.ensures ∙ get_or-listed 64 place_for g None small ∙ ap place_for lacks-g

  hopeless : (g ≡ 0 → ⊥) → entry ≡ None → refused 15 i ≡ mend_answer os
  hopeless n f =
      halted os c.told-octets i c.loop-i-test.true c.loop-i.invariant.none-refused
      (lane-refused os i 15 0 (too-much-lacking lane (lane-lt os c.told-octets i) (λ e. n (lacks-g ∙ e)) (sym entry-place ∙ f)))

  none : g ≡ 0 → repaired lane ≡ accepted lane
  none e = none-lacking lane (lane-lt os c.told-octets i) (sym lacks-g ∙ e)

  going_on : (y : ℕ) → repaired lane ≡ accepted y → Passed os (i + 1)
  going_on y r j m =
      ⊎_elim (λ (q : i ≡ j). subst (λ (t : ℕ). hopeless_at os t ≡ false) q (lane-given os i y r).0)
      (λ (q : i ≡ j → ⊥). c.loop-i.invariant.none-refused j (sooner j i m q)) (same_or_not i j)

  -- what holds of the octets and the count after it
  abbrev Done : List ℕ → ℕ → Type 0
  Done octets n = (octets ≡ mended_to (i + 1) os) × (n ≡ lanes_apart (i + 1) (mended_octets os) os) × Passed os (i + 1)

  passed : g ≡ 0 → (octets : List ℕ) (n : ℕ) → octets ≡ c.loop-i.octets → n ≡ c.loop-i.n → Done octets n
  passed z octets n eo en =
      let r = none z in
      let m = (lane-given os i lane r).1 in (
        eo ∙ c.loop-i.invariant.octets-mended ∙ next-none os c.told-octets bounded i c.loop-i-test.true m,
        en ∙ c.loop-i.invariant.counted ∙ sym (count_none os c.told-octets bounded i c.loop-i-test.true m),
        going_on lane r,
      )

  -- there is a place for it
  module _ (k : ℕ) (f : entry ≡ Some k) where
    in-range : k < 30
    in-range = place_below (syndrome lane) k (sym entry-place ∙ f)

    one : (g ≡ 0 → ⊥) → repaired lane ≡ accepted (bit_xor lane (2 ^ k))
    one n = one-lacking lane (lane-lt os c.told-octets i) (λ e. n (lacks-g ∙ e)) k (sym entry-place ∙ f)

    changed : (g ≡ 0 → ⊥) → (octets : List ℕ) (n : ℕ)
        → octets ≡ set c.loop-i.octets k (bit_xor (get_or c.loop-i.octets k 0) (2 ^ i)) → n ≡ c.loop-i.n + 1 → Done octets n
    changed z octets n eo en =
        let r = one z in
        let m = (lane-given os i (bit_xor lane (2 ^ k)) r).1 in (
          eo ∙ ap (λ (xs : List ℕ). set xs k (bit_xor (get_or xs k 0) (2 ^ i))) c.loop-i.invariant.octets-mended
              ∙ next_one os c.told-octets bounded i c.loop-i-test.true k in-range m,
          en ∙ ap (λ (x : ℕ). x + 1) c.loop-i.invariant.counted ∙ sym (count-one os c.told-octets bounded i c.loop-i-test.true k m),
          going_on (bit_xor lane (2 ^ k)) r,
        )

pub loop-i-init : goal.loop-i-init
unfolding lanes_apart
loop-i-init c = record {
  octets-mended = none-mended c.args.octets.now c.told-octets c.fits-octets;
  counted = refl;
  none-refused = λ (j : ℕ) (l : j < 0). absurd (omega arith);
}

pub bounds-table-lack : goal.bounds-table-lack
bounds-table-lack c = small (goal.at.bounds-table-lack c).After-gather-lack

pub bounds-octets-k : goal.bounds-octets-k
bounds-octets-k c =
    let p = (goal.at.bounds-octets-k c).After-gather-lack in
    omega (arith, c.from-k.ensures, in-range p c.in_ok-place.place c.in_ok-place.ensures.ok_part)

pub bounds-octets-k-then-lack-ne0 : goal.bounds-octets-k-then-lack-ne0
bounds-octets-k-then-lack-ne0 c =
    let p = (goal.at.bounds-octets-k-then-lack-ne0 c).After-gather-lack in
    omega (arith, c.from-k.ensures, in-range p c.in_ok-place.place c.in_ok-place.ensures.ok_part)

pub overflow_add-n : goal.overflow_add-n
overflow_add-n c = omega (arith, c.loop-i.invariant.counted, apart-le c.loop-i.i (mended_octets c.args.octets.now) c.args.octets.now)

pub loop-i-preserved : goal.loop-i-preserved
loop-i-preserved c =
    let p = (goal.at.loop-i-preserved c).After-gather-lack in
    let d : Done p c.if-lack-ne0.octets c.if-lack-ne0.n =
    elim c.if-lack-ne0.branch [
      | then-lack-ne0+in_ok-place w ↦
          changed p w.in_ok-place.place w.in_ok-place.ensures.ok_part w.if-lack-ne0.true c.if-lack-ne0.octets c.if-lack-ne0.n
          (w.octets-is
          ∙ ap (λ (b : ℕ). set p.loop-i.octets w.from-k.result (bit_xor (get_or p.loop-i.octets w.from-k.result 0) b)) (one_shl 8 (i p) p.loop-i-test.true)
          ∙ ap (λ (k : ℕ). set p.loop-i.octets k (bit_xor (get_or p.loop-i.octets k 0) (2 ^ i p))) w.from-k.ensures) w.n-is
      | else-lack-ne0 w ↦ passed p w.if-lack-ne0.false c.if-lack-ne0.octets c.if-lack-ne0.n w.octets-is w.n-is
    ] in
    record { octets-mended = d.0; counted = d.1; none-refused = d.2 }

pub returns-in_err-place : goal.returns-in_err-place
returns-in_err-place c =
    let p = err_from_is_err_and c.from_residual.result c.from_residual.ensures.1 in
    let q = (goal.at.returns-in_err-place c).After-gather-lack in
    let r = nothing_there (entry q) (Lane (i q)) _ c.in_err-place.ensures.value in
    let a : refused 15 (i q) ≡ mend_answer (os q) = hopeless q c.if-lack-ne0.true r in
    record {
      result_value = rw (p.1, p.2, refused_so (entry q) (Lane (i q)) _ c.in_err-place.ensures.value) a;
      octets_after = c.loop-i.invariant.octets-mended ∙ after (os q) c.told-octets (refused 15 (i q)) a;
    }

pub returns : goal.returns
returns c =
    let os : List ℕ = c.args.octets.now in
    let v = c.loop-i in
    let e : v.i ≡ 8 = omega arith in
    let a : accepted v.n ≡ mend_answer os =
    ap accepted (v.invariant.counted ∙ ap (λ (k : ℕ). lanes_apart k (mended_octets os) os) e)
    ∙ whole os c.told-octets (λ j l. v.invariant.none-refused j (omega arith)) in
    record {
      result_value = a;
      octets_after = v.invariant.octets-mended ∙ ap (λ (k : ℕ). mended_to k os) e ∙ after os c.told-octets (accepted v.n) a;
    }
