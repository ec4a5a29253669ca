-- `talkback::separate` meets its contract: each return says which demand stops, or that all are met. Assumes nothing.
use mathlib.Core.Path.{◌≡◌, refl, sym, ap, ◌∙◌, subst}
use mathlib.Core.Bool.{false}
use mathlib.Core.List.{List, [], ◌∷◌}
use Prim.Native.Nat.{ℕ, ◌+◌, ◌^◌, ◌≤◌, ◌<◌}
use native.Mathlib.Omega.{arith}
use borrow.Author.Tests.{eq-eqb, ne_eqb}
use lib.IntN.{ℤ}
use lib.ListN.{length}
use Rattle.std.proofs.lemmas.Result.{err_from_is_err_and}
use Rattle.answer.specs.Answer.{Answer.accepted, Answer.refused, verdict, after}
use Rattle.answer.specs.Demand.{Demand, Demand.finds_none, AllMet, Stops, ◌&◌}
use Rattle.answer.specs.Demand.Stops.{fails, later}
use Rattle.answer.proofs.Chains.{stopped, passing, extended, further, all_of}
use Rattle.answer.proofs.Residues.{whole}
use Rattle.block.specs.Side.{side_length}
use Rattle.block.specs.Check.{outside}
use Rattle.talkback.specs.Talkback.{program_of, voice_of, undeclared, use_demands, separate_demands, separate_answer}
use Rattle.talkback.specs.Inner.{unfitting, AllIn}
use Rattle.talkback.proofs.Blocks.{length-program, length-voice}
use Rattle.talkback.proofs.Demands.{outside-is, fit-samples, use-stops, use-met, declared-stops, declared-met, one-here, none-here, below-many}
use Rattle.talkback.proofs.separate.Goals as goal
use Rattle.talkback.proofs.separate.Goals.{In-Some-as_array, then-program-ne-SUBFRAMES-via-then-program-ne-SUBFRAMES, then-program-ne-SUBFRAMES-via-else-program-ne-SUBFRAMES+then-voice-ne-VOICES}

-- ---- what is said, and what both buffers hold
module _ (samples : List ℤ) (side : List ℕ) (program voice : List ℤ) where
  refuses : {number place : ℕ} → Stops (separate_demands samples side (length program) (length voice)) number place
      → (refused number place ≡ verdict (separate_answer samples side (length program) (length voice)))
      × ((program ≡ after program_of (separate_answer samples side (length program) (length voice)) program)
      × (voice ≡ after voice_of (separate_answer samples side (length program) (length voice)) voice))
  unfolding separate_answer
  refuses s = rw (stopped (accepted samples) s) (refl, (refl, refl))

  fills : {p v : List ℤ} → AllMet (separate_demands samples side (length program) (length voice)) → length program ≡ 384 → length voice ≡ 128
      → p ≡ program_of samples → v ≡ voice_of samples
      → (accepted tt ≡ verdict (separate_answer samples side (length program) (length voice)))
      × ((p ≡ after program_of (separate_answer samples side (length program) (length voice)) program)
      × (v ≡ after voice_of (separate_answer samples side (length program) (length voice)) voice))
  unfolding separate_answer
  fills m np nv ep ev =
      rw (passing (accepted samples) (separate_demands samples side (length program) (length voice)) m)
      (refl, (ep ∙ sym (whole program_of samples program (length-program samples ∙ sym np)), ev ∙ sym (whole voice_of samples voice (length-voice samples ∙ sym nv))))

-- lengths are right, and the arrays are the slices
module _ (c : In-Some-as_array) where
  abbrev samples : List ℤ
  samples = c.args.samples.now

  abbrev side : List ℕ
  side = c.args.side.now

  same-side : c.in-Some.side.now ≡ side
  same-side = c.in-Some.ensures.cases.same

  same-samples : c.in-Some-as_array.samples.now ≡ samples
  same-samples = c.in-Some-as_array.ensures.cases.same

  long-samples : length c.in-Some-as_array.samples.now ≡ 384
  long-samples = ap length same-samples ∙ c.in-Some-as_array.ensures.cases.long

  abbrev using : List Demand
  using = use_demands (length c.args.program.now) (length c.args.voice.now) side (length samples)

  use-fails : {number place : ℕ} → Stops (finds_none 19 (undeclared side) 0 2 ∷ []) number place → Stops using number place
  use-fails =
      use-stops (length c.args.program.now) (length c.args.voice.now) (length samples) side c.if-program-ne-SUBFRAMES.false
      c.if-voice-ne-VOICES.false c.in-Some.ensures.cases.long c.in-Some-as_array.ensures.cases.long

  use-passes : ((i : ℕ) → 0 ≤ i → i < 0 + 2 → undeclared side i ≡ false) → AllMet using
  use-passes =
      use-met (length c.args.program.now) (length c.args.voice.now) (length samples) side c.if-program-ne-SUBFRAMES.false
      c.if-voice-ne-VOICES.false c.in-Some.ensures.cases.long c.in-Some-as_array.ensures.cases.long

  sample-at : (i : ℕ) → outside samples i ≡ unfitting (2 ^ 23) (2 ^ 4) c.in-Some-as_array.samples.now i
  sample-at i = ap (λ (s : List ℤ). outside s i) (sym same-samples) ∙ outside-is c.in-Some-as_array.samples.now i

pub returns-then-program-ne-SUBFRAMES : goal.returns-then-program-ne-SUBFRAMES
returns-then-program-ne-SUBFRAMES c =
    let a = c.args in
    let s : Stops (separate_demands a.samples.now a.side.now (length a.program.now) (length a.voice.now)) 1 0 =
    elim c.then-program-ne-SUBFRAMES.branch [
      | then-program-ne-SUBFRAMES-via-then-program-ne-SUBFRAMES w ↦ fails (ne_eqb _ 384 w.if-program-ne-SUBFRAMES.true)
      | then-program-ne-SUBFRAMES-via-else-program-ne-SUBFRAMES+then-voice-ne-VOICES w ↦
          later (eq-eqb _ 384 w.if-program-ne-SUBFRAMES.false) (fails (ne_eqb _ 128 w.if-voice-ne-VOICES.true))
    ] in
    let both = refuses a.samples.now a.side.now a.program.now a.voice.now s in
    record { result_value = both.0; program_after = both.1.0; voice_after = both.1.1 }

pub returns-in_default : goal.returns-in_default
returns-in_default c =
    let both = refuses c.args.samples.now c.args.side.now c.args.program.now c.args.voice.now
    (later (eq-eqb _ 384 c.if-program-ne-SUBFRAMES.false) (later (eq-eqb _ 128 c.if-voice-ne-VOICES.false)
    (fails (ne_eqb _ side_length c.in_default.ensures.cases)))) in
    record { result_value = both.0; program_after = both.1.0; voice_after = both.1.1 }

pub returns-in_default-as_array : goal.returns-in_default-as_array
returns-in_default-as_array c =
    let both = refuses c.args.samples.now c.args.side.now c.args.program.now c.args.voice.now
    (later (eq-eqb _ 384 c.if-program-ne-SUBFRAMES.false) (later (eq-eqb _ 128 c.if-voice-ne-VOICES.false)
    (later (eq-eqb _ side_length c.in-Some.ensures.cases.long) (fails (ne_eqb _ 384 c.in_default-as_array.ensures.cases))))) in
    record { result_value = both.0; program_after = both.1.0; voice_after = both.1.1 }

pub returns-in_err-check_declared : goal.returns-in_err-check_declared
returns-in_err-check_declared c =
    let p = (goal.at.returns-in_err-check_declared c).In-Some-as_array in
    let r = err_from_is_err_and c.from_residual.result c.from_residual.ensures.1 in
    let both = refuses c.args.samples.now c.args.side.now c.args.program.now c.args.voice.now
    (extended (use-fails p (declared-stops _ _ (same-side p) _ c.in_err-check_declared.ensures)) (finds_none 3 (outside (samples p)) 0 384 ∷ [])) in
    record { result_value = rw (r.1, r.2) both.0; program_after = both.1.0; voice_after = both.1.1 }

pub overflow_cast-result : goal.overflow_cast-result
overflow_cast-result c =
    let p = (goal.at.overflow_cast-result c).In-Some-as_array in
    omega (arith, long-samples p, below-many _ _ c.first_unfitting.ensures c.in-Some-first_unfitting.is)

pub returns-in-Some-first_unfitting : goal.returns-in-Some-first_unfitting
returns-in-Some-first_unfitting c =
    let p = (goal.at.returns-in-Some-first_unfitting c).In-Some-as_array in
    let both = refuses c.args.samples.now c.args.side.now c.args.program.now c.args.voice.now
    (further (using p) (use-passes p (declared-met _ _ (same-side p) c.in_ok-check_declared.ensures))
    (one-here _ (outside (samples p)) 384 _ (sample-at p) (long-samples p) c.first_unfitting.ensures c.in-Some-first_unfitting.is)) in
    record { result_value = both.0; program_after = both.1.0; voice_after = both.1.1 }

pub invariant_of-joined : goal.invariant_of-joined
invariant_of-joined c =
    let p = (goal.at.invariant_of-joined c).In-Some-as_array in
    record {
      ranges = subst (λ (s : List ℤ). AllIn 24 384 s) (sym (same-samples p))
          (fit-samples (samples p)
          (none-here _ (outside (samples p)) 384 _ (sample-at p) (long-samples p) c.first_unfitting.ensures c.in_default-first_unfitting.is));
    }

pub returns : goal.returns
returns c =
    let p = (goal.at.returns c).In-Some-as_array in
    let both = fills (samples p) c.args.side.now c.args.program.now c.args.voice.now
    (all_of (using p) (finds_none 3 (outside (samples p)) 0 384 ∷ []) (use-passes p (declared-met _ _ (same-side p) c.in_ok-check_declared.ensures))
    (none-here _ (outside (samples p)) 384 _ (sample-at p) (long-samples p) c.first_unfitting.ensures c.in_default-first_unfitting.is & tt))
    c.if-program-ne-SUBFRAMES.false c.if-voice-ne-VOICES.false
    (c.separate_program.ensures ∙ ap program_of (same-samples p)) (c.separate_voice.ensures ∙ ap voice_of (same-samples p)) in
    record { result_value = both.0; program_after = both.1.0; voice_after = both.1.1 }
