-- `talkback::join` meets its contract: each return says which demand stops, or that all are met. Assumes nothing.
use mathlib.Core.Path.{◌≡◌, sym, ap, ap₂, ◌∙◌, subst}
use mathlib.Core.Bool.{false}
use mathlib.Core.List.{List, [], ◌∷◌}
use Prim.Native.Nat.{ℕ, ◌+◌, ◌^◌, ◌≤◌, ◌<◌}
use native.Mathlib.Omega.{arith}
use borrow.Author.Tests.{eq-eqb, ne_eqb}
use lib.IntN.{ℤ}
use lib.ListN.{length}
use Rattle.std.proofs.lemmas.Result.{err_from_is_err_and}
use Rattle.answer.specs.Demand.{Demand, Demand.finds_none, AllMet, Stops, ◌&◌}
use Rattle.answer.specs.Demand.Stops.{fails, later}
use Rattle.answer.proofs.Chains.{extended, further, all_of}
use Rattle.answer.proofs.Residues.{shows-refusal, shows-acceptance}
use Rattle.block.specs.Side.{side_length}
use Rattle.talkback.specs.Talkback.{with_voice, undeclared, unfit, voice_outside, use_demands, voice_join_answer}
use Rattle.talkback.specs.Inner.{unfitting, Programs, AllIn}
use Rattle.talkback.proofs.Blocks.{length-with}
use Rattle.talkback.proofs.Demands.{unfit-is, voice-is, fit-programs, fit-voice, use-stops, use-met, declared-stops, declared-met, one-here, none-here, one-there, none-there, below-many}
use Rattle.talkback.proofs.join.Goals as goal
use Rattle.talkback.proofs.join.Goals.{In-Some-as_mut_array}

abbrev samples-demands : List ℤ → List ℤ → List Demand
samples-demands program voice = finds_none 3 (unfit program) 0 384 ∷ finds_none 3 (voice_outside voice) 384 128 ∷ []

-- lengths are right, and the arrays are the slices
module _ (c : In-Some-as_mut_array) where
  abbrev program : List ℤ
  program = c.args.program.now

  abbrev voice : List ℤ
  voice = c.args.voice.now

  abbrev side : List ℕ
  side = c.args.side.now

  abbrev room : ℕ
  room = length c.args.samples.now

  same-program : c.in-Some.program.now ≡ program
  same-program = c.in-Some.ensures.cases.same

  same-voice : c.in-Some-as_array.voice.now ≡ voice
  same-voice = c.in-Some-as_array.ensures.cases.same

  same-side : c.in-Some-as_array-2.side.now ≡ side
  same-side = c.in-Some-as_array-2.ensures.cases.same

  same-samples : c.in-Some-as_mut_array.samples.now ≡ c.args.samples.now
  same-samples = c.in-Some-as_mut_array.ensures.cases.same

  long-program : length c.in-Some.program.now ≡ 384
  long-program = ap length same-program ∙ c.in-Some.ensures.cases.long

  long-voice : length c.in-Some-as_array.voice.now ≡ 128
  long-voice = ap length same-voice ∙ c.in-Some-as_array.ensures.cases.long

  abbrev using : List Demand
  using = use_demands (length program) (length voice) side room

  use-fails : {place : ℕ} {number : ℕ} → Stops (finds_none 19 (undeclared side) 0 2 ∷ []) number place → Stops using number place
  use-fails =
      use-stops (length program) (length voice) room side c.in-Some.ensures.cases.long c.in-Some-as_array.ensures.cases.long
      c.in-Some-as_array-2.ensures.cases.long c.in-Some-as_mut_array.ensures.cases.long

  use-passes : ((i : ℕ) → 0 ≤ i → i < 0 + 2 → undeclared side i ≡ false) → AllMet using
  use-passes =
      use-met (length program) (length voice) room side c.in-Some.ensures.cases.long c.in-Some-as_array.ensures.cases.long
      c.in-Some-as_array-2.ensures.cases.long c.in-Some-as_mut_array.ensures.cases.long

  program-at : (i : ℕ) → unfit program i ≡ unfitting (2 ^ 23) 1 c.in-Some.program.now i
  program-at i = ap (λ (s : List ℤ). unfit s i) (sym same-program) ∙ unfit-is c.in-Some.program.now i

  voice-at : (i : ℕ) → voice_outside voice (384 + i) ≡ unfitting (2 ^ 11) (2 ^ 4) c.in-Some-as_array.voice.now i
  voice-at i = ap (λ (s : List ℤ). voice_outside s (384 + i)) (sym same-voice) ∙ voice-is c.in-Some-as_array.voice.now i

pub returns-in_default : goal.returns-in_default
unfolding voice_join_answer
returns-in_default c =
    let both = shows-refusal _ _ _ _ (fails (ne_eqb _ 384 c.in_default.ensures.cases)) in
    record { result_value = both.0; samples_after = both.1 }

pub returns-in_default-as_array : goal.returns-in_default-as_array
unfolding voice_join_answer
returns-in_default-as_array c =
    let both = shows-refusal _ _ _ _ (later (eq-eqb _ 384 c.in-Some.ensures.cases.long) (fails (ne_eqb _ 128 c.in_default-as_array.ensures.cases))) in
    record { result_value = both.0; samples_after = both.1 }

pub returns-in_default-as_array-2 : goal.returns-in_default-as_array-2
unfolding voice_join_answer
returns-in_default-as_array-2 c =
    let both = shows-refusal _ _ _ _
    (later (eq-eqb _ 384 c.in-Some.ensures.cases.long) (later (eq-eqb _ 128 c.in-Some-as_array.ensures.cases.long)
    (fails (ne_eqb _ side_length c.in_default-as_array-2.ensures.cases)))) in
    record { result_value = both.0; samples_after = both.1 }

pub returns-in_default-as_mut_array : goal.returns-in_default-as_mut_array
unfolding voice_join_answer
returns-in_default-as_mut_array c =
    let both = shows-refusal _ _ _ _
    (later (eq-eqb _ 384 c.in-Some.ensures.cases.long) (later (eq-eqb _ 128 c.in-Some-as_array.ensures.cases.long)
    (later (eq-eqb _ side_length c.in-Some-as_array-2.ensures.cases.long) (fails (ne_eqb _ 384 c.in_default-as_mut_array.ensures.cases))))) in
    record { result_value = both.0; samples_after = both.1 }

pub returns-in_err-check_declared : goal.returns-in_err-check_declared
unfolding voice_join_answer
returns-in_err-check_declared c =
    let p = (goal.at.returns-in_err-check_declared c).In-Some-as_mut_array in
    let r = err_from_is_err_and c.from_residual.result c.from_residual.ensures.1 in
    let both = shows-refusal _ _ _ _
    (extended (use-fails p (declared-stops _ _ (same-side p) _ c.in_err-check_declared.ensures)) (samples-demands (program p) (voice p))) in
    record { result_value = rw (r.1, r.2) both.0; samples_after = same-samples p ∙ both.1 }

pub overflow_cast-result : goal.overflow_cast-result
overflow_cast-result c =
    let p = (goal.at.overflow_cast-result c).In-Some-as_mut_array in
    omega (arith, long-program p, below-many _ _ c.first_unfitting.ensures c.in-Some-first_unfitting.is)

pub returns-in-Some-first_unfitting : goal.returns-in-Some-first_unfitting
unfolding voice_join_answer
returns-in-Some-first_unfitting c =
    let p = (goal.at.returns-in-Some-first_unfitting c).In-Some-as_mut_array in
    let both = shows-refusal _ _ _ _
    (further (using p) (use-passes p (declared-met _ _ (same-side p) c.in_ok-check_declared.ensures))
    (one-here _ (unfit (program p)) 384 _ (program-at p) (long-program p) c.first_unfitting.ensures c.in-Some-first_unfitting.is)) in
    record { result_value = both.0; samples_after = same-samples p ∙ both.1 }

pub overflow_cast-result-in-Some-first_unfitting-2 : goal.overflow_cast-result-in-Some-first_unfitting-2
overflow_cast-result-in-Some-first_unfitting-2 c =
    let p = (goal.at.overflow_cast-result-in-Some-first_unfitting-2 c).In-Some-as_mut_array in
    omega (arith, long-voice p, below-many _ _ c.first_unfitting-2.ensures c.in-Some-first_unfitting-2.is)

pub overflow_add-result : goal.overflow_add-result
overflow_add-result c =
    let p = (goal.at.overflow_add-result c).In-Some-as_mut_array in
    omega (arith, long-voice p, below-many _ _ c.first_unfitting-2.ensures c.in-Some-first_unfitting-2.is)

pub returns-in-Some-first_unfitting-2 : goal.returns-in-Some-first_unfitting-2
unfolding voice_join_answer
returns-in-Some-first_unfitting-2 c =
    let p = (goal.at.returns-in-Some-first_unfitting-2 c).In-Some-as_mut_array in
    let both = shows-refusal _ _ _ _
    (further (using p) (use-passes p (declared-met _ _ (same-side p) c.in_ok-check_declared.ensures))
    (later (none-here _ (unfit (program p)) 384 _ (program-at p) (long-program p) c.first_unfitting.ensures c.in_default-first_unfitting.is)
    (one-there _ (voice_outside (voice p)) 384 128 _ (voice-at p) (long-voice p) c.first_unfitting-2.ensures c.in-Some-first_unfitting-2.is))) in
    record { result_value = both.0; samples_after = same-samples p ∙ both.1 }

pub invariant_of-program : goal.invariant_of-program
invariant_of-program c =
    let p = (goal.at.invariant_of-program c).In-Some-as_mut_array in
    record {
      fits = subst (λ (s : List ℤ). Programs s) (sym (same-program p))
          (fit-programs (program p)
          (none-here _ (unfit (program p)) 384 _ (program-at p) (long-program p) c.first_unfitting.ensures c.in_default-first_unfitting.is));
    }

pub join_block-requires : goal.join_block-requires
join_block-requires c =
    let p = (goal.at.join_block-requires c).In-Some-as_mut_array in
    subst (λ (s : List ℤ). AllIn 12 128 s) (sym (same-voice p))
    (fit-voice (voice p)
    (none-there _ (voice_outside (voice p)) 384 128 _ (voice-at p) (long-voice p) c.first_unfitting-2.ensures c.in_default-first_unfitting-2.is))

pub returns : goal.returns
unfolding voice_join_answer
returns c =
    let p = (goal.at.returns c).In-Some-as_mut_array in
    let both = shows-acceptance _ _ _ _ _
    (all_of (using p) (samples-demands (program p) (voice p))
    (use-passes p (declared-met _ _ (same-side p) c.in_ok-check_declared.ensures))
    (none-here _ (unfit (program p)) 384 _ (program-at p) (long-program p) c.first_unfitting.ensures c.in_default-first_unfitting.is
    & none-there _ (voice_outside (voice p)) 384 128 _ (voice-at p) (long-voice p) c.first_unfitting-2.ensures c.in_default-first_unfitting-2.is & tt))
    (length-with (program p) (voice p) ∙ sym p.in-Some-as_mut_array.ensures.cases.long)
    (c.join_block.ensures ∙ ap₂ with_voice (same-program p) (same-voice p)) in
    record { result_value = both.0; samples_after = both.1 }
