-- A whole call: when it is accepted, what the two written lists then hold, and the promises of them. Assumes nothing.
use mathlib.Core.Path.{◌≡◌, refl, sym, ap, ◌∙◌}
use mathlib.Core.Logic.{◌≢◌}
use mathlib.Core.Bool.{true}
use mathlib.Core.List.{List, [], ◌∷◌}
use Prim.Native.Nat.{ℕ, ◌%◌, ◌≤◌, ◌<◌}
use native.Mathlib.Omega.{arith}
use borrow.Author.Tests.{eqb-true, leb-true}
use lib.Dec.{eqb}
use lib.ListN.{length, get_or, take}
use lib.Seq.{get_or-take, length-take-le}
use Rattle.bits.specs.Listed.{listed}
use Rattle.bits.proofs.Tests.{both_true}
use Rattle.bits.proofs.Lists.{length-listed, get_or-listed}
use Rattle.answer.specs.Answer.{Answer.accepted, Answer.refused, after}
use Rattle.answer.specs.Demand.{AllMet}
use Rattle.answer.proofs.Chains.{met}
use Rattle.answer.proofs.Residues.{whole}
use Rattle.subframe.specs.Body.{even_body}
use Rattle.madi_code.specs.Frame.{cleared, counted}
use Rattle.madi_patch.specs.Slot.{Panel, verdict_octet, silence, named_word, slot_verdict, slot_octet, slot_word, Own}
use Rattle.madi_patch.specs.Patch.{Patched, patched, frame_of, verdicts_of, as_long, patch_demands, patch_answer, frame_after, verdicts_after}
use Rattle.madi_patch.specs.Inner.{Long}
use Rattle.madi_patch.specs.declared.SlotVerdict.TheVariants.{Carried}
use Rattle.madi_patch.proofs.SlotLaws.{carried-octet, carried-is-the-word, not-carried-is-silent, nothing-foreign, word-passes}

module _ (channels : ℕ) (p : Panel) where
  pub frame_made : frame_of (patched channels p) ≡ listed 0 channels (slot_word p)
  unfolding patched
  frame_made = refl

  pub verdicts-made : verdicts_of (patched channels p) ≡ listed 0 channels (slot_octet p)
  unfolding patched
  verdicts-made = refl

  pub length-made-frame : length (frame_of (patched channels p)) ≡ channels
  length-made-frame = ap length frame_made ∙ length-listed 0 channels (slot_word p)

  pub length-verdicts : length (verdicts_of (patched channels p)) ≡ channels
  length-verdicts = ap length verdicts-made ∙ length-listed 0 channels (slot_octet p)

  -- ---- the lengths

  pub lengths : (out verdicts : ℕ) → p.active ≤ channels
      → as_long channels (length p.ins ∷ length p.outs ∷ length p.rows ∷ length p.frame ∷ out ∷ verdicts ∷ []) ≡ true
      → Long channels p out verdicts
  lengths out verdicts within h =
      let a = both_true (eqb (length p.ins) channels) _ h in
      let b = both_true (eqb (length p.outs) channels) _ a.1 in
      let c = both_true (eqb (length p.rows) channels) _ b.1 in
      let d = both_true (eqb (length p.frame) channels) _ c.1 in
      let e = both_true (eqb out channels) _ d.1 in
      let f = both_true (eqb verdicts channels) true e.1 in
      record {
        within = within;
        of-ins = eqb-true (length p.ins) channels a.0;
        of-outs = eqb-true (length p.outs) channels b.0;
        of-rows = eqb-true (length p.rows) channels c.0;
        of-frame = eqb-true (length p.frame) channels d.0;
        of-out = eqb-true out channels e.0;
        of-verdicts = eqb-true verdicts channels f.0;
      }

module _ (channels : ℕ) (p : Panel) (old-frame old-verdicts : List ℕ) where
  abbrev out : List ℕ
  out = frame_after channels p old-frame old-verdicts

  abbrev verdicts : List ℕ
  verdicts = verdicts_after channels p old-frame old-verdicts

  -- a refusal leaves both lists as they were
  pub refusal-leaves-both : (number place : ℕ) → patch_answer channels p (length old-frame) (length old-verdicts) ≡ refused number place
      → (out ≡ old-frame) × (verdicts ≡ old-verdicts)
  refusal-leaves-both number place e = (ap (λ a. after frame_of a old-frame) e, ap (λ a. after verdicts_of a old-verdicts) e)

  -- ---- an accepted call

  module _ (made : Patched) (accepts : patch_answer channels p (length old-frame) (length old-verdicts) ≡ accepted made) where
    all-met : AllMet (patch_demands channels p (length old-frame) (length old-verdicts)) × (patched channels p ≡ made)
    unfolding patch_answer
    all-met = met (patched channels p) (patch_demands channels p (length old-frame) (length old-verdicts)) accepts

    pub accepted-counted : counted channels ≡ true
    accepted-counted = all-met.0.0

    pub accepted-some : 1 ≤ p.active
    accepted-some = leb-true 1 p.active all-met.0.1.0

    pub accepted-within : p.active ≤ channels
    accepted-within = leb-true p.active channels all-met.0.1.1.0

    pub accepted-long : Long channels p (length old-frame) (length old-verdicts)
    accepted-long = lengths channels p (length old-frame) (length old-verdicts) accepted-within all-met.0.1.1.1.0

    is_made : patch_answer channels p (length old-frame) (length old-verdicts) ≡ accepted (patched channels p)
    is_made = accepts ∙ ap accepted (sym all-met.1)

    pub frame-written : out ≡ listed 0 channels (slot_word p)
    frame-written =
        ap (λ a. after frame_of a old-frame) is_made
        ∙ whole frame_of (patched channels p) old-frame (length-made-frame channels p ∙ sym accepted-long.of-out) ∙ frame_made channels p

    pub verdicts-written : verdicts ≡ listed 0 channels (slot_octet p)
    verdicts-written =
        ap (λ a. after verdicts_of a old-verdicts) is_made
        ∙ whole verdicts_of (patched channels p) old-verdicts (length-verdicts channels p ∙ sym accepted-long.of-verdicts)
        ∙ verdicts-made channels p

    module _ (o : ℕ) (h : o < channels) where
      pub word_at : get_or out o 0 ≡ slot_word p o
      word_at = ap (λ (l : List ℕ). get_or l o 0) frame-written ∙ get_or-listed channels (slot_word p) o 0 h

      pub verdict-at : get_or verdicts o 0 ≡ slot_octet p o
      verdict-at = ap (λ (l : List ℕ). get_or l o 0) verdicts-written ∙ get_or-listed channels (slot_octet p) o 0 h

      -- ---- the promises, at each output slot

      -- a slot whose verdict is not "carried" is silent; one that is carried has the cleared word of the slot that its
      -- row names
      pub silent-unless-carried : get_or verdicts o 0 ≢ verdict_octet Carried → get_or out o 0 ≡ silence
      silent-unless-carried d = word_at ∙ not-carried-is-silent p o (λ e. d (verdict-at ∙ e))

      pub carried-word : get_or verdicts o 0 ≡ verdict_octet Carried → get_or out o 0 ≡ cleared (named_word p o)
      carried-word e = word_at ∙ carried-is-the-word p o (carried-octet (slot_verdict p o) (sym verdict-at ∙ e))

      -- every output word is silence or the cleared word of an input slot of the same owner
      pub out-nothing-foreign : Own p o (get_or out o 0)
      out-nothing-foreign = rw word_at (nothing-foreign p o)

      pub out-passes : (even_body (get_or out o 0) ≡ true) × (get_or out o 0 % 4 ≡ 0)
      out-passes = rw word_at (word-passes p o)

    pub length-out : length out ≡ channels
    length-out = ap length frame-written ∙ length-listed 0 channels (slot_word p)

    -- the first `active` words are such as the writer of a frame takes: even parity of slots 4 to 31, bits 0 and 1 zero
    pub active-words-pass : (i : ℕ) → i < length (take p.active out)
        → (even_body (get_or (take p.active out) i 0) ≡ true) × (get_or (take p.active out) i 0 % 4 ≡ 0)
    active-words-pass i h =
        let l : length (take p.active out) ≡ p.active = length-take-le p.active out (omega (arith, length-out, accepted-within)) in
        rw (get_or-take p.active out i 0 (omega arith)) (out-passes i (omega (arith, accepted-within)))
