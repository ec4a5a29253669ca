-- The patch by the lease table is the patch by two tables, and its separation holds between changes of the lease table.
-- Assumes nothing.
use mathlib.Core.Path.{◌≡◌, refl, sym, ap, ◌∙◌}
use mathlib.Core.List.{List}
use Prim.Native.Nat.{ℕ, ◌<◌}
use lib.ListN.{length, get_or, take}
use lib.Seq.{get_or-take}
use Rattle.answer.specs.Answer.{Answer.accepted, Answer.refused, after}
use Rattle.answer.specs.Residue.{NoResidue}
use Rattle.answer.proofs.Chains.{passed, met}
use Rattle.answer.proofs.Residues.{no-residue}
use Rattle.madi_patch.specs.Slot.{Panel, Own, Agree}
use Rattle.madi_patch.specs.Patch.{Patched, patched, patch_demands, frame_of, verdicts_of, patch_answer, frame_after, verdicts_after}
use Rattle.madi_patch.specs.Leased.{leased_panel, leased_demands, leased_answer, leased_frame, leased_verdicts}
use Rattle.madi_patch.proofs.PatchLaws.{length-made-frame, length-verdicts, out-nothing-foreign}
use Rattle.madi_patch.proofs.Separation.{separate-words, separate-verdicts}

module _ (channels active : ℕ) (leases rows frame old-frame old-verdicts : List ℕ) where
  abbrev p : Panel
  p = leased_panel channels active leases rows frame

  -- a refusal leaves both lists as they were
  pub leased-refusal-leaves-both : (number place : ℕ)
      → leased_answer channels active leases rows frame (length old-frame) (length old-verdicts) ≡ refused number place
      → (leased_frame channels active leases rows frame old-frame old-verdicts ≡ old-frame)
      × (leased_verdicts channels active leases rows frame old-frame old-verdicts ≡ old-verdicts)
  leased-refusal-leaves-both number place e = (ap (λ a. after frame_of a old-frame) e, ap (λ a. after verdicts_of a old-verdicts) e)

  module _ (made : Patched) (e : leased_answer channels active leases rows frame (length old-frame) (length old-verdicts) ≡ accepted made) where
    -- an accepted call is an accepted call by two tables, with the same frame and verdicts: what is promised of these
    -- is promised of it
    pub by_two : patch_answer channels (leased_panel channels active leases rows frame) (length old-frame) (length old-verdicts) ≡ accepted made
    unfolding leased_answer
    by_two = (passed (patch_answer channels p (length old-frame) (length old-verdicts)) (leased_demands channels active leases) made e).1

    pub frame-by-two : leased_frame channels active leases rows frame old-frame old-verdicts
        ≡ frame_after channels (leased_panel channels active leases rows frame) old-frame old-verdicts
    frame-by-two = ap (λ a. after frame_of a old-frame) (e ∙ sym by_two)

    pub verdicts-by-two : leased_verdicts channels active leases rows frame old-frame old-verdicts
        ≡ verdicts_after channels (leased_panel channels active leases rows frame) old-frame old-verdicts
    verdicts-by-two = ap (λ a. after verdicts_of a old-verdicts) (e ∙ sym by_two)

    -- nothing foreign
    pub leased-nothing-foreign : (o : ℕ) → o < channels
        → Own (leased_panel channels active leases rows frame) o (get_or (leased_frame channels active leases rows frame old-frame old-verdicts) o 0)
    leased-nothing-foreign o h = rw frame-by-two (out-nothing-foreign channels p old-frame old-verdicts made by_two o h)

-- ---- separation between changes: two accepted calls with one lease table, in which a tenant's rows and input slots
-- agree

module _ (channels active : ℕ) (leases rows rows' frame frame' old-frame old-frame' old-verdicts old-verdicts' : List ℕ) (made made' : Patched)
    (accepts : leased_answer channels active leases rows frame (length old-frame) (length old-verdicts) ≡ accepted made)
    (accepts' : leased_answer channels active leases rows' frame' (length old-frame') (length old-verdicts') ≡ accepted made')
    (tenant : ℕ) (same_rows : (o : ℕ) → o < channels → get_or leases o 0 ≡ tenant → get_or rows o 0 ≡ get_or rows' o 0)
    (same-words : (i : ℕ) → i < channels → get_or leases i 0 ≡ tenant → get_or frame i 0 ≡ get_or frame' i 0) where
  agree : Agree channels tenant (leased_panel channels active leases rows frame) (leased_panel channels active leases rows' frame')
  agree = record {
    same-active = refl;
    same-ins = refl;
    same-outs = refl;
    same_rows = λ o h e. same_rows o h (sym (get_or-take channels leases o 0 h) ∙ e);
    same-words = λ i h e. same-words i h (sym (get_or-take channels leases i 0 h) ∙ e);
  }

  module _ (o : ℕ) (h : o < channels) (own : get_or leases o 0 ≡ tenant) where
    owned : get_or (take channels leases) o 0 ≡ tenant
    owned = get_or-take channels leases o 0 h ∙ own

    pub leased-words-separate : get_or (leased_frame channels active leases rows frame old-frame old-verdicts) o 0
        ≡ get_or (leased_frame channels active leases rows' frame' old-frame' old-verdicts') o 0
    leased-words-separate =
        ap (λ (l : List ℕ). get_or l o 0) (frame-by-two channels active leases rows frame old-frame old-verdicts made accepts)
        ∙ separate-words agree old-frame old-frame' old-verdicts old-verdicts' made made'
        (by_two channels active leases rows frame old-frame old-verdicts made accepts)
        (by_two channels active leases rows' frame' old-frame' old-verdicts' made' accepts') o h owned
        ∙ sym (ap (λ (l : List ℕ). get_or l o 0) (frame-by-two channels active leases rows' frame' old-frame' old-verdicts' made' accepts'))

    pub leased-verdicts-separate : get_or (leased_verdicts channels active leases rows frame old-frame old-verdicts) o 0
        ≡ get_or (leased_verdicts channels active leases rows' frame' old-frame' old-verdicts') o 0
    leased-verdicts-separate =
        ap (λ (l : List ℕ). get_or l o 0) (verdicts-by-two channels active leases rows frame old-frame old-verdicts made accepts)
        ∙ separate-verdicts agree old-frame old-frame' old-verdicts old-verdicts' made made'
        (by_two channels active leases rows frame old-frame old-verdicts made accepts)
        (by_two channels active leases rows' frame' old-frame' old-verdicts' made' accepts') o h owned
        ∙ sym (ap (λ (l : List ℕ). get_or l o 0) (verdicts-by-two channels active leases rows' frame' old-frame' old-verdicts' made' accepts'))

-- ---- no residue, of each list, as long as the channel count, whatever the length of the other

module _ (channels active : ℕ) (leases rows frame : List ℕ) (other : ℕ) where
  made-is : (out verdicts : ℕ) (v : Patched) → leased_answer channels active leases rows frame out verdicts ≡ accepted v
      → patched channels (leased_panel channels active leases rows frame) ≡ v
  unfolding leased_answer patch_answer
  made-is out verdicts v e =
      let p = leased_panel channels active leases rows frame in
      (met (patched channels p) (patch_demands channels p out verdicts)
      (passed (patch_answer channels p out verdicts) (leased_demands channels active leases) v e).1).1

  pub leased-patch-leaves-none-in-frame : NoResidue channels (λ out. leased_answer channels active leases rows frame (length out) other)
      (λ out. after frame_of (leased_answer channels active leases rows frame (length out) other) out)
  leased-patch-leaves-none-in-frame =
      no-residue frame_of channels (λ n. leased_answer channels active leases rows frame n other)
      (λ room v e. ap (λ x. length (frame_of x)) (sym (made-is room other v e))
      ∙ length-made-frame channels (leased_panel channels active leases rows frame))

  pub leased-patch-leaves-none-in-verdicts : NoResidue channels (λ verdicts. leased_answer channels active leases rows frame other (length verdicts))
      (λ verdicts. after verdicts_of (leased_answer channels active leases rows frame other (length verdicts)) verdicts)
  leased-patch-leaves-none-in-verdicts =
      no-residue verdicts_of channels (λ n. leased_answer channels active leases rows frame other n)
      (λ room v e. ap (λ x. length (verdicts_of x)) (sym (made-is other room v e))
      ∙ length-verdicts channels (leased_panel channels active leases rows frame))
