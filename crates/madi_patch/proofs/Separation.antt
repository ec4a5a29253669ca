-- Separation between tenants: with the same ownership tables and active count, a tenant's output words and verdicts
-- depend only on that tenant's rows and input slots. Assumes nothing.
use mathlib.Core.Path.{◌≡◌, refl, sym, ap, ap₂, ◌∙◌}
use mathlib.Core.Bool.{Bool, true, false, ◌&&◌}
use mathlib.Core.List.{List}
use Prim.Native.Nat.{ℕ, ◌≤◌, ◌<◌}
use native.Mathlib.Omega.{arith}
use borrow.Author.Tests.{eqb-true, ltb-true}
use lib.Dec.{eqb, ltb}
use lib.ListN.{length, get_or}
use Rattle.bits.specs.Pick.{pick}
use Rattle.bits.proofs.Tests.{both_true}
use Rattle.answer.specs.Answer.{Answer.accepted}
use Rattle.answer.proofs.Chains.{met, passing}
use Rattle.subframe.specs.Body.{even_body}
use Rattle.madi_code.specs.Frame.{cleared}
use Rattle.madi_patch.specs.Slot.{Panel, verdict_octet, heard, Agree}
use Rattle.madi_patch.specs.Slot.{row_at, named_word, both_active, one_tenant, slot_verdict, slot_word}
use Rattle.madi_patch.specs.Patch.{Patched, patched, patch_demands, patch_answer, frame_after, verdicts_after}
use Rattle.madi_patch.specs.declared.SlotVerdict.{SlotVerdict}
use Rattle.madi_patch.specs.declared.SlotVerdict.TheVariants.{Carried, None, Foreign, BadParity}
use Rattle.madi_patch.proofs.SlotLaws.{carried-only}
use Rattle.madi_patch.proofs.PatchLaws.{accepted-within, word_at, verdict-at}

-- ---- at one output slot of the tenant

module _ {channels tenant : ℕ} {p q : Panel} (agree : Agree channels tenant p q) (within : p.active ≤ channels)
    (o : ℕ) (h : o < channels) (own : get_or p.outs o 0 ≡ tenant) where
  same_row : row_at p o ≡ row_at q o
  same_row = agree.same_rows o h own

  same-both : both_active p o ≡ both_active q o
  same-both = ap₂ (λ (a r : ℕ). ltb o a && ltb r a) agree.same-active same_row

  same-tenant : one_tenant p o ≡ one_tenant q o
  same-tenant =
      ap₂ (λ (l : List ℕ) (r : ℕ). eqb (get_or l r 0) (get_or p.outs o 0)) agree.same-ins same_row
      ∙ ap (λ (l : List ℕ). eqb (get_or q.ins (row_at q o) 0) (get_or l o 0)) agree.same-outs

  -- the word is looked at only where the named slot is the tenant's
  same-named : row_at p o < p.active → get_or p.ins (row_at p o) 0 ≡ get_or p.outs o 0 → named_word p o ≡ named_word q o
  same-named l one = agree.same-words (row_at p o) (omega arith) (one ∙ own) ∙ ap (λ (r : ℕ). get_or q.frame r 0) same_row

  same-verdict : slot_verdict p o ≡ slot_verdict q o
  unfolding slot_verdict
  same-verdict = rw (← same-both, ← same-tenant) (go (both_active p o) (one_tenant p o) refl refl)
    where
      go : (a b : Bool) → both_active p o ≡ a → one_tenant p o ≡ b
          → pick a (pick b (pick (even_body (named_word p o)) Carried BadParity) Foreign) None
          ≡ pick a (pick b (pick (even_body (named_word q o)) Carried BadParity) Foreign) None
      go true true e f =
          ap (λ (w : ℕ). pick (even_body w) Carried BadParity)
          (same-named (ltb-true (row_at p o) p.active (both_true (ltb o p.active) (ltb (row_at p o) p.active) e).1)
          (eqb-true (get_or p.ins (row_at p o) 0) (get_or p.outs o 0) f))
      go true false e f = refl
      go false b e f = refl

  same_word : slot_word p o ≡ slot_word q o
  unfolding slot_word
  same_word = go (slot_verdict p o) refl ∙ ap (λ (v : SlotVerdict). heard v (named_word q o)) same-verdict
    where
      go : (v : SlotVerdict) → slot_verdict p o ≡ v → heard v (named_word p o) ≡ heard v (named_word q o)
      go Carried e =
          let c = carried-only p o e in
          ap cleared (same-named c.in-active c.one-tenant)
      go None e = refl
      go Foreign e = refl
      go BadParity e = refl

-- ---- of two calls

-- whether a call is accepted depends on rows and frame through their lengths alone
pub accepted-alike : {channels tenant : ℕ} {p q : Panel} → Agree channels tenant p q → length p.rows ≡ length q.rows
    → length p.frame ≡ length q.frame → (out verdicts : ℕ) (made : Patched)
    → patch_answer channels p out verdicts ≡ accepted made → patch_answer channels q out verdicts ≡ accepted (patched channels q)
unfolding patch_answer
accepted-alike {channels} {tenant} {p} {q} agree rows frame out verdicts made accepts =
    passing (accepted (patched channels q)) (patch_demands channels q out verdicts)
    (rw (← agree.same-active, ← agree.same-ins, ← agree.same-outs, ← rows, ← frame)
    (met (patched channels p) (patch_demands channels p out verdicts) accepts).0)

-- two accepted calls that agree for a tenant give the same words and verdicts at that tenant's output slots, whatever
-- the other tenants' rows and input slots were
module _ {channels tenant : ℕ} {p q : Panel} (agree : Agree channels tenant p q)
    (old-frame old-frame' old-verdicts old-verdicts' : List ℕ) (made made' : Patched)
    (accepts : patch_answer channels p (length old-frame) (length old-verdicts) ≡ accepted made)
    (accepts' : patch_answer channels q (length old-frame') (length old-verdicts') ≡ accepted made')
    (o : ℕ) (h : o < channels) (own : get_or p.outs o 0 ≡ tenant) where
  within : p.active ≤ channels
  within = accepted-within channels p old-frame old-verdicts made accepts

  pub separate-words : get_or (frame_after channels p old-frame old-verdicts) o 0 ≡ get_or (frame_after channels q old-frame' old-verdicts') o 0
  separate-words =
      word_at channels p old-frame old-verdicts made accepts o h ∙ same_word agree within o h own
      ∙ sym (word_at channels q old-frame' old-verdicts' made' accepts' o h)

  pub separate-verdicts : get_or (verdicts_after channels p old-frame old-verdicts) o 0
      ≡ get_or (verdicts_after channels q old-frame' old-verdicts') o 0
  separate-verdicts =
      verdict-at channels p old-frame old-verdicts made accepts o h ∙ ap verdict_octet (same-verdict agree within o h own)
      ∙ sym (verdict-at channels q old-frame' old-verdicts' made' accepts' o h)
