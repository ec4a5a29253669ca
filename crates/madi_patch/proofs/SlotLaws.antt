-- One output slot: what each verdict says, and what its word then is. Assumes nothing.
use mathlib.Core.Path.{◌≡◌, refl, ap, ◌∙◌}
use mathlib.Core.Logic.{◌≢◌, inl, inr}
use mathlib.Core.Bool.{true, false}
use Prim.Native.Nat.{ℕ, ◌%◌, ◌≤◌, ◌<◌}
use native.Mathlib.Omega.{arith}
use borrow.Author.Tests.{eq-eqb, ne_eqb, eqb-true, ltb-true, lt-ltb, le-ltb}
use lib.Dec.{eqb, ltb}
use lib.ListN.{get_or}
use Rattle.bits.proofs.Tests.{pick-cases, both_true}
use Rattle.subframe.specs.Body.{even_body}
use Rattle.subframe.proofs.BodyLaws.{parity-above, parity-zero}
use Rattle.madi_code.specs.Frame.{cleared}
use Rattle.madi_patch.specs.Slot.{Panel, verdict_octet, silence, heard, Carries, Own}
use Rattle.madi_patch.specs.Slot.{row_at, named_word, both_active, one_tenant, slot_verdict, slot_word}
use Rattle.madi_patch.specs.declared.SlotVerdict.{SlotVerdict}
use Rattle.madi_patch.specs.declared.SlotVerdict.TheVariants.{Carried, None, Foreign, BadParity}

-- ---- a cleared word, and silence, pass what the writer of a frame checks of words

pub cleared-even : (w : ℕ) → even_body (cleared w) ≡ even_body w
cleared-even w = ap (λ (p : ℕ). eqb p 0) (parity-above (cleared w) w (omega arith))

pub silence-even : even_body silence ≡ true
silence-even = eq-eqb _ 0 parity-zero

-- ---- each verdict has an octet of its own

pub carried-octet : (v : SlotVerdict) → verdict_octet v ≡ verdict_octet Carried → v ≡ Carried
carried-octet Carried e = refl
carried-octet None e = absurd (omega arith)
carried-octet Foreign e = absurd (omega arith)
carried-octet BadParity e = absurd (omega arith)

-- a verdict that is not carried is silent
pub heard-cases {ℓ} : (P : ℕ → Type ℓ) (v : SlotVerdict) (w : ℕ) → (v ≡ Carried → P (cleared w)) → P silence → P (heard v w)
heard-cases P Carried w word silent = word refl
heard-cases P None w word silent = silent
heard-cases P Foreign w word silent = silent
heard-cases P BadParity w word silent = silent

pub silent-verdict : (v : SlotVerdict) (w : ℕ) → verdict_octet v ≢ verdict_octet Carried → heard v w ≡ silence
silent-verdict Carried w d = absurd (d refl)
silent-verdict None w d = refl
silent-verdict Foreign w d = refl
silent-verdict BadParity w d = refl

module _ (p : Panel) (o : ℕ) where
  -- ---- the verdict: the first that applies

  pub none_out : p.active ≤ o → slot_verdict p o ≡ None
  unfolding slot_verdict
  none_out h = rw (le-ltb o p.active h)

  module _ (sent : o < p.active) where
    pub none_in : p.active ≤ row_at p o → slot_verdict p o ≡ None
    unfolding slot_verdict
    none_in h = rw (lt-ltb o p.active sent, le-ltb (row_at p o) p.active h)

    module _ (came : row_at p o < p.active) where
      both : both_active p o ≡ true
      both = rw (lt-ltb o p.active sent, lt-ltb (row_at p o) p.active came)

      pub is-foreign : get_or p.ins (row_at p o) 0 ≢ get_or p.outs o 0 → slot_verdict p o ≡ Foreign
      unfolding slot_verdict
      is-foreign d = rw (both, ne_eqb (get_or p.ins (row_at p o) 0) (get_or p.outs o 0) d)

      module _ (one : get_or p.ins (row_at p o) 0 ≡ get_or p.outs o 0) where
        pub is-bad : even_body (named_word p o) ≡ false → slot_verdict p o ≡ BadParity
        unfolding slot_verdict
        is-bad f = rw (both, eq-eqb (get_or p.ins (row_at p o) 0) (get_or p.outs o 0) one, f)

        pub is_carried : even_body (named_word p o) ≡ true → slot_verdict p o ≡ Carried
        unfolding slot_verdict
        is_carried t = rw (both, eq-eqb (get_or p.ins (row_at p o) 0) (get_or p.outs o 0) one, t)

  pub carried-only : slot_verdict p o ≡ Carried → Carries p o
  unfolding slot_verdict
  carried-only =
      pick-cases P (both_active p o) _ None
      (λ a. pick-cases P (one_tenant p o) _ Foreign
      (λ b. pick-cases P (even_body (named_word p o)) Carried BadParity
      (λ c e. record {
        out-active = ltb-true o p.active (both_true (ltb o p.active) (ltb (row_at p o) p.active) a).0;
        in-active = ltb-true (row_at p o) p.active (both_true (ltb o p.active) (ltb (row_at p o) p.active) a).1;
        one-tenant = eqb-true (get_or p.ins (row_at p o) 0) (get_or p.outs o 0) b;
        even = c;
      })
      (λ c e. other BadParity (λ q. absurd (omega arith)) e))
      (λ b e. other Foreign (λ q. absurd (omega arith)) e))
      (λ a e. other None (λ q. absurd (omega arith)) e)
    where
      P : SlotVerdict → Type 0
      P v = v ≡ Carried → Carries p o

      other : (v : SlotVerdict) → (verdict_octet v ≡ 0 → ⊥) → v ≡ Carried → Carries p o
      other v not e = absurd (not (ap verdict_octet e))

  -- ---- the word

  pub carried-is-the-word : slot_verdict p o ≡ Carried → slot_word p o ≡ cleared (named_word p o)
  unfolding slot_word
  carried-is-the-word e = ap (λ (v : SlotVerdict). heard v (named_word p o)) e

  pub not-carried-is-silent : verdict_octet (slot_verdict p o) ≢ verdict_octet Carried → slot_word p o ≡ silence
  unfolding slot_word
  not-carried-is-silent d = silent-verdict (slot_verdict p o) (named_word p o) d

  pub word-cases {ℓ} : (P : ℕ → Type ℓ) → (Carries p o → P (cleared (named_word p o))) → P silence → P (slot_word p o)
  unfolding slot_word
  word-cases P word silent = heard-cases P (slot_verdict p o) (named_word p o) (λ e. word (carried-only e)) silent

  pub nothing-foreign : Own p o (slot_word p o)
  nothing-foreign = word-cases (Own p o) (λ c. inr (row_at p o, c.in-active, c.one-tenant, refl)) (inl refl)

  -- even parity of slots 4 to 31, bits 0 and 1 zero
  pub word-passes : (even_body (slot_word p o) ≡ true) × (slot_word p o % 4 ≡ 0)
  word-passes =
      word-cases (λ w. (even_body w ≡ true) × (w % 4 ≡ 0))
      (λ c. (cleared-even (named_word p o) ∙ c.even, omega arith)) (silence-even, refl)
