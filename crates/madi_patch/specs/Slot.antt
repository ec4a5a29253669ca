-- One output slot of a patch between tenants: its verdict and its word. Assumes nothing.
use Rattle.std.specs.Prelude.{◌≡◌, ◌⊎◌, ℕ, ◌<◌, Bool, true, ◌&&◌, List, eqb, ltb, get_or}
use Rattle.bits.specs.Pick.{pick}
use Rattle.subframe.specs.Body.{even_body}
use Rattle.madi_code.specs.Frame.{cleared}
use Rattle.madi_patch.specs.declared.SlotVerdict.{SlotVerdict}
use Rattle.madi_patch.specs.declared.SlotVerdict.TheVariants.{Carried, None, Foreign, BadParity}

-- the active count, the tenant of each input slot and of each output slot (0 is the house), the input slot that each
-- output slot's row names, and the words of the frame in
pub record Panel : Type 0 where
  pub active : ℕ
  pub ins : List ℕ
  pub outs : List ℕ
  pub rows : List ℕ
  pub frame : List ℕ

abbrev pub panel : ℕ → List ℕ → List ℕ → List ℕ → List ℕ → Panel
panel active ins outs rows frame = record { active = active; ins = ins; outs = outs; rows = rows; frame = frame }

-- the octet that says a verdict
abbrev pub verdict_octet : SlotVerdict → ℕ
verdict_octet Carried = 0
verdict_octet None = 1
verdict_octet Foreign = 2
verdict_octet BadParity = 3

-- zero body, bits 2 and 3 zero
abbrev pub silence : ℕ
silence = 0

-- a carried word has bits 0 and 1 cleared; else the slot is silent
abbrev pub heard : SlotVerdict → ℕ → ℕ
heard Carried w = cleared w
heard None w = silence
heard Foreign w = silence
heard BadParity w = silence

module _ (p : Panel) (o : ℕ) where
  -- the input slot that the row of output slot o names, and its word
  abbrev pub row_at : ℕ
  row_at = get_or p.rows o 0

  abbrev pub named_word : ℕ
  named_word = get_or p.frame row_at 0

  -- slots at or above the active count are none, as is a number that is no slot's
  abbrev pub both_active : Bool
  both_active = ltb o p.active && ltb row_at p.active

  abbrev pub one_tenant : Bool
  one_tenant = eqb (get_or p.ins row_at 0) (get_or p.outs o 0)

  -- the first that applies: none, foreign, bad parity
  unfoldable pub slot_verdict : SlotVerdict
  slot_verdict = pick both_active (pick one_tenant (pick (even_body named_word) Carried BadParity) Foreign) None

  abbrev pub slot_octet : ℕ
  slot_octet = verdict_octet slot_verdict

  unfoldable pub slot_word : ℕ
  slot_word = heard slot_verdict named_word

  -- ---- what is promised of it

  -- both slots are active and one tenant's, and the parity is even
  pub record Carries : Type 0 where
    pub out-active : o < p.active
    pub in-active : row_at < p.active
    pub one-tenant : get_or p.ins row_at 0 ≡ get_or p.outs o 0
    pub even : even_body named_word ≡ true

  -- silence, or the cleared word of an active input slot of the same owner
  abbrev pub Own : ℕ → Type 0
  Own w = (w ≡ silence) ⊎ ((i : ℕ) × (i < p.active) × (get_or p.ins i 0 ≡ get_or p.outs o 0) × (w ≡ cleared (get_or p.frame i 0)))

-- ---- two calls with the same tables and active count, in which one tenant's rows and that tenant's input slots agree

pub record Agree (channels tenant : ℕ) (p q : Panel) : Type 0 where
  pub same-active : p.active ≡ q.active
  pub same-ins : p.ins ≡ q.ins
  pub same-outs : p.outs ≡ q.outs
  pub same_rows : (o : ℕ) → o < channels → get_or p.outs o 0 ≡ tenant → get_or p.rows o 0 ≡ get_or q.rows o 0
  pub same-words : (i : ℕ) → i < channels → get_or p.ins i 0 ≡ tenant → get_or p.frame i 0 ≡ get_or q.frame i 0
