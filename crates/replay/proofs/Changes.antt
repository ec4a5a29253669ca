-- Changes of a sheet: those that all fit, and the sheet then. Assumes nothing.
use mathlib.Core.Path.{◌≡◌, refl, sym, ap, subst, ◌∙◌}
use mathlib.Core.Bool.{Bool, true, false}
use mathlib.Core.List.{List, [], ◌∷◌}
use Prim.Native.Nat.{ℕ, ◌+◌, ◌-◌, ◌^◌, ◌≤◌, ◌<◌}
use borrow.Author.Tests.{ne_eqb, lt-leb, le-leb}
use lib.ListN.{set}
use Rattle.replay.specs.Sheet.{line_start, more, entry_changes, all_fit, written}
use Rattle.replay.specs.Inner.{ProperEntry, changed, refused_changes, data_places, data_changes}
use Rattle.replay.specs.declared.Entry.{Entry}
use Rattle.replay.specs.declared.Entry.TheVariants.{Passed, Data, Control, Refused}

module _ (k x : ℕ) (cs : List (ℕ × ℕ)) where
  -- one that does not fit, and one that does
  pub no-fit : 4294967295 < x → all_fit ((k, x) ∷ cs) ≡ false
  unfolding all_fit
  no-fit h = simp (lt-leb x (2 ^ 32 - 1) h)

  pub one-fits : x ≤ 4294967295 → all_fit ((k, x) ∷ cs) ≡ all_fit cs
  unfolding all_fit
  one-fits h = simp (le-leb x (2 ^ 32 - 1) h)

pub none_left : all_fit [] ≡ true
unfolding all_fit
none_left = refl

-- figures written one after the other
module _ (cs : List (ℕ × ℕ)) (k v : ℕ) (sheet : List ℕ) {x : ℕ} {new final : List ℕ} where
  pub wrote : new ≡ set sheet k x → x ≡ v → final ≡ written cs new → final ≡ written ((k, v) ∷ cs) sheet
  unfolding written
  wrote e f g = g ∙ ap (written cs) (e ∙ ap (set sheet k) f)

pub wrote_none : (sheet : List ℕ) → sheet ≡ written [] sheet
unfolding written
wrote_none sheet = refl

-- those of a data packet, with the figures in another form
pub wrote_as : (start dbn : ℕ) (sheet : List ℕ) {x y z a b c : ℕ} {new : List ℕ} → x ≡ a → y ≡ b → z ≡ c
    → new ≡ written (data_places start x y z dbn) sheet → new ≡ written (data_places start a b c dbn) sheet
wrote_as start dbn sheet p q r e = rw (p, q, r) at e

-- ---- the changes of an entry, by what it is

pub proper-as : {e f : Entry} → e ≡ f → ProperEntry e → ProperEntry f
proper-as e p = subst ProperEntry e p

module _ {e : Entry} (sheet : List ℕ) where
  pub changes-none : e ≡ Passed → [] ≡ entry_changes e sheet
  unfolding entry_changes
  changes-none k = rw k

  pub changes-data : {g l d : ℕ} → e ≡ Data g l d → data_changes sheet (line_start g) l d ≡ entry_changes e sheet
  unfolding entry_changes
  changes-data k = rw k

  pub changes-control : {g : ℕ} → e ≡ Control g → more sheet (line_start g) 1 ∷ [] ≡ entry_changes e sheet
  unfolding entry_changes
  changes-control k = rw k

  pub changes-unlisted : {g l n : ℕ} → e ≡ Refused g l n → g ≡ 0 → more sheet (92 + n) 1 ∷ [] ≡ entry_changes e sheet
  unfolding entry_changes
  changes-unlisted k z = rw (k, z)

  pub changes-refused : {g l n : ℕ} → e ≡ Refused g l n → (g ≡ 0 → ⊥) → refused_changes sheet (line_start g + 1) l (line_start g + 2 + n) ≡ entry_changes e sheet
  unfolding entry_changes
  changes-refused {g} k z = rw (k, ne_eqb g 0 z)

-- what was shown of some changes is shown of the same by another name
pub shown_of : {cs ds : List (ℕ × ℕ)} {r : Bool} (sheet : List ℕ) {new : List ℕ} → cs ≡ ds → (r ≡ all_fit cs) × (new ≡ changed cs sheet)
    → (r ≡ all_fit ds) × (new ≡ changed ds sheet)
shown_of sheet e p = (p.0 ∙ ap all_fit e, p.1 ∙ ap (λ (cs : List (ℕ × ℕ)). changed cs sheet) e)

-- what a function shows that refuses changes, and one that makes them
module _ (cs : List (ℕ × ℕ)) (sheet : List ℕ) where
  pub changed-not : all_fit cs ≡ false → changed cs sheet ≡ sheet
  unfolding changed
  changed-not e = rw e

  pub changed-is : all_fit cs ≡ true → changed cs sheet ≡ written cs sheet
  unfolding changed
  changed-is e = rw e

  pub left_out : all_fit cs ≡ false → (false ≡ all_fit cs) × (sheet ≡ changed cs sheet)
  left_out e = (sym e, sym (changed-not e))

  pub made : {new : List ℕ} → all_fit cs ≡ true → new ≡ written cs sheet → (true ≡ all_fit cs) × (new ≡ changed cs sheet)
  made e f = (sym e, f ∙ sym (changed-is e))
