-- One record: how a replay stands after it, and the sheet then, by the turn that the header gives. Assumes nothing.
use mathlib.Core.Path.{◌≡◌, refl, sym, ap, ◌∙◌}
use mathlib.Core.Bool.{Bool, true, false}
use mathlib.Core.List.{List}
use Prim.Native.Nat.{ℕ}
use lib.ListN.{length}
use Rattle.records.specs.Head.{turn_of}
use Rattle.records.specs.declared.Turn.{Turn}
use Rattle.records.specs.declared.Turn.TheVariants.{Record}
use Rattle.replay.specs.Packet.{entry_of}
use Rattle.replay.specs.Sheet.{entry_changes, entry_fits}
use Rattle.replay.specs.Replay.{with_record, room_for, next_for, next_of, sheet_for, sheet_stepped}
use Rattle.replay.specs.Inner.{changed}
use Rattle.replay.specs.declared.Entry.{Entry}
use Rattle.replay.specs.declared.Next.{Next}
use Rattle.replay.specs.declared.Next.TheVariants.{Going, Full}
use Rattle.replay.proofs.Changes.{changed-is, changed-not}

module _ (sheet head body : List ℕ) where
  pub next-by : {t : Turn} → turn_of 0 head (length body) ≡ t → next_of sheet head body ≡ next_for t (room_for sheet body)
  unfolding next_of
  next-by e = ap (λ (t : Turn). next_for t (room_for sheet body)) e

  pub stepped_by : {x : Next} → next_of sheet head body ≡ x → sheet_stepped sheet head body ≡ sheet_for x sheet (with_record sheet body)
  unfolding sheet_stepped
  stepped_by e = ap (λ (x : Next). sheet_for x sheet (with_record sheet body)) e

  -- what a function shows that took a turn
  module _ {t u : Turn} (e : t ≡ turn_of 0 head (length body)) (k : t ≡ u) where
    turned : next_of sheet head body ≡ next_for u (room_for sheet body)
    turned = next-by (sym e ∙ k)

    pub stands : (x : Next) → next_for u (room_for sheet body) ≡ x → sheet_for x sheet (with_record sheet body) ≡ sheet
        → (x ≡ next_of sheet head body) × (sheet ≡ sheet_stepped sheet head body)
    stands x f g = (sym (turned ∙ f), sym (stepped_by (turned ∙ f) ∙ g))

  module _ {n : ℕ} {t : Turn} {e : Entry} {r : Bool} {new : List ℕ} (f : t ≡ turn_of 0 head (length body)) (k : t ≡ Record n)
      (same : e ≡ entry_of body) (shown : (r ≡ entry_fits e sheet) × (new ≡ changed (entry_changes e sheet) sheet)) where
    room : r ≡ room_for sheet body
    room = shown.0 ∙ ap (λ (a : Entry). entry_fits a sheet) same

    left : new ≡ changed (entry_changes (entry_of body) sheet) sheet
    left = shown.1 ∙ ap (λ (a : Entry). changed (entry_changes a sheet) sheet) same

    pub counts : r ≡ true → (Going ≡ next_of sheet head body) × (new ≡ sheet_stepped sheet head body)
    counts y =
        let h : room_for sheet body ≡ true = sym room ∙ y in
        let g : next_of sheet head body ≡ Going = next-by (sym f ∙ k) ∙ rw h refl in
        (sym g, left ∙ changed-is (entry_changes (entry_of body) sheet) sheet h ∙ sym (stepped_by g))

    pub fills : r ≡ false → (Full ≡ next_of sheet head body) × (new ≡ sheet_stepped sheet head body)
    fills y =
        let h : room_for sheet body ≡ false = sym room ∙ y in
        let g : next_of sheet head body ≡ Full = next-by (sym f ∙ k) ∙ rw h refl in
        (sym g, left ∙ changed-not (entry_changes (entry_of body) sheet) sheet h ∙ sym (stepped_by g))
