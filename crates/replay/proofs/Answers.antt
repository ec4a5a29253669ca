-- What the entry shows as it returns, case by case. Assumes nothing.
use mathlib.Core.Path.{◌≡◌, refl, sym, ap, ◌∙◌}
use mathlib.Core.Bool.{Bool, true, false}
use mathlib.Core.List.{List}
use Prim.Native.Nat.{ℕ}
use borrow.Author.Tests.{eq-eqb, ne_eqb}
use lib.Dec.{eqb, ltb}
use lib.ListN.{length, replicate}
use Rattle.bits.specs.Pick.{pick}
use Rattle.bits.proofs.Tests.{pick-cases, no-yes}
use Rattle.answer.specs.Answer.{Answer, Answer.accepted, Answer.refused, mapped}
use Rattle.answer.specs.Demand.{◌&◌}
use Rattle.answer.specs.Demand.Stops.{fails, later}
use Rattle.answer.proofs.Residues.{shows-refusal, shows-acceptance}
use Rattle.records.specs.Head.{size_of}
use Rattle.replay.specs.File.{records_of, stop_at, file_stop}
use Rattle.replay.specs.Sheet.{marks_sound}
use Rattle.replay.specs.Replay.{all_counted, taken_of, replay_figures, replay_end, stop_number, replay_demands, replay_answer, stop_told, figures_told, sheet_after, taken_told, figures_handed, replay_told}
use Rattle.replay.specs.Inner.{full}
use Rattle.replay.specs.declared.Next.{Next}
use Rattle.replay.specs.declared.Next.TheVariants.{Going, End, Long, Cut, Full}
use Rattle.replay.proofs.Lengths.{length-figures}

-- ---- full, or the stop of the file

pub not-full : (next : Next) → (next ≡ Full → ⊥) → full next ≡ false
not-full Going h = refl
not-full End h = refl
not-full Long h = refl
not-full Cut h = refl
not-full Full h = absurd (h refl)

stop-not-full : (left : List ℕ) → full (stop_at left) ≡ false
unfolding stop_at
stop-not-full left =
    let Is : Next → Type 0 = λ x. full x ≡ false in
    pick-cases Is (eqb (length left) 0) _ _ (λ t. refl)
    (λ f. pick-cases Is (ltb (length left) 4) _ _ (λ t. refl) (λ g. pick-cases Is (ltb 8192 (size_of left)) _ _ (λ t. refl) (λ h. refl)))

file-not-full : (octets : List ℕ) → full (file_stop octets) ≡ false
unfolding file_stop
file-not-full octets = stop-not-full _

module _ (octets sheet : List ℕ) where
  by-room : {t : Bool} → all_counted sheet (records_of octets) ≡ t → replay_end octets sheet ≡ pick t (file_stop octets) Full
  unfolding replay_end
  by-room e = rw e refl

  room_of : (t : Bool) → all_counted sheet (records_of octets) ≡ t → full (replay_end octets sheet) ≡ false → t ≡ true
  room_of true e f = refl
  room_of false e f = no-yes true (sym (ap full (by-room e)) ∙ f) refl

  none_of : (t : Bool) → all_counted sheet (records_of octets) ≡ t → full (replay_end octets sheet) ≡ true → t ≡ false
  none_of true e f = no-yes (full (replay_end octets sheet)) (ap full (by-room e) ∙ file-not-full octets) f
  none_of false e f = refl

-- ---- what is shown

module _ (octets sheet : List ℕ) where
  abbrev value : ℕ × List ℕ
  value = (stop_number (file_stop octets), replay_figures octets sheet)

  pub wrong_size : {zeros : List ℕ} → zeros ≡ replicate 110 0 → (length sheet ≡ 110 → ⊥)
      → (refused 1 0 ≡ mapped stop_told (replay_answer octets sheet)) × (((0 ≡ taken_told octets sheet) × (zeros ≡ figures_handed octets sheet))
      × (sheet ≡ sheet_after octets sheet))
  unfolding replay_answer taken_told figures_handed
  wrong_size z h =
      let s = shows-refusal stop_told figures_told value sheet {ds = replay_demands octets sheet} (fails (ne_eqb (length sheet) 110 h)) in
      let none : replicate 110 0 ≡ figures_handed octets sheet = simp (ne_eqb (length sheet) 110 h) in
      (s.0, ((simp (ne_eqb (length sheet) 110 h), z ∙ none), s.1))

  module _ (long : length sheet ≡ 110) where
    pub wrong-sheet : {zeros : List ℕ} → zeros ≡ replicate 110 0 → marks_sound sheet ≡ false
        → (refused 2 0 ≡ mapped stop_told (replay_answer octets sheet)) × (((0 ≡ taken_told octets sheet) × (zeros ≡ figures_handed octets sheet))
        × (sheet ≡ sheet_after octets sheet))
    unfolding replay_answer taken_told figures_handed
    wrong-sheet z h =
        let s = shows-refusal stop_told figures_told value sheet {ds = replay_demands octets sheet} (later (eq-eqb (length sheet) 110 long) (fails h)) in
        let none : replicate 110 0 ≡ figures_handed octets sheet = simp (eq-eqb (length sheet) 110 long, h) in
        (s.0, ((simp (eq-eqb (length sheet) 110 long, h), z ∙ none), s.1))

    module _ (sound : marks_sound sheet ≡ true) {taken : ℕ} {next : Next} {figures : List ℕ} (t : taken ≡ taken_of octets sheet)
        (n : next ≡ replay_end octets sheet) (f : figures ≡ replay_figures octets sheet) where
      beside : (taken ≡ taken_told octets sheet) × (figures ≡ figures_handed octets sheet)
      unfolding taken_told figures_handed
      beside = (t ∙ simp (eq-eqb (length sheet) 110 long, sound), f ∙ simp (eq-eqb (length sheet) 110 long, sound))

      pub no_room : full next ≡ true
          → (refused 23 0 ≡ mapped stop_told (replay_answer octets sheet)) × (((taken ≡ taken_told octets sheet) × (figures ≡ figures_handed octets sheet))
          × (sheet ≡ sheet_after octets sheet))
      unfolding replay_answer
      no_room y =
          let c = none_of octets sheet (all_counted sheet (records_of octets)) refl (sym (ap full n) ∙ y) in
          let s = shows-refusal stop_told figures_told value sheet {ds = replay_demands octets sheet}
          (later (eq-eqb (length sheet) 110 long) (later sound (fails c))) in
          (s.0, (beside, s.1))

      pub has_room : full next ≡ false → {left : List ℕ} {stop : ℕ} → left ≡ figures → stop ≡ stop_number next
          → (accepted stop ≡ mapped stop_told (replay_answer octets sheet)) × (((taken ≡ taken_told octets sheet) × (figures ≡ figures_handed octets sheet))
          × (left ≡ sheet_after octets sheet))
      unfolding replay_answer
      has_room y {left} {stop} l m =
          let c = room_of octets sheet (all_counted sheet (records_of octets)) refl (sym (ap full n) ∙ y) in
          let e : stop ≡ stop_number (file_stop octets) = m ∙ ap stop_number (n ∙ by-room octets sheet c) in
          let s = shows-acceptance stop_told figures_told value sheet (replay_demands octets sheet) (eq-eqb (length sheet) 110 long & sound & c & tt)
          (length-figures octets sheet) (l ∙ f) in
          (ap accepted e ∙ s.0, (beside, s.1))

-- the whole answer from its parts
pub shows : (octets sheet : List ℕ) {a : Answer ℕ} {taken : ℕ} {figures left : List ℕ}
    → (a ≡ mapped stop_told (replay_answer octets sheet)) × (((taken ≡ taken_told octets sheet) × (figures ≡ figures_handed octets sheet))
    × (left ≡ sheet_after octets sheet))
    → ((a, taken, figures) ≡ replay_told octets sheet) × (left ≡ sheet_after octets sheet)
unfolding replay_told
shows octets sheet p = (rw (p.0, p.1.0.0, p.1.0.1) refl, p.1.1)
