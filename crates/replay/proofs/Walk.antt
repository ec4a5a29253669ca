-- A replay record by record, as a program goes that reads a header and the octets after it: each turn takes the record
-- that stands first, or stops where the definition stops. Assumes nothing.
use mathlib.Core.Path.{◌≡◌, refl, sym, ap, ap₂, ◌∙◌}
use mathlib.Core.Logic.{⊎_elim}
use mathlib.Core.Bool.{true, false}
use mathlib.Core.List.{List}
use Prim.Native.Nat.{ℕ, zero, suc, ◌+◌, ◌-◌, ◌≤◌, ◌<◌, min}
use native.Mathlib.Nat.{zero-add}
use native.Mathlib.Omega.{arith}
use borrow.Author.Tests.{eqb-true, eqb-false, ltb-true, ltb-false}
use lib.Dec.{eqb, ltb}
use lib.ListN.{length, take, drop, length-drop}
use lib.Seq.{length-take-le, drop-drop}
use Rattle.bits.specs.Pick.{pick}
use Rattle.bits.proofs.Tests.{pick-cases, no-yes, order}
use Rattle.records.specs.Head.{size_of, body_size}
use Rattle.records.proofs.HeadLaws.{read_all, size-front, turn-empty, turn-header, turn-long, turn-cut, turn-record}
use Rattle.records.proofs.RecordLaws.{to_the_end}
use Rattle.replay.specs.File.{whole, record_first, rest_of, octets_in, stop_at, file_stop}
use Rattle.replay.specs.Replay.{with_record, figures_after, room_for, records_counted, all_counted, taken_of, replay_figures, replay_end, next_of, sheet_for, sheet_stepped}
use Rattle.replay.specs.Inner.{goes}
use Rattle.replay.specs.declared.Next.{Next}
use Rattle.replay.specs.declared.Next.TheVariants.{Going, End, Long, Cut, Full}
use Rattle.replay.proofs.Files.{test-cases, Whole, whole_is, is_whole, first-long, records-none, records-one, stop-here, stop-later}
use Rattle.replay.proofs.Steps.{next-by, stepped_by}

-- ---- what is taken, the figures and the end, of octets with no whole record first, and with one

-- the three together
abbrev Comes : List ℕ → List ℕ → ℕ → List ℕ → Next → Type 0
Comes input sheet taken figures end = (taken_of input sheet ≡ taken) × (replay_figures input sheet ≡ figures) × (replay_end input sheet ≡ end)

module _ (input sheet : List ℕ) where
  none-comes : whole input ≡ false → Comes input sheet 0 sheet (stop_at input)
  unfolding taken_of replay_figures replay_end records_counted all_counted figures_after octets_in
  none-comes f =
      let e = records-none input f in (
        ap (λ (rs : List (List ℕ)). octets_in (records_counted sheet rs)) e,
        ap (λ (rs : List (List ℕ)). figures_after sheet (records_counted sheet rs)) e,
        ap (λ (rs : List (List ℕ)). pick (all_counted sheet rs) (file_stop input) Full) e ∙ stop-here input f,
      )

  module _ (t : whole input ≡ true) where
    one-comes : room_for sheet (record_first input) ≡ true
        → Comes input sheet (4 + size_of input + taken_of (rest_of input) (with_record sheet (record_first input)))
        (replay_figures (rest_of input) (with_record sheet (record_first input))) (replay_end (rest_of input) (with_record sheet (record_first input)))
    unfolding taken_of replay_figures replay_end records_counted all_counted figures_after octets_in
    one-comes y =
        let e = records-one input t in (
          ap (λ (rs : List (List ℕ)). octets_in (records_counted sheet rs)) e ∙ rw (y, first-long input (whole_is input t)) refl,
          ap (λ (rs : List (List ℕ)). figures_after sheet (records_counted sheet rs)) e ∙ rw y refl,
          ap (λ (rs : List (List ℕ)). pick (all_counted sheet rs) (file_stop input) Full) e ∙ rw (y, stop-later input t) refl,
        )

    full-comes : room_for sheet (record_first input) ≡ false → Comes input sheet 0 sheet Full
    unfolding taken_of replay_figures replay_end records_counted all_counted figures_after octets_in
    full-comes n =
        let e = records-one input t in (
          ap (λ (rs : List (List ℕ)). octets_in (records_counted sheet rs)) e ∙ rw n refl,
          ap (λ (rs : List (List ℕ)). figures_after sheet (records_counted sheet rs)) e ∙ rw n refl,
          ap (λ (rs : List (List ℕ)). pick (all_counted sheet rs) (file_stop input) Full) e ∙ rw n refl,
        )

-- ---- how it stands after the octets that are read

module _ (input sheet : List ℕ) {got size had : ℕ} (g : got ≡ min 4 (length input)) (s : size ≡ body_size (take got input))
    (h : had ≡ min size (length input - got)) where
  abbrev head : List ℕ
  head = take got input

  abbrev body : List ℕ
  body = take had (drop got input)

  head-long : length head ≡ got
  head-long = length-take-le got input (omega arith)

  body-long : length body ≡ had
  body-long = length-take-le had (drop got input) (omega (arith, length-drop got input))

  never : ◌≡◌ {A = ℕ} 0 18446744073709551615 → ⊥
  never e = absurd (omega arith)

  module _ (headed : 4 ≤ length input) where
    four : got ≡ 4
    four = omega arith

    some : length head ≡ 0 → ⊥
    some e = absurd (omega (arith, head-long))

    size_same : size_of input ≡ size_of head
    size_same = sym (ap (λ (k : ℕ). size_of (take k input)) four ∙ size-front input)

    read-size : size_of input ≤ 8192 → size ≡ size_of input
    read-size short = s ∙ read_all head (omega (arith, head-long)) size_same short

  not-whole : whole input ≡ false → 4 ≤ length input → size_of input ≤ 8192 → length input < 4 + size_of input
  not-whole f a b =
      ⊎_elim (λ (r : 4 + size_of input ≤ length input). no-yes (whole input) f (is_whole input (record { headed = a; short = b; room = r })))
      (λ (r : length input < 4 + size_of input). r) (order (4 + size_of input) (length input))

  stop-next : whole input ≡ false → next_of sheet head body ≡ stop_at input
  unfolding stop_at
  stop-next f =
      let Is : Next → Type 0 = λ x. next_of sheet head body ≡ x in
      pick-cases Is (eqb (length input) 0) _ _
      (λ t. next-by sheet head body (turn-empty 0 head (length body) (omega (arith, head-long, eqb-true (length input) 0 t))))
      (λ u. let less = eqb-false (length input) 0 u in
      let some' : length head ≡ 0 → ⊥ = λ e. less (omega (arith, head-long)) in
      pick-cases Is (ltb (length input) 4) _ _
      (λ t. next-by sheet head body (turn-header 0 head (length body) some' never (omega (arith, head-long, ltb-true (length input) 4 t))))
      (λ v. let headed = ltb-false (length input) 4 v in
      let long = head-long in
      pick-cases Is (ltb 8192 (size_of input)) _ _
      (λ t. next-by sheet head body (turn-long 0 head (length body) some' never (omega arith) (size_same headed) (ltb-true 8192 (size_of input) t)))
      (λ w. let short = ltb-false 8192 (size_of input) w in
      let cut : length input < 4 + size_of input = not-whole f headed short in
      next-by sheet head body (turn-cut 0 head (length body) some' never (omega arith) (size_same headed) short
      (omega (arith, body-long, read-size headed short, four headed))))))

  module _ (t : whole input ≡ true) where
    w : Whole input
    w = whole_is input t

    all-had : had ≡ size_of input
    all-had = omega (arith, w.room, read-size w.headed w.short, four w.headed)

    body_is : body ≡ record_first input
    body_is = ap₂ (λ (n k : ℕ). take n (drop k input)) all-had (four w.headed)

    whole-next : next_of sheet head body ≡ pick (room_for sheet (record_first input)) Going Full
    whole-next =
        next-by sheet head body (turn-record 0 head (length body) (some w.headed) never (omega (arith, head-long, four w.headed))
        (size_same w.headed) w.short (omega (arith, body-long, all-had)))
        ∙ ap (λ (r : List ℕ). pick (room_for sheet r) Going Full) body_is

-- ---- a turn

pub record Walked (input sheet : List ℕ) (next : Next) (end : ℕ) (after : List ℕ) : Type 0 where
  pub on : next ≡ Going → (taken_of input sheet ≡ end + taken_of (drop end input) after) × (replay_figures input sheet ≡ replay_figures (drop end input) after)
      × (replay_end input sheet ≡ replay_end (drop end input) after) × (4 ≤ end) × (end ≤ length input)
  pub ends : goes next ≡ false → (taken_of input sheet ≡ 0) × (replay_figures input sheet ≡ after) × (replay_end input sheet ≡ next)

-- a stop never goes on, and leaves the sheet
stop-ends : (left : List ℕ) → goes (stop_at left) ≡ false
unfolding stop_at
stop-ends left =
    let Is : Next → Type 0 = λ x. goes x ≡ false in
    pick-cases Is (eqb (length left) 0) _ _ (λ t. refl)
    (λ f. pick-cases Is (ltb (length left) 4) _ _ (λ t. refl) (λ g. pick-cases Is (ltb 8192 (size_of left)) _ _ (λ t. refl) (λ h. refl)))

stop-keeps : (x : Next) (old new : List ℕ) → goes x ≡ false → sheet_for x old new ≡ old
stop-keeps Going old new e = no-yes true e refl
stop-keeps End old new e = refl
stop-keeps Long old new e = refl
stop-keeps Cut old new e = refl
stop-keeps Full old new e = refl

module _ (input sheet : List ℕ) {got size had : ℕ} {next : Next} {after : List ℕ} (g : got ≡ min 4 (length input)) (s : size ≡ body_size (take got input))
    (h : had ≡ min size (length input - got)) (n : next ≡ next_of sheet (take got input) (take had (drop got input)))
    (a : after ≡ sheet_stepped sheet (take got input) (take had (drop got input))) where
  -- how it stops, with the sheet as it was
  stops_as : {x : Next} → next_of sheet (take got input) (take had (drop got input)) ≡ x → goes x ≡ false → Comes input sheet 0 sheet x
      → Walked input sheet next (got + had) after
  stops_as {x} e f c =
      let old : after ≡ sheet = a ∙ stepped_by sheet (take got input) (take had (drop got input)) e ∙ stop-keeps x sheet _ f in
      record {
        on = λ y. no-yes (goes x) f (ap goes (sym e ∙ sym n ∙ y));
        ends = λ y. (c.0, c.1 ∙ sym old, c.2 ∙ sym (n ∙ e));
      }

  counts-as : whole input ≡ true → room_for sheet (record_first input) ≡ true → Walked input sheet next (got + had) after
  counts-as t y =
      let v = whole_is input t in
      let c = one-comes input sheet t y in
      let e : next_of sheet (take got input) (take had (drop got input)) ≡ Going = whole-next input sheet g s h t ∙ rw y refl in
      let k : got + had ≡ 4 + size_of input = omega (arith, all-had input sheet g s h t, four input sheet g s h v.headed) in
      let new : after ≡ with_record sheet (record_first input) =
      a ∙ stepped_by sheet (take got input) (take had (drop got input)) e ∙ ap (with_record sheet) (body_is input sheet g s h t) in
      record {
        on = λ z. (
          c.0 ∙ sym (ap₂ (λ (m : ℕ) (l : List ℕ). m + taken_of (drop m input) l) k new),
          c.1 ∙ sym (ap₂ (λ (m : ℕ) (l : List ℕ). replay_figures (drop m input) l) k new),
          c.2 ∙ sym (ap₂ (λ (m : ℕ) (l : List ℕ). replay_end (drop m input) l) k new),
          omega (arith, k),
          omega (arith, k, v.room),
        );
        ends = λ z. no-yes true (sym (ap goes (n ∙ e)) ∙ z) refl;
      }

  pub walked : Walked input sheet next (got + had) after
  walked =
      test-cases (whole input)
      (λ t. test-cases (room_for sheet (record_first input)) (counts-as t)
      (λ f. stops_as (whole-next input sheet g s h t ∙ rw f refl) refl (full-comes input sheet t f)))
      (λ f. stops_as (stop-next input sheet g s h f) (stop-ends input) (none-comes input sheet f))

goes-is : (x : Next) → goes x ≡ true → x ≡ Going
goes-is Going e = refl
goes-is End e = no-yes false refl e
goes-is Long e = no-yes false refl e
goes-is Cut e = no-yes false refl e
goes-is Full e = no-yes false refl e

-- any other than `Going` ends it
pub not-going : (next : Next) → (next ≡ Going → ⊥) → goes next ≡ false
not-going Going h = absurd (h refl)
not-going End h = refl
not-going Long h = refl
not-going Cut h = refl
not-going Full h = refl

-- ---- the whole, as a program goes that reads a stream

-- the octets of a header that there are, and those that there are of what is to be read after it
abbrev pub head_read : List ℕ → List ℕ
head_read input = take (min 4 (length input)) input

abbrev pub body_count : List ℕ → ℕ
body_count input = min (body_size (head_read input)) (length input - min 4 (length input))

abbrev pub body_read : List ℕ → List ℕ
body_read input = take (body_count input) (drop (min 4 (length input)) input)

-- on, or an end
abbrev pub going_on : Next → List ℕ × Next → List ℕ × Next → List ℕ × Next
going_on Going on end = on
going_on End on end = end
going_on Long on end = end
going_on Cut on end = end
going_on Full on end = end

-- the figures and the end of a program that reads a header and the octets after it, takes the step of both, and goes on
-- with what is left; at most so many steps
unfoldable pub walked_night : ℕ → List ℕ → List ℕ → List ℕ × Next
walked_night zero sheet input = (sheet, End)
walked_night (suc most) sheet input =
    going_on (next_of sheet (head_read input) (body_read input))
    (walked_night most (sheet_stepped sheet (head_read input) (body_read input)) (drop (min 4 (length input) + body_count input) input))
    (sheet_stepped sheet (head_read input) (body_read input), next_of sheet (head_read input) (body_read input))

goes-on-by : (x : Next) (on end : List ℕ × Next) → goes x ≡ true → going_on x on end ≡ on
goes-on-by Going on end e = refl
goes-on-by End on end e = no-yes false refl e
goes-on-by Long on end e = no-yes false refl e
goes-on-by Cut on end e = no-yes false refl e
goes-on-by Full on end e = no-yes false refl e

ends_by : (x : Next) (on end : List ℕ × Next) → goes x ≡ false → going_on x on end ≡ end
ends_by Going on end e = no-yes true e refl
ends_by End on end e = refl
ends_by Long on end e = refl
ends_by Cut on end e = refl
ends_by Full on end e = refl

-- more steps than octets are enough
pub walked-night-is : (most : ℕ) (sheet input : List ℕ) → length input < most
    → walked_night most sheet input ≡ (replay_figures input sheet, replay_end input sheet)
unfolding walked_night
walked-night-is zero sheet input h = absurd (omega arith)
walked-night-is (suc most) sheet input h =
    let next = next_of sheet (head_read input) (body_read input) in
    let w = walked input sheet refl refl refl refl refl in
    test-cases (goes next)
    (λ t. let o = w.on (goes-is next t) in
    goes-on-by next _ _ t
    ∙ walked-night-is most (sheet_stepped sheet (head_read input) (body_read input)) (drop (min 4 (length input) + body_count input) input)
    (omega (arith, o.3, o.4, length-drop (min 4 (length input) + body_count input) input))
    ∙ ap₂ (λ (f : List ℕ) (x : Next). (f, x)) (sym o.1) (sym o.2))
    (λ f. let o = w.ends f in
    ends_by next _ _ f ∙ ap₂ (λ (s : List ℕ) (x : Next). (s, x)) (sym o.1) (sym o.2))

-- ---- the same at a place of a file

less-again : (a b : ℕ) → a + b - a ≡ b
less-again a b = omega arith

module _ (octets first : List ℕ) where
  -- what is still to come, from a place and a sheet, makes up the whole
  pub record Ahead (at : ℕ) (sheet : List ℕ) : Type 0 where
    pub taken : taken_of octets first ≡ at + taken_of (drop at octets) sheet
    pub figures : replay_figures octets first ≡ replay_figures (drop at octets) sheet
    pub end : replay_end octets first ≡ replay_end (drop at octets) sheet

  pub ahead-first : Ahead 0 first
  ahead-first = record { taken = sym (zero-add (taken_of octets first)); figures = refl; end = refl }

  module _ (sheet : List ℕ) {at got size had : ℕ} {next : Next} {after : List ℕ} (l : at ≤ length octets) (g : got ≡ min 4 (length (take (length octets - at) (drop at octets))))
      (s : size ≡ body_size (take got (take (length octets - at) (drop at octets)))) (h : had ≡ min size (length (take (length octets - at) (drop at octets)) - got))
      (n : next ≡ next_of sheet (take got (take (length octets - at) (drop at octets)))
      (take (got + had - got) (drop got (take (length octets - at) (drop at octets)))))
      (a : after ≡ sheet_stepped sheet (take got (take (length octets - at) (drop at octets)))
      (take (got + had - got) (drop got (take (length octets - at) (drop at octets))))) (i : Ahead at sheet) where
    here : Walked (drop at octets) sheet next (got + had) after
    here =
        let e = to_the_end at octets in
        let m = less-again got had in
        walked (drop at octets) sheet (rw e at g) (rw e at s) (rw e at h) (rw (e, m) at n) (rw (e, m) at a)

    pub ahead-on : next ≡ Going → Ahead (at + (got + had)) after × (4 ≤ got + had) × (at + (got + had) ≤ length octets)
    ahead-on y =
        let o = here.on y in
        let e = drop-drop (got + had) at octets in (
          record {
            taken = i.taken ∙ ap (λ (k : ℕ). at + k) (o.0 ∙ ap (λ (r : List ℕ). got + had + taken_of r after) e) ∙ omega arith;
            figures = i.figures ∙ o.1 ∙ ap (λ (r : List ℕ). replay_figures r after) e;
            end = i.end ∙ o.2 ∙ ap (λ (r : List ℕ). replay_end r after) e;
          },
          o.3,
          omega (arith, o.3, o.4, length-drop at octets),
        )

    pub ahead-ends : goes next ≡ false → (at ≡ taken_of octets first) × (next ≡ replay_end octets first) × (after ≡ replay_figures octets first)
    ahead-ends y =
        let o = here.ends y in
        (omega (arith, i.taken, o.0), sym (i.end ∙ o.2), sym (i.figures ∙ o.1))
