-- What a replay leaves: figures of 32 bits, a sheet that is accepted again; on a refusal the sheet as it was, and beside
-- 23 the figures before the record. Going on from a saved sheet. Assumes nothing.
use mathlib.Core.Path.{◌≡◌, refl, sym, ap, ap₂, subst, ◌∙◌}
use mathlib.Core.Bool.{Bool, true, false, ◌&&◌}
use mathlib.Core.List.{List, [], ◌∷◌, ◌++◌}
use Prim.Native.Nat.{ℕ, zero, suc, ◌+◌, ◌^◌, ◌≤◌, ◌<◌}
use native.Mathlib.Omega.{arith}
use borrow.Author.Tests.{eq-eqb, eqb-true, le-leb}
use lib.Dec.{eqb, ltb, leb}
use lib.ListN.{length, get_or, drop, length-drop}
use Rattle.bits.specs.Pick.{pick}
use Rattle.bits.specs.Row.{Below}
use Rattle.bits.proofs.Tests.{pick-cases, both_true, no-yes}
use Rattle.answer.specs.Answer.{Answer, Answer.accepted, Answer.refused, after}
use Rattle.answer.specs.Demand.{◌&◌}
use Rattle.answer.specs.Demand.{Demand.asks, provided, Stops}
use Rattle.answer.specs.Demand.Stops.{fails, later}
use Rattle.answer.specs.Residue.{InPlace}
use Rattle.answer.proofs.Chains.{passing, met, stops, passes_on}
use Rattle.answer.proofs.Residues.{in_place}
use Rattle.records.specs.Head.{size_of}
use Rattle.replay.specs.File.{whole, rest_of, records_of, octets_in, stop_at, file_stop}
use Rattle.replay.specs.Packet.{entry_of}
use Rattle.replay.specs.Sheet.{line_start, seen_at, last_at, entry_changes, entered, group_sound, marks_sound}
use Rattle.replay.specs.Replay.{with_record, room_for, figures_after, records_counted, all_counted, replay_figures, taken_of, stop_number, replay_demands, replay_answer, figures_told, sheet_after, taken_told, figures_handed}
use Rattle.replay.specs.Counts.{offered_to}
use Rattle.replay.specs.Inner.{ProperEntry}
use Rattle.replay.specs.declared.Entry.{Entry}
use Rattle.replay.specs.declared.Entry.TheVariants.{Passed, Data, Control, Refused}
use Rattle.replay.specs.declared.Next.{Next}
use Rattle.replay.proofs.Files.{test-cases, whole_is, rest-shorter, records-none}
use Rattle.replay.proofs.Lengths.{length-written, length-after, length-figures}
use Rattle.replay.proofs.Entries.{entry-proper}
use Rattle.replay.proofs.Places.{Beside, beside_same, there-in, written_below}
use Rattle.replay.proofs.Groups.{other-beside}
use Rattle.replay.proofs.Cuts.{AllRecords, octets-one, records-both, figures-on, taken-on, room-on, stop-on}

-- ---- the figures fit 32 bits always

below-after : (rs : List (List ℕ)) (sheet : List ℕ) → Below (2 ^ 32) sheet → Below (2 ^ 32) (figures_after sheet (records_counted sheet rs))
unfolding figures_after records_counted
below-after [] sheet b = b
below-after (r ∷ rs) sheet b =
    test-cases (room_for sheet r)
    (λ t. rw t (below-after rs (with_record sheet r) (written_below (entry_changes (entry_of r) sheet) sheet t b)))
    (λ f. rw f b)

pub figures-fit : (octets sheet : List ℕ) → Below (2 ^ 32) sheet → Below (2 ^ 32) (replay_figures octets sheet)
unfolding replay_figures
figures-fit octets sheet b = below-after (records_of octets) sheet b

-- ---- a sheet that is accepted stays one

abbrev reads_data : Entry → Bool
reads_data Passed = false
reads_data (Data h lanes dbn) = true
reads_data (Control h) = false
reads_data (Refused h lanes n) = false

all-four : (a b c d : Bool) → a ≡ true → b ≡ true → c ≡ true → d ≡ true → (a && b && c && d) ≡ true
all-four a b c d e f g h = rw (e, f, g, h) refl

-- by its two figures
abbrev marks : ℕ → ℕ → Bool
marks seen last = pick (eqb seen 0) (eqb last 0) (eqb seen 1 && leb last 255)

module _ (group : ℕ) (some : 1 ≤ group) (few : group ≤ 4) (sheet : List ℕ) (long : length sheet ≡ 110) where
  -- the last two figures but one are a data packet's alone
  quiet : (e : Entry) (j : ℕ) → 20 ≤ j → j < 22 → ProperEntry e → reads_data e ≡ false → Beside (line_start group + j) (entry_changes e sheet)
  unfolding entry_changes
  quiet Passed j l m p f = tt
  quiet (Data h lanes dbn) j l m p f = no-yes true f refl
  quiet (Control h) j l m p f = (λ e. absurd (omega (arith, p.0, p.1))) & tt
  quiet (Refused h lanes n) j l m p f =
      pick-cases (Beside (line_start group + j)) (eqb h 0) _ _ (λ t. (λ e. absurd (omega (arith, p.1))) & tt)
      (λ z. (λ e. absurd (omega (arith, p.0))) & (λ e. absurd (omega (arith, p.0, p.1))) & tt)

  same-marks : (e : Entry) → ((j : ℕ) → 20 ≤ j → j < 22 → Beside (line_start group + j) (entry_changes e sheet))
      → group_sound sheet group ≡ true → group_sound (entered e sheet) group ≡ true
  same-marks e b s =
      ap₂ marks (beside_same (seen_at group) (entry_changes e sheet) sheet (b 20 (omega arith) (omega arith)))
      (beside_same (last_at group) (entry_changes e sheet) sheet (b 21 (omega arith) (omega arith)))
      ∙ s

  seen-is : (lanes dbn : ℕ) → get_or (entered (Data group lanes dbn) sheet) (seen_at group) 0 ≡ 1
  unfolding entry_changes
  seen-is lanes dbn = there-in (_ ∷ _ ∷ _ ∷ []) (seen_at group) 1 _ sheet (omega arith) ((λ e. absurd (omega arith)) & tt)

  last-is : (lanes dbn : ℕ) → get_or (entered (Data group lanes dbn) sheet) (last_at group) 0 ≡ dbn
  unfolding entry_changes
  last-is lanes dbn = there-in (_ ∷ _ ∷ _ ∷ _ ∷ []) (last_at group) dbn _ sheet (omega arith) tt

  data-marks : (lanes dbn : ℕ) → dbn ≤ 255 → group_sound (entered (Data group lanes dbn) sheet) group ≡ true
  data-marks lanes dbn h = ap₂ marks (seen-is lanes dbn) (last-is lanes dbn) ∙ le-leb dbn 255 h

  own-kept : (e : Entry) → ProperEntry e → offered_to group e ≡ true → group_sound sheet group ≡ true → group_sound (entered e sheet) group ≡ true
  own-kept Passed p t s = no-yes false refl t
  own-kept (Data h lanes dbn) p t s =
      subst (λ (g : ℕ). group_sound (entered (Data g lanes dbn) sheet) group ≡ true) (sym (eqb-true h group t)) (data-marks lanes dbn p.2)
  own-kept (Control h) p t s = same-marks (Control h) (λ j l m. quiet (Control h) j l m p refl) s
  own-kept (Refused h lanes n) p t s = same-marks (Refused h lanes n) (λ j l m. quiet (Refused h lanes n) j l m p refl) s

  line_kept : (e : Entry) → ProperEntry e → group_sound sheet group ≡ true → group_sound (entered e sheet) group ≡ true
  line_kept e p s =
      test-cases (offered_to group e) (λ t. own-kept e p t s)
      (λ f. same-marks e (λ j l m. other-beside group some few e sheet j p f (omega arith)) s)

entry_kept : (sheet : List ℕ) (e : Entry) → length sheet ≡ 110 → ProperEntry e → marks_sound sheet ≡ true → marks_sound (entered e sheet) ≡ true
unfolding marks_sound
entry_kept sheet e long p s =
    let x = both_true (group_sound sheet 1 && group_sound sheet 2 && group_sound sheet 3) (group_sound sheet 4) s in
    let y = both_true (group_sound sheet 1 && group_sound sheet 2) (group_sound sheet 3) x.0 in
    let z = both_true (group_sound sheet 1) (group_sound sheet 2) y.0 in
    all-four (group_sound (entered e sheet) 1) (group_sound (entered e sheet) 2) (group_sound (entered e sheet) 3) (group_sound (entered e sheet) 4)
    (line_kept 1 (omega arith) (omega arith) sheet long e p z.0) (line_kept 2 (omega arith) (omega arith) sheet long e p z.1)
    (line_kept 3 (omega arith) (omega arith) sheet long e p y.1) (line_kept 4 (omega arith) (omega arith) sheet long e p x.1)

sound-after : (rs : List (List ℕ)) (sheet : List ℕ) → length sheet ≡ 110 → marks_sound sheet ≡ true → marks_sound (figures_after sheet rs) ≡ true
unfolding figures_after
sound-after [] sheet long s = s
sound-after (r ∷ rs) sheet long s =
    sound-after rs (with_record sheet r) (length-written (entry_changes (entry_of r) sheet) sheet ∙ long) (entry_kept sheet (entry_of r) long (entry-proper r) s)

-- the figures of a replay are a sheet to go on from
pub figures-sound : (octets sheet : List ℕ) → length sheet ≡ 110 → marks_sound sheet ≡ true
    → (length (replay_figures octets sheet) ≡ 110) × (marks_sound (replay_figures octets sheet) ≡ true)
unfolding replay_figures
figures-sound octets sheet long s =
    (length-after sheet (records_counted sheet (records_of octets)) ∙ long, sound-after (records_counted sheet (records_of octets)) sheet long s)

-- ---- 23: the figures are those before the first record without room, and the lent sheet stays

pub record FullAt (sheet : List ℕ) (rs : List (List ℕ)) : Type 0 where
  pub first : List ℕ
  pub others : List (List ℕ)
  pub split : rs ≡ records_counted sheet rs ++ (first ∷ others)
  pub none : room_for (figures_after sheet (records_counted sheet rs)) first ≡ false

full_at : (sheet : List ℕ) (rs : List (List ℕ)) → all_counted sheet rs ≡ false → FullAt sheet rs
unfolding records_counted all_counted figures_after
full_at sheet [] e = no-yes true e refl
full_at sheet (r ∷ rs) e =
    test-cases (room_for sheet r)
    (λ t. let f = full_at (with_record sheet r) rs (rw t at e) in
    record {
      first = f.first;
      others = f.others;
      split = rw t (ap (λ (x : List (List ℕ)). r ∷ x) f.split);
      none = rw t f.none;
    })
    (λ f. record { first = r; others = rs; split = rw f refl; none = rw f f })

-- what 23 says of the demands
full-of : (octets sheet : List ℕ) → Stops (replay_demands octets sheet) 23 0
    → (length sheet ≡ 110) × (marks_sound sheet ≡ true) × (all_counted sheet (records_of octets) ≡ false)
full-of octets sheet (later m (later n (fails f))) = (eqb-true (length sheet) 110 m, n, f)
full-of octets sheet (later m (later n (later _ x20))) = elim x20 [ ]

pub full-hands-back : (octets sheet : List ℕ) → replay_answer octets sheet ≡ refused 23 0
    → FullAt sheet (records_of octets) × (figures_handed octets sheet ≡ figures_after sheet (records_counted sheet (records_of octets)))
    × (taken_told octets sheet ≡ octets_in (records_counted sheet (records_of octets))) × (sheet_after octets sheet ≡ sheet)
unfolding replay_answer figures_handed taken_told replay_figures taken_of
full-hands-back octets sheet e =
    let f = full-of octets sheet (stops (stop_number (file_stop octets), replay_figures octets sheet) (replay_demands octets sheet) 23 0 e) in (
      full_at sheet (records_of octets) f.2,
      simp (eq-eqb (length sheet) 110 f.0, f.1),
      simp (eq-eqb (length sheet) 110 f.0, f.1),
      ap (λ (a : Answer (ℕ × List ℕ)). after figures_told a sheet) e,
    )

-- on any refusal the sheet stays
pub refused-leaves : (octets sheet : List ℕ) (number place : ℕ) → replay_answer octets sheet ≡ refused number place → sheet_after octets sheet ≡ sheet
refused-leaves octets sheet number place e = ap (λ (a : Answer (ℕ × List ℕ)). after figures_told a sheet) e

-- ---- gone on from the saved figures

stop-zero : (left : List ℕ) → stop_number (stop_at left) ≡ 0 → length left ≡ 0
unfolding stop_at
stop-zero left =
    let Is : Next → Type 0 = λ x. stop_number x ≡ 0 → length left ≡ 0 in
    pick-cases Is (eqb (length left) 0) _ _ (λ t e. eqb-true (length left) 0 t)
    (λ f. pick-cases Is (ltb (length left) 4) _ _ (λ t e. absurd (omega (arith, e)))
    (λ g. pick-cases Is (ltb 8192 (size_of left)) _ _ (λ t e. absurd (omega (arith, e))) (λ h e. absurd (omega (arith, e)))))

octets-none : octets_in [] ≡ 0
unfolding octets_in
octets-none = refl

octets-most : (n : ℕ) (a : List ℕ) → length a ≤ n → octets_in (records_of a) ≤ length a
octets-most zero a h =
    test-cases (whole a) (λ t. absurd (omega (arith, (whole_is a t).headed))) (λ f. omega (arith, ap octets_in (records-none a f), octets-none))
octets-most (suc n) a h =
    test-cases (whole a)
    (λ t. let w = whole_is a t in
    omega (arith, octets-one a t, octets-most n (rest_of a) (omega (arith, rest-shorter a w)), length-drop (4 + size_of a) a, w.room))
    (λ f. omega (arith, ap octets_in (records-none a f), octets-none))

-- a file that stops at its end is whole records
ends-all : (a : List ℕ) → stop_number (file_stop a) ≡ 0 → AllRecords a
unfolding file_stop
ends-all a e =
    let z = stop-zero (drop (octets_in (records_of a)) a) e in
    omega (arith, z, length-drop (octets_in (records_of a)) a, octets-most (length a) a (omega arith))

-- where length and marks are right, 23 alone is asked
room-alone : (octets sheet : List ℕ) → length sheet ≡ 110 → marks_sound sheet ≡ true → replay_answer octets sheet
    ≡ provided (asks 23 0 (all_counted sheet (records_of octets)) ∷ []) (accepted (stop_number (file_stop octets), replay_figures octets sheet))
unfolding replay_answer
room-alone octets sheet long sound =
    passes_on (accepted (stop_number (file_stop octets), replay_figures octets sheet)) (asks 1 0 (eqb (length sheet) 110) ∷ asks 2 0 (marks_sound sheet) ∷ [])
    (asks 23 0 (all_counted sheet (records_of octets)) ∷ []) (eq-eqb (length sheet) 110 long & sound & tt)

told-by : (octets sheet : List ℕ) → length sheet ≡ 110 → marks_sound sheet ≡ true
    → (figures_handed octets sheet ≡ replay_figures octets sheet) × (taken_told octets sheet ≡ taken_of octets sheet)
unfolding figures_handed taken_told
told-by octets sheet long sound = (simp (eq-eqb (length sheet) 110 long, sound), simp (eq-eqb (length sheet) 110 long, sound))

-- what acceptance says
record Accepts (octets sheet : List ℕ) (stop : ℕ) (figures : List ℕ) : Type 0 where
  long : length sheet ≡ 110
  sound : marks_sound sheet ≡ true
  room : all_counted sheet (records_of octets) ≡ true
  stops_as : stop_number (file_stop octets) ≡ stop
  gives : replay_figures octets sheet ≡ figures

accepts : (octets sheet : List ℕ) (v : ℕ × List ℕ) → replay_answer octets sheet ≡ accepted v → Accepts octets sheet v.0 v.1
unfolding replay_answer
accepts octets sheet v e =
    let m = met (stop_number (file_stop octets), replay_figures octets sheet) (replay_demands octets sheet) e in
    record {
      long = eqb-true (length sheet) 110 m.0.0;
      sound = m.0.1.0;
      room = m.0.1.1.0;
      stops_as = ap (λ (x : ℕ × List ℕ). x.0) m.1;
      gives = ap (λ (x : ℕ × List ℕ). x.1) m.1;
    }

-- the first part is accepted and stops at its end: the rest from its figures is the whole
module _ (a b sheet figures : List ℕ) (e : replay_answer a sheet ≡ accepted (0, figures)) where
  first : Accepts a sheet 0 figures
  first = accepts a sheet (0, figures) e

  all-records : AllRecords a
  all-records = ends-all a first.stops_as

  still : (length figures ≡ 110) × (marks_sound figures ≡ true)
  still =
      subst (λ (f : List ℕ). (length f ≡ 110) × (marks_sound f ≡ true)) first.gives (figures-sound a sheet first.long first.sound)

  figures-same : replay_figures (a ++ b) sheet ≡ replay_figures b figures
  figures-same = figures-on a b sheet all-records first.room ∙ ap (replay_figures b) first.gives

  pub goes_on : replay_answer (a ++ b) sheet ≡ replay_answer b figures
  goes_on =
      room-alone (a ++ b) sheet first.long first.sound
      ∙ ap₂ (λ (t : Bool) (v : ℕ × List ℕ). provided (asks 23 0 t ∷ []) (accepted v))
      (room-on a b sheet all-records first.room ∙ ap (λ (f : List ℕ). all_counted f (records_of b)) first.gives)
      (ap₂ (λ (n : ℕ) (f : List ℕ). (n, f)) (ap stop_number (stop-on a b sheet all-records first.room)) figures-same)
      ∙ sym (room-alone b figures still.0 still.1)

  -- and beside the answer
  pub goes-on-figures : figures_handed (a ++ b) sheet ≡ figures_handed b figures
  goes-on-figures = (told-by (a ++ b) sheet first.long first.sound).0 ∙ figures-same ∙ sym (told-by b figures still.0 still.1).0

  pub goes-on-taken : taken_told (a ++ b) sheet ≡ length a + taken_told b figures
  goes-on-taken =
      (told-by (a ++ b) sheet first.long first.sound).1 ∙ taken-on a b sheet all-records first.room
      ∙ ap (λ (f : List ℕ). length a + taken_of b f) first.gives
      ∙ ap (λ (n : ℕ). length a + n) (sym (told-by b figures still.0 still.1).1)

-- where not all of some records are counted, no record after them is, and fewer octets than they take
stuck : (s : List ℕ) (rs qs : List (List ℕ)) → all_counted s rs ≡ false → octets_in (records_counted s (rs ++ qs)) < octets_in rs
unfolding records_counted all_counted octets_in
stuck s [] qs e = no-yes true e refl
stuck s (r ∷ rs) qs e =
    test-cases (room_for s r) (λ t. rw t (let l = stuck (with_record s r) rs qs (rw t at e) in omega (arith, l))) (λ f. rw f (omega arith))

all_room : (a b sheet : List ℕ) → AllRecords a → length a ≤ taken_of (a ++ b) sheet → all_counted sheet (records_of a) ≡ true
unfolding taken_of
all_room a b sheet w l =
    test-cases (all_counted sheet (records_of a)) (λ t. t)
    (λ f. absurd (omega (
      arith,
      stuck sheet (records_of a) (records_of b) f,
      w,
      ap (λ (rs : List (List ℕ)). octets_in (records_counted sheet rs)) (records-both a b w),
    )))

-- and any file of whole records that the replay of the whole counts is such a first part
pub cut-accepted : (a b sheet : List ℕ) → AllRecords a → stop_number (file_stop a) ≡ 0 → length sheet ≡ 110 → marks_sound sheet ≡ true
    → length a ≤ taken_of (a ++ b) sheet → replay_answer a sheet ≡ accepted (0, replay_figures a sheet)
unfolding replay_answer
cut-accepted a b sheet w z long sound l =
    passing (accepted (stop_number (file_stop a), replay_figures a sheet)) (replay_demands a sheet)
    (eq-eqb (length sheet) 110 long & sound & all_room a b sheet w l & tt)
    ∙ ap (λ (n : ℕ). accepted (n, replay_figures a sheet)) z

-- ---- the sheet is input and output: on acceptance all of its figures are those of the replay, on a refusal all stay

pub replay-leaves : (octets : List ℕ)
    → InPlace 0 (λ sheet k. true) (λ sheet k. get_or (replay_figures octets sheet) k 0) (λ sheet. replay_answer octets sheet) (λ sheet. sheet_after octets sheet)
replay-leaves octets =
    in_place figures_told 0 (λ sheet k. true) (λ sheet k. get_or (replay_figures octets sheet) k 0) (λ sheet. replay_answer octets sheet)
    (λ a v e. sym (ap length (accepts octets a v e).gives) ∙ length-figures octets a)
    (λ a v e k h. ap (λ (l : List ℕ). get_or l k 0) (sym (accepts octets a v e).gives))
