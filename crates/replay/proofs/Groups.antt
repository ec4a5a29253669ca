-- Groups do not affect each other: a group's line after some records is a matter of its own packets alone. Assumes
-- nothing.
use mathlib.Core.Path.{◌≡◌, refl, sym, ap, ◌∙◌}
use mathlib.Core.Logic.{◌≢◌}
use mathlib.Core.Bool.{true, false}
use mathlib.Core.List.{List, [], ◌∷◌}
use Prim.Native.Nat.{ℕ, ◌+◌, ◌≤◌, ◌<◌}
use native.Mathlib.Nat.{add-zero}
use native.Mathlib.Omega.{arith}
use borrow.Author.Tests.{ne_eqb, eqb-true, eqb-false}
use lib.Dec.{eqb}
use lib.ListN.{length, get_or}
use Rattle.bits.proofs.Tests.{pick-cases}
use Rattle.answer.specs.Demand.{◌&◌}
use Rattle.replay.specs.File.{records_of}
use Rattle.replay.specs.Packet.{entry_of}
use Rattle.replay.specs.Sheet.{line_start, read_at, refused_at, unlisted_at, entry_changes, written}
use Rattle.replay.specs.Replay.{with_record, figures_after, records_counted, replay_figures}
use Rattle.replay.specs.Counts.{offered_to, packets_of}
use Rattle.replay.specs.Inner.{ProperEntry}
use Rattle.replay.specs.declared.Entry.{Entry}
use Rattle.replay.specs.declared.Entry.TheVariants.{Passed, Data, Control, Refused}
use Rattle.replay.proofs.Lengths.{length-written}
use Rattle.replay.proofs.Entries.{entry-proper}
use Rattle.replay.proofs.Places.{Beside, beside_same, alike}

-- two sheets have a group's line in common
abbrev pub SameLine : ℕ → List ℕ → List ℕ → Type 0
SameLine group a b = (j : ℕ) → j < 23 → get_or a (line_start group + j) 0 ≡ get_or b (line_start group + j) 0

module _ (group : ℕ) (some : 1 ≤ group) (few : group ≤ 4) where
  -- ---- another group's entry leaves the line

  apart : (h j x : ℕ) → 1 ≤ h → h ≤ 4 → h ≢ group → j < 23 → x < 23 → line_start group + j ≢ line_start h + x
  apart h j x one four d l m e = d (omega arith)

  beyond-lines : (n j : ℕ) → j < 23 → line_start group + j ≢ unlisted_at n
  beyond-lines n j l e = absurd (omega arith)

  at_least : (n : ℕ) → n ≢ 0 → 1 ≤ n
  at_least n d = omega arith

  pub other-beside : (e : Entry) (sheet : List ℕ) (j : ℕ) → ProperEntry e → offered_to group e ≡ false → j < 23 → Beside (line_start group + j) (entry_changes e sheet)
  unfolding entry_changes
  other-beside Passed sheet j p f l = tt
  other-beside (Data h lanes dbn) sheet j p f l =
      let d = eqb-false h group f in
      let first : line_start group + j ≢ read_at h = λ e. apart h j 0 p.0 p.1 d l (omega arith) (e ∙ sym (add-zero (line_start h))) in
      first & apart h j 1 p.0 p.1 d l (omega arith) & apart h j 22 p.0 p.1 d l (omega arith)
      & apart h j 20 p.0 p.1 d l (omega arith) & apart h j 21 p.0 p.1 d l (omega arith) & tt
  other-beside (Control h) sheet j p f l =
      let d = eqb-false h group f in
      ((λ e. apart h j 0 p.0 p.1 d l (omega arith) (e ∙ sym (add-zero (line_start h)))), tt)
  other-beside (Refused h lanes n) sheet j p f l =
      pick-cases (Beside (line_start group + j)) (eqb h 0) _ _ (λ t. (beyond-lines n j l, tt))
      (λ z. let d = eqb-false h group f in
      let one : 1 ≤ h = at_least h (eqb-false h 0 z) in
      let m : 2 + n < 23 = omega (arith, p.1) in
      let s : line_start h + 2 + n ≡ line_start h + (2 + n) = omega arith in
      apart h j 1 one p.0 d l (omega arith) & (λ e. apart h j (2 + n) one p.0 d l m (e ∙ s)) & tt)

  -- ---- its own makes the same changes

  nonzero : group ≢ 0
  nonzero e = absurd (omega arith)

  module _ (a b : List ℕ) (s : SameLine group a b) where
    first-same : get_or a (line_start group) 0 ≡ get_or b (line_start group) 0
    first-same = rw (add-zero (line_start group)) at (s 0 (omega arith))

    refused-same : (n : ℕ) → n < 18 → get_or a (refused_at group n) 0 ≡ get_or b (refused_at group n) 0
    refused-same n l =
        let m : line_start group + (2 + n) ≡ line_start group + 2 + n = omega arith in
        rw m at (s (2 + n) (omega arith))

    own-changes : (e : Entry) → ProperEntry e → offered_to group e ≡ true → entry_changes e a ≡ entry_changes e b
    unfolding entry_changes
    own-changes Passed p t = refl
    own-changes (Data h lanes dbn) p t =
        rw (eqb-true h group t, first-same, s 1 (omega arith), s 22 (omega arith), s 20 (omega arith), s 21 (omega arith)) refl
    own-changes (Control h) p t = rw (eqb-true h group t, first-same) refl
    own-changes (Refused h lanes n) p t =
        rw (eqb-true h group t, ne_eqb group 0 nonzero, s 1 (omega arith), refused-same n p.1) refl

  -- ---- so the line is a matter of its own packets

  line_after : (rs : List (List ℕ)) (a b : List ℕ) → length a ≡ length b → SameLine group a b
      → SameLine group (figures_after a rs) (figures_after b (packets_of group rs))
  unfolding figures_after packets_of
  line_after [] a b l s = s
  line_after (r ∷ rs) a b l s =
      pick-cases (λ (q : List (List ℕ)). SameLine group (figures_after (with_record a r) rs) (figures_after b q)) (offered_to group (entry_of r)) _ _
      (λ t. let c = own-changes a b s (entry_of r) (entry-proper r) t in
      line_after rs (with_record a r) (with_record b r)
      (length-written (entry_changes (entry_of r) a) a ∙ l ∙ sym (length-written (entry_changes (entry_of r) b) b))
      (λ j m. alike (entry_changes (entry_of r) a) a b (line_start group + j) l (s j m)
      ∙ ap (λ (cs : List (ℕ × ℕ)). get_or (written cs b) (line_start group + j) 0) c))
      (λ f. line_after rs (with_record a r) b (length-written (entry_changes (entry_of r) a) a ∙ l)
      (λ j m. beside_same (line_start group + j) (entry_changes (entry_of r) a) a (other-beside (entry_of r) a j (entry-proper r) f m) ∙ s j m))

  -- two files whose counted packets of the group are the same, from sheets with the same line
  pub groups-apart : (octets others a b : List ℕ) → length a ≡ length b → SameLine group a b
      → packets_of group (records_counted a (records_of octets)) ≡ packets_of group (records_counted b (records_of others))
      → SameLine group (replay_figures octets a) (replay_figures others b)
  unfolding replay_figures
  groups-apart octets others a b l s e j m =
      line_after (records_counted a (records_of octets)) a b l s j m
      ∙ ap (λ (q : List (List ℕ)). get_or (figures_after b q) (line_start group + j) 0) e
      ∙ sym (line_after (records_counted b (records_of others)) b b refl (λ i n. refl) j m)
