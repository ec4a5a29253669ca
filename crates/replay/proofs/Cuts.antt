-- A file cut at a record's boundary and gone on from the saved figures gives the same sheet. Assumes nothing.
use mathlib.Core.Path.{◌≡◌, refl, sym, ap, ap₂, subst, ◌∙◌}
use mathlib.Core.Bool.{true, false}
use mathlib.Core.List.{List, [], ◌∷◌, ◌++◌}
use Prim.Native.Nat.{ℕ, zero, suc, ◌+◌, ◌≤◌}
use native.Mathlib.Nat.{zero-add}
use native.Mathlib.Omega.{arith}
use lib.ListN.{length, take, drop, length-drop, length-append}
use lib.Seq.{take-append-le, drop-append-le}
use Rattle.bits.proofs.Tests.{no-yes}
use Rattle.records.specs.Head.{size_of}
use Rattle.records.proofs.HeadLaws.{size-front}
use Rattle.replay.specs.File.{whole, record_first, rest_of, records_of, octets_in, file_stop}
use Rattle.replay.specs.Replay.{with_record, room_for, figures_after, records_counted, all_counted, taken_of, replay_figures}
use Rattle.replay.proofs.Files.{test-cases, Whole, whole_is, is_whole, first-long, rest-shorter, records-none, records-one, stop-later}

-- ---- a file of whole records before another

-- nothing is left after its records
abbrev pub AllRecords : List ℕ → Type 0
AllRecords a = octets_in (records_of a) ≡ length a

module _ (a b : List ℕ) (w : Whole a) where
  size_same : size_of (a ++ b) ≡ size_of a
  size_same = sym (size-front (a ++ b)) ∙ ap size_of (take-append-le 4 a b w.headed) ∙ size-front a

  still-whole : Whole (a ++ b)
  still-whole =
      let l = length-append a b in
      let s = size_same in
      record {
        headed = omega (arith, l, w.headed);
        short = omega (arith, s, w.short);
        room = omega (arith, s, l, w.room);
      }

  first-same : record_first (a ++ b) ≡ record_first a
  first-same =
      ap₂ (λ (n : ℕ) (s : List ℕ). take n s) size_same (drop-append-le 4 a b w.headed)
      ∙ take-append-le (size_of a) (drop 4 a) b (omega (arith, w.room, length-drop 4 a))

  rest-same : rest_of (a ++ b) ≡ rest_of a ++ b
  rest-same = ap (λ (n : ℕ). drop (4 + n) (a ++ b)) size_same ∙ drop-append-le (4 + size_of a) a b w.room

nil-of : (a : List ℕ) → length a ≡ 0 → a ≡ []
nil-of [] e = refl
nil-of (x ∷ a) e = absurd (omega arith)

-- what the records of a file take, of its first record and of the rest
module _ (a : List ℕ) (t : whole a ≡ true) where
  pub octets-one : octets_in (records_of a) ≡ 4 + size_of a + octets_in (records_of (rest_of a))
  unfolding octets_in
  octets-one =
      ap octets_in (records-one a t) ∙ ap (λ (n : ℕ). 4 + n + octets_in (records_of (rest_of a))) (first-long a (whole_is a t))

  all_rest : AllRecords a → AllRecords (rest_of a)
  all_rest e = omega (arith, e, octets-one, length-drop (4 + size_of a) a, (whole_is a t).room)

none_left : (a : List ℕ) → whole a ≡ false → AllRecords a → a ≡ []
unfolding octets_in
none_left a f e = nil-of a (sym e ∙ ap octets_in (records-none a f))

-- its records come first, and the stop is the other's
abbrev Joins : List ℕ → List ℕ → Type 0
Joins a b = (records_of (a ++ b) ≡ records_of a ++ records_of b) × (file_stop (a ++ b) ≡ file_stop b)

empty-joins : (a b : List ℕ) → whole a ≡ false → AllRecords a → Joins a b
empty-joins a b f e =
    let z = none_left a f e in
    let n : records_of [] ≡ [] = records-none [] (subst (λ (x : List ℕ). whole x ≡ false) z f) in
    subst (λ (x : List ℕ). Joins x b) (sym z) (ap (λ (rs : List (List ℕ)). rs ++ records_of b) (sym n), refl)

joined : (n : ℕ) (a b : List ℕ) → length a ≤ n → AllRecords a → Joins a b
joined zero a b h e = test-cases (whole a) (λ t. absurd (omega (arith, (whole_is a t).headed))) (λ f. empty-joins a b f e)
joined (suc n) a b h e =
    test-cases (whole a)
    (λ t. let w = whole_is a t in
    let v = is_whole (a ++ b) (still-whole a b w) in
    let r = joined n (rest_of a) b (omega (arith, rest-shorter a w)) (all_rest a t e) in (
      records-one (a ++ b) v ∙ ap₂ (λ (x : List ℕ) (rs : List (List ℕ)). x ∷ rs) (first-same a b w) (ap records_of (rest-same a b w) ∙ r.0)
          ∙ ap (λ (rs : List (List ℕ)). rs ++ records_of b) (sym (records-one a t)),
      stop-later (a ++ b) v ∙ ap file_stop (rest-same a b w) ∙ r.1,
    ))
    (λ f. empty-joins a b f e)

pub records-both : (a b : List ℕ) → AllRecords a → records_of (a ++ b) ≡ records_of a ++ records_of b
records-both a b e = (joined (length a) a b (omega arith) e).0

-- ---- records before others

pub after_both : (s : List ℕ) (rs qs : List (List ℕ)) → figures_after s (rs ++ qs) ≡ figures_after (figures_after s rs) qs
unfolding figures_after
after_both s [] qs = refl
after_both s (r ∷ rs) qs = after_both (with_record s r) rs qs

octets-both : (rs qs : List (List ℕ)) → octets_in (rs ++ qs) ≡ octets_in rs + octets_in qs
unfolding octets_in
octets-both [] qs = sym (zero-add (octets_in qs))
octets-both (r ∷ rs) qs = let e = octets-both rs qs in omega (arith, e)

-- where all of the first are counted, the others go on from their figures
counted-both : (s : List ℕ) (rs qs : List (List ℕ)) → all_counted s rs ≡ true
    → (records_counted s (rs ++ qs) ≡ rs ++ records_counted (figures_after s rs) qs) × (all_counted s (rs ++ qs) ≡ all_counted (figures_after s rs) qs)
unfolding records_counted all_counted figures_after
counted-both s [] qs e = (refl, refl)
counted-both s (r ∷ rs) qs e =
    test-cases (room_for s r)
    (λ t. let b = counted-both (with_record s r) rs qs (rw t at e) in rw t (ap (λ (x : List (List ℕ)). r ∷ x) b.0, b.1))
    (λ f. no-yes false refl (rw f at e))

pub all-counted : (s : List ℕ) (rs : List (List ℕ)) → all_counted s rs ≡ true → records_counted s rs ≡ rs
unfolding records_counted all_counted
all-counted s [] e = refl
all-counted s (r ∷ rs) e =
    test-cases (room_for s r) (λ t. rw t (ap (λ (x : List (List ℕ)). r ∷ x) (all-counted (with_record s r) rs (rw t at e))))
    (λ f. no-yes false refl (rw f at e))

-- ---- a file that is gone on with

figures-by : (octets s : List ℕ) → replay_figures octets s ≡ figures_after s (records_counted s (records_of octets))
unfolding replay_figures
figures-by octets s = refl

taken-by : (octets s : List ℕ) → taken_of octets s ≡ octets_in (records_counted s (records_of octets))
unfolding taken_of
taken-by octets s = refl

module _ (a b s : List ℕ) (e : AllRecords a) (c : all_counted s (records_of a) ≡ true) where
  figures-first : replay_figures a s ≡ figures_after s (records_of a)
  unfolding replay_figures
  figures-first = ap (figures_after s) (all-counted s (records_of a) c)

  parts : records_of (a ++ b) ≡ records_of a ++ records_of b
  parts = records-both a b e

  counts : records_counted s (records_of (a ++ b)) ≡ records_of a ++ records_counted (replay_figures a s) (records_of b)
  counts =
      ap (records_counted s) parts ∙ (counted-both s (records_of a) (records_of b) c).0
      ∙ ap (λ (f : List ℕ). records_of a ++ records_counted f (records_of b)) (sym figures-first)

  pub figures-on : replay_figures (a ++ b) s ≡ replay_figures b (replay_figures a s)
  figures-on =
      figures-by (a ++ b) s ∙ ap (figures_after s) counts ∙ after_both s (records_of a) (records_counted (replay_figures a s) (records_of b))
      ∙ ap (λ (f : List ℕ). figures_after f (records_counted (replay_figures a s) (records_of b))) (sym figures-first) ∙ sym (figures-by b (replay_figures a s))

  pub taken-on : taken_of (a ++ b) s ≡ length a + taken_of b (replay_figures a s)
  taken-on =
      taken-by (a ++ b) s ∙ ap octets_in counts ∙ octets-both (records_of a) (records_counted (replay_figures a s) (records_of b))
      ∙ ap₂ (λ (m n : ℕ). m + n) e (sym (taken-by b (replay_figures a s)))

  pub room-on : all_counted s (records_of (a ++ b)) ≡ all_counted (replay_figures a s) (records_of b)
  room-on =
      ap (all_counted s) parts ∙ (counted-both s (records_of a) (records_of b) c).1
      ∙ ap (λ (f : List ℕ). all_counted f (records_of b)) (sym figures-first)

  pub stop-on : file_stop (a ++ b) ≡ file_stop b
  stop-on = (joined (length a) a b (omega arith) e).1
