-- The records of a file one after the other, and of two files on end. Assumes nothing.
use mathlib.Core.Path.{◌≡◌, refl, sym, ap, ◌∙◌}
use mathlib.Core.Bool.{Bool, true, false, ◌&&◌}
use mathlib.Core.List.{List, [], ◌∷◌}
use Prim.Native.Nat.{ℕ, zero, suc, ◌+◌, ◌-◌, ◌≤◌, ◌<◌}
use native.Mathlib.Omega.{arith}
use borrow.Author.Tests.{le-leb, leb-true}
use lib.Dec.{leb}
use lib.ListN.{length, drop, length-drop}
use lib.Seq.{length-take-le, drop-drop}
use Rattle.bits.proofs.Tests.{pick-cases, both_true}
use Rattle.records.specs.Head.{size_of}
use Rattle.replay.specs.File.{whole, record_first, rest_of, records_on, records_of, octets_in, stop_at, file_stop}

-- by a test
pub test-cases : {A : Type 0} (t : Bool) → (t ≡ true → A) → (t ≡ false → A) → A
test-cases true f g = f refl
test-cases false f g = g refl

-- ---- a whole record

pub record Whole (input : List ℕ) : Type 0 where
  pub headed : 4 ≤ length input
  pub short : size_of input ≤ 8192
  pub room : 4 + size_of input ≤ length input

pub whole_is : (input : List ℕ) → whole input ≡ true → Whole input
unfolding whole
whole_is input e =
    let a = both_true (leb 4 (length input) && leb (size_of input) 8192) (leb (4 + size_of input) (length input)) e in
    let b = both_true (leb 4 (length input)) (leb (size_of input) 8192) a.0 in
    record {
      headed = leb-true 4 (length input) b.0;
      short = leb-true (size_of input) 8192 b.1;
      room = leb-true (4 + size_of input) (length input) a.1;
    }

pub is_whole : (input : List ℕ) → Whole input → whole input ≡ true
unfolding whole
is_whole input w =
    simp (le-leb 4 (length input) w.headed, le-leb (size_of input) 8192 w.short, le-leb (4 + size_of input) (length input) w.room)

-- as many octets as its length says, and so many fewer after it
pub first-long : (input : List ℕ) → Whole input → length (record_first input) ≡ size_of input
first-long input w = length-take-le (size_of input) (drop 4 input) (omega (arith, w.room, length-drop 4 input))

pub rest-shorter : (input : List ℕ) → Whole input → length (rest_of input) + 4 ≤ length input
rest-shorter input w = omega (arith, w.room, length-drop (4 + size_of input) input)

-- ---- the records: none, or one and those of the rest

no-records : (most : ℕ) (input : List ℕ) → length input < 4 → records_on most input ≡ []
unfolding records_on
no-records zero input h = refl
no-records (suc most) input h =
    pick-cases (λ (rs : List (List ℕ)). rs ≡ []) (whole input) _ _ (λ t. absurd (omega (arith, (whole_is input t).headed))) (λ f. refl)

module _ (input : List ℕ) where
  on_none : (most : ℕ) → whole input ≡ false → records_on most input ≡ []
  unfolding records_on
  on_none zero f = refl
  on_none (suc most) f = rw f

  on_one : (most : ℕ) → whole input ≡ true → records_on (suc most) input ≡ record_first input ∷ records_on most (rest_of input)
  unfolding records_on
  on_one most t = rw t

-- no more are found than there is room for
enough : (m n : ℕ) (input : List ℕ) → length input ≤ m → length input ≤ n → records_on m input ≡ records_on n input
enough zero n input h k = no-records zero input (omega arith) ∙ sym (no-records n input (omega arith))
enough (suc m) zero input h k = no-records (suc m) input (omega arith) ∙ sym (no-records zero input (omega arith))
enough (suc m) (suc n) input h k =
    test-cases (whole input)
    (λ t. let w = whole_is input t in
    on_one input m t
    ∙ ap (λ (rs : List (List ℕ)). record_first input ∷ rs)
    (enough m n (rest_of input) (omega (arith, rest-shorter input w)) (omega (arith, rest-shorter input w)))
    ∙ sym (on_one input n t))
    (λ f. on_none input (suc m) f ∙ sym (on_none input (suc n) f))

module _ (input : List ℕ) where
  pub records-none : whole input ≡ false → records_of input ≡ []
  unfolding records_of
  records-none f = on_none input (length input) f

  pub records-one : whole input ≡ true → records_of input ≡ record_first input ∷ records_of (rest_of input)
  unfolding records_of
  records-one t =
      let w = whole_is input t in
      let n : length input ≡ suc (length input - 1) = omega (arith, w.headed) in
      ap (λ (k : ℕ). records_on k input) n ∙ on_one input (length input - 1) t
      ∙ ap (λ (rs : List (List ℕ)). record_first input ∷ rs)
      (enough (length input - 1) (length (rest_of input)) (rest_of input) (omega (arith, rest-shorter input w)) (omega arith))

-- ---- the stop: of what is left

module _ (input : List ℕ) where
  pub stop-here : whole input ≡ false → file_stop input ≡ stop_at input
  unfolding file_stop octets_in
  stop-here f = ap (λ (rs : List (List ℕ)). stop_at (drop (octets_in rs) input)) (records-none input f)

  pub stop-later : whole input ≡ true → file_stop input ≡ file_stop (rest_of input)
  unfolding file_stop octets_in
  stop-later t =
      ap (λ (rs : List (List ℕ)). stop_at (drop (octets_in rs) input)) (records-one input t)
      ∙ ap (λ (n : ℕ). stop_at (drop (4 + n + octets_in (records_of (rest_of input))) input)) (first-long input (whole_is input t))
      ∙ ap stop_at (sym (drop-drop (octets_in (records_of (rest_of input))) (4 + size_of input) input))
