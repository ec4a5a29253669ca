-- What a check that found nothing says of the block, and that a block that was read can only be refused for its status
-- or for a sample that is longer than its status declares.
-- Assumes nothing.
use mathlib.Core.Path.{◌≡◌, refl, sym, ap, ◌∙◌}
use mathlib.Core.Logic.{⊎_elim}
use mathlib.Core.Bool.{Bool, true, false, not}
use mathlib.Core.List.{List, [], ◌∷◌, ◌++◌}
use Prim.Native.Nat.{ℕ, zero, suc, ◌+◌, ◌-◌, ◌*◌, ◌≤◌, ◌<◌}
use native.Mathlib.Numerals.{add-one}
use native.Mathlib.Omega.{arith}
use borrow.Author.Tests.{eq-eqb, eqb-true, lt-ltb, not-false}
use lib.Dec.{eqb}
use lib.IntN.{ℤ, pos}
use lib.ListN.{length, get_or, get_or-eq_default}
use Rattle.bits.specs.Pick.{pick, first}
use Rattle.bits.specs.Row.{digit, count}
use Rattle.bits.specs.Listed.{listed}
use Rattle.bits.proofs.Tests.{pick-cases, no-yes, order}
use Rattle.bits.proofs.Digits.{digit-cases}
use Rattle.answer.specs.Answer.{Answer, Answer.accepted, Answer.refused}
use Rattle.answer.specs.Demand.{Demand, Demand.asks, Demand.finds_none, provided, AllMet, Stops, ◌&◌}
use Rattle.answer.specs.Demand.Stops.{found, later}
use Rattle.answer.specs.Said.{number_of, place_of, said}
use Rattle.answer.specs.declared.Refusal.{Refusal}
use Rattle.answer.proofs.Chains.{met, stops, beyond, stopped, passing, passes_on, extended}
use Rattle.std.specs.Prelude.{Err, Option, Some, None}
use Rattle.codes.specs.Crcc.{crcc_right}
use Rattle.subframe.specs.Signed.{in_range}
use Rattle.subframe.proofs.BodyTrips.{sample_in}
use Rattle.block.specs.Side.{status, fault, columns, column_length, side_length}
use Rattle.block.specs.Block.{side_at, samples_of, side_of}
use Rattle.block.specs.Check.{status_of, status_right, Faultless, faulty, outside, consumer, wrong, unmarked, overlong, status_demands, length_demands, block_demands, check_demands, status_checked, checked}
use Rattle.block.specs.Inner.{AllInRange, faults_checked, range_checked, lengths_checked}
use Rattle.block.proofs.SideLaws.{get_or-column_in}
use Rattle.block.proofs.BlockLaws.{InRange, length-samples, get_or-samples, length-side, side-digit}

-- ---- for those who do not open these tests

pub outside-range : (s : List ℤ) (i : ℕ) → outside s i ≡ not (in_range 24 (get_or s i (pos 0)))
unfolding outside
outside-range s i = refl

-- an octet of a channel's status, by its place in the table
pub status-octet : (t : List ℕ) (channel j : ℕ) → j < column_length
    → get_or (status_of channel t) j 0 ≡ get_or t (column_length * (columns * channel + status) + j) 0
unfolding status_of
status-octet t channel j h = get_or-column_in t (columns * channel + status) j h

-- ---- counting, which comes before a search

-- what is left to count, from a place on
pub count_next : (p : ℕ → Bool) (n i : ℕ) → i < n → count (listed i (n - i) p) ≡ digit (p i) + count (listed (i + 1) (n - (i + 1)) p)
unfolding listed count
count_next p n i h = let m : n - i ≡ suc (n - (i + 1)) = omega arith in rw (m, add-one i)

pub count-done : (p : ℕ → Bool) (n i : ℕ) → n ≤ i → count (listed i (n - i) p) ≡ 0
unfolding listed count
count-done p n i h = let m : n - i ≡ 0 = omega arith in rw m

-- where the count is 0 a search finds nothing
pub count_none : {A : Type 0} (p : ℕ → Bool) (hit : ℕ → A) (miss : A) (k n : ℕ) → count (listed k n p) ≡ 0 → first p k n hit miss ≡ miss
unfolding first listed count
count_none p hit miss k zero e = refl
count_none p hit miss k (suc n) e =
    pick-cases (λ a. a ≡ miss) (p k) (hit k) (first p (suc k) n hit miss) (λ t. absurd (let z : digit (p k) ≡ 1 = rw t in omega arith))
    (λ f. count_none p hit miss (suc k) n (omega arith))

-- ---- one kind of refusal for both channels

module _ (p : ℕ → Bool) where
  pub at-A : {number : ℕ} {ds : List Demand} → p 0 ≡ true → Stops (finds_none number p 0 2 ∷ ds) number 0
  at-A a = found {k = 0} {n = 2} {i = 0} (omega arith) (omega arith) a (λ j l m. absurd (omega arith))

  pub at-B : {number : ℕ} {ds : List Demand} → p 0 ≡ false → p 1 ≡ true → Stops (finds_none number p 0 2 ∷ ds) number 1
  at-B a b = found {k = 0} {n = 2} {i = 1} {p = p} (omega arith) (omega arith) b (λ j l m. let e : j ≡ 0 = omega arith in rw e a)

  pub neither : p 0 ≡ false → p 1 ≡ false → (i : ℕ) → 0 ≤ i → i < 0 + 2 → p i ≡ false
  neither a b zero l m = a
  neither a b (suc zero) l m = b
  neither a b (suc (suc i)) l m = absurd (omega arith)

-- as code looks for the first of the two
module _ (p : ℕ → Bool) {a b : Bool} {r : Option ℕ} (ea : a ≡ p 0) (eb : b ≡ p 1) (e : r ≡ pick a (Some 0) (pick b (Some 1) None)) where
  pub channel-found : {number k : ℕ} {ds : List Demand} → r ≡ Some k → Stops (finds_none number p 0 2 ∷ ds) number k
  channel-found {number} {k} {ds} h =
      pick-cases (λ x. Some k ≡ x → Stops (finds_none number p 0 2 ∷ ds) number k) a (Some 0) (pick b (Some 1) None)
      (λ t q. let z : k ≡ 0 = cc in rw z (at-A p (sym ea ∙ t)))
      (λ f. pick-cases (λ x. Some k ≡ x → Stops (finds_none number p 0 2 ∷ ds) number k) b (Some 1) None
      (λ t q. let z : k ≡ 1 = cc in rw z (at-B p (sym ea ∙ f) (sym eb ∙ t)))
      (λ g q. cc)) (sym h ∙ e)

  pub no-channel : r ≡ None → (i : ℕ) → 0 ≤ i → i < 0 + 2 → p i ≡ false
  no-channel h =
      pick-cases (λ x. None ≡ x → (i : ℕ) → 0 ≤ i → i < 0 + 2 → p i ≡ false) a (Some 0) (pick b (Some 1) None)
      (λ t q. cc)
      (λ f. pick-cases (λ x. None ≡ x → (i : ℕ) → 0 ≤ i → i < 0 + 2 → p i ≡ false) b (Some 1) None
      (λ t q. cc)
      (λ g q. neither p (sym ea ∙ f) (sym eb ∙ g))) (sym h ∙ e)

-- ---- a search of n places for one kind of refusal, as code makes it

module _ (number : ℕ) (p : ℕ → Bool) (n i : ℕ) (before : (k : ℕ) → k < i → p k ≡ false) where
  pub hit : i < n → p i ≡ true → ◌≡◌ {A = Answer (Unit {0})} (refused number i) (provided (finds_none number p 0 n ∷ []) (accepted tt))
  hit h t = sym (stopped (accepted tt) (found {k = 0} {n = n} {i = i} {p = p} (omega arith) (omega arith) t (λ j l m. before j m)))

  pub miss : n ≤ i → ◌≡◌ {A = Answer (Unit {0})} (accepted tt) (provided (finds_none number p 0 n ∷ []) (accepted tt))
  miss h = sym (passing (accepted tt) (finds_none number p 0 n ∷ []) ((λ j l m. before j (omega arith)) & tt))

-- ---- one kind after another, as `?` takes them

pub refusal-stops : (ds : List Demand) (e : Refusal) → said {A = Unit {0}} (Err e) ≡ provided ds (accepted tt)
    → Stops ds (number_of e) (place_of e)
refusal-stops ds e h = stops tt ds (number_of e) (place_of e) (sym h)

pub accepted-met : (ds : List Demand) → ◌≡◌ {A = Answer (Unit {0})} (accepted tt) (provided ds (accepted tt)) → AllMet ds
accepted-met ds h = (met tt ds (sym h)).0

-- ---- a block that passes

pub record Passes (s : List ℤ) (t : List ℕ) : Type 0 where
  pub samples : length s ≡ 384
  pub side : length t ≡ side_length
  pub faultless : Faultless t
  pub ranges : InRange s
  pub professional : (channel : ℕ) → channel < 2 → consumer t channel ≡ false
  pub right : (channel : ℕ) → channel < 2 → crcc_right (status_of channel t) ≡ true
  pub marked : (channel : ℕ) → channel < 2 → unmarked t channel ≡ false
  pub within : (i : ℕ) → i < 384 → overlong s t i ≡ false

pub in-range : (s : List ℤ) → length s ≡ 384 → ((j : ℕ) → 0 ≤ j → j < 0 + 384 → outside s j ≡ false) → InRange s
unfolding outside
in-range s n all i =
    ⊎_elim (λ (h : 384 ≤ i). ap (in_range 24) (get_or-eq_default s (pos 0) {n = i} (rw n h)))
    (λ (h : i < 384). not-false (in_range 24 (get_or s i (pos 0))) (all i (omega arith) (omega arith))) (order 384 i)

-- where no E is set each is 0
none-faulty : (t : List ℕ) → ((j : ℕ) → 0 ≤ j → j < 0 + 384 → faulty t j ≡ false) → Faultless t
unfolding faulty
none-faulty t all i h =
    digit-cases (λ (d : ℕ). eqb d 1 ≡ false → d ≡ 0) (λ e. refl) (λ e. no-yes (eqb 1 1) e refl) (side_at t fault i) (side-digit t fault i)
    (all i (omega arith) (omega arith))

faultless-none : (t : List ℕ) → Faultless t → (j : ℕ) → 0 ≤ j → j < 0 + 384 → faulty t j ≡ false
unfolding faulty
faultless-none t none j l h = rw (none j (omega arith))

-- lengths and demands that are met
pub met-passes : (s : List ℤ) (t : List ℕ) → AllMet (check_demands s t) → Passes s t
unfolding wrong
met-passes s t m =
    let n = eqb-true (length s) 384 m.0 in
    record {
      samples = n;
      side = eqb-true (length t) side_length m.1.0;
      faultless = none-faulty t m.1.1.0;
      ranges = in-range s n m.1.1.1.0;
      professional = λ ch h. m.1.1.1.1.0 ch (omega arith) (omega arith);
      right = λ ch h. not-false (crcc_right (status_of ch t)) (m.1.1.1.1.1.0 ch (omega arith) (omega arith));
      marked = λ ch h. m.1.1.1.1.1.1.0 ch (omega arith) (omega arith);
      within = λ i h. m.1.1.1.1.1.1.1.0 i (omega arith) (omega arith);
    }

module _ (s : List ℤ) (t : List ℕ) where
  pub sound-met : checked s t ≡ accepted tt → AllMet (check_demands s t)
  unfolding checked
  sound-met e = (met tt (check_demands s t) e).0

  pub sound-passes : checked s t ≡ accepted tt → Passes s t
  sound-passes e = met-passes s t (sound-met e)

  -- a refusal of samples and side table of the right lengths is one of what comes after the lengths
  pub unsound-stops : {number place : ℕ} → length s ≡ 384 → length t ≡ side_length → checked s t ≡ refused number place
      → Stops (block_demands s t) number place
  unfolding checked
  unsound-stops {number} {place} n m e =
      beyond (eq-eqb (length t) side_length m) (beyond (eq-eqb (length s) 384 n) (stops tt (check_demands s t) number place e))

-- both CRCCs of a block that passes are right
pub right-back : (s : List ℤ) (t : List ℕ) → Passes s t → (channel : ℕ) → channel < 2 → status_right t channel ≡ true
unfolding status_right
right-back s t p channel h = rw (eq-eqb (length t) side_length p.side, lt-ltb channel 2 h, p.right channel h)

-- ---- a block that was read meets all demands where E is empty, its status does, and its samples keep to the declared
-- lengths

pub status-met : (t : List ℕ) → status_checked t ≡ accepted tt → AllMet (status_demands t)
unfolding status_checked
status-met t e = (met tt (status_demands t) e).0

-- ---- the kinds one after another, of samples and a side table of the right lengths

module _ (s : List ℤ) (t : List ℕ) (ns : length s ≡ 384) (nt : length t ≡ side_length) where
  in-lengths : {ds : List Demand} {number place : ℕ} → Stops ds number place
      → Stops (asks 1 0 (eqb (length s) 384) ∷ asks 1 0 (eqb (length t) side_length) ∷ ds) number place
  in-lengths z = later (eq-eqb (length s) 384 ns) (later (eq-eqb (length t) side_length nt) z)

  pub at-faults : (e : Refusal) → said {A = Unit {0}} (Err e) ≡ faults_checked t → said {A = Unit {0}} (Err e) ≡ checked s t
  unfolding checked faults_checked
  at-faults e h =
      sym (stopped (accepted tt) (in-lengths
      (extended (refusal-stops (finds_none 20 (faulty t) 0 384 ∷ []) e h)
      (finds_none 3 (outside s) 0 384 ∷ (status_demands t ++ length_demands s t)))))

  module _ (no-fault : ◌≡◌ {A = Answer (Unit {0})} (accepted tt) (faults_checked t)) where
    none : (i : ℕ) → 0 ≤ i → i < 0 + 384 → faulty t i ≡ false
    unfolding faults_checked
    none = (accepted-met (finds_none 20 (faulty t) 0 384 ∷ []) no-fault).0

    pub at-range : (e : Refusal) → said {A = Unit {0}} (Err e) ≡ range_checked s → said {A = Unit {0}} (Err e) ≡ checked s t
    unfolding checked range_checked
    at-range e h =
        sym (stopped (accepted tt) (in-lengths (later none
        (extended (refusal-stops (finds_none 3 (outside s) 0 384 ∷ []) e h) (status_demands t ++ length_demands s t)))))

    module _ (no-outside : ◌≡◌ {A = Answer (Unit {0})} (accepted tt) (range_checked s)) where
      within : (i : ℕ) → 0 ≤ i → i < 0 + 384 → outside s i ≡ false
      unfolding range_checked
      within = (accepted-met (finds_none 3 (outside s) 0 384 ∷ []) no-outside).0

      pub all-in-range : AllInRange s
      all-in-range i h = in-range s ns within i

      pub at-status : (e : Refusal) → said {A = Unit {0}} (Err e) ≡ status_checked t → said {A = Unit {0}} (Err e) ≡ checked s t
      unfolding checked status_checked
      at-status e h =
          sym (stopped (accepted tt) (in-lengths (later none (later within
          (extended (refusal-stops (status_demands t) e h) (length_demands s t))))))

      pub at-lengths : (a : Answer (Unit {0})) → ◌≡◌ {A = Answer (Unit {0})} (accepted tt) (status_checked t) → a ≡ lengths_checked s t → a ≡ checked s t
      unfolding checked lengths_checked
      at-lengths a no-status h =
          h ∙ sym (passes_on (accepted tt)
          (asks 1 0 (eqb (length s) 384) ∷ asks 1 0 (eqb (length t) side_length) ∷ finds_none 20 (faulty t) 0 384
          ∷ finds_none 3 (outside s) 0 384 ∷ status_demands t) (length_demands s t)
          (eq-eqb (length s) 384 ns & eq-eqb (length t) side_length nt & none & within & status-met t (sym no-status)))

pub read-met : (b : List ℕ) → Faultless (side_of b) → status_checked (side_of b) ≡ accepted tt
    → ((i : ℕ) → i < 384 → overlong (samples_of b) (side_of b) i ≡ false) → AllMet (check_demands (samples_of b) (side_of b))
unfolding outside
read-met b none e within =
    let m = status-met (side_of b) e in
    eq-eqb (length (samples_of b)) 384 (length-samples b)
    & eq-eqb (length (side_of b)) side_length (length-side b)
    & faultless-none (side_of b) none
    & (λ j l h. ap (λ (z : ℤ). not (in_range 24 z)) (get_or-samples b j (omega arith)) ∙ ap not (sample_in (get_or b j 0)))
    & m.0
    & m.1.0
    & m.1.1.0
    & (λ i l h. within i (omega arith))
    & tt
