-- What is demanded: what the code's one search says of each kind of refusal, and what a block that is accepted has.
-- Assumes nothing.
use mathlib.Core.Path.{◌≡◌, refl, sym, ap, ap₂, ◌∙◌, subst}
use mathlib.Core.Bool.{Bool, true, false, not, ◌&&◌, ◌||◌}
use mathlib.Core.List.{List, [], ◌∷◌}
use Prim.Native.Nat.{ℕ, zero, suc, ◌+◌, ◌-◌, ◌^◌, ◌≤◌, ◌<◌}
use native.Mathlib.Nat.{zero-add}
use native.Mathlib.Omega.{arith}
use borrow.Author.Tests.{eq-eqb, ne_eqb, eqb-true, lt-ltb, le-ltb, not-false}
use lib.Dec.{eqb, ltb}
use lib.IntN.{ℤ, pos}
use lib.ListN.{length, get_or}
use lib.Signed.{mag}
use Rattle.answer.specs.Answer.{Answer, Answer.accepted}
use Rattle.answer.specs.Said.{number_of, place_of, said}
use Rattle.answer.specs.declared.Refusal.{Refusal}
use Rattle.answer.specs.Demand.{Demand, Demand.finds_none, provided, AllMet, Stops, ◌&◌}
use Rattle.answer.specs.Demand.Stops.{found, later}
use Rattle.answer.proofs.Chains.{met, passing, search-cases}
use Rattle.bits.specs.Pick.{first}
use Rattle.std.specs.Prelude.{Option, Some, None, Err}
use Rattle.subframe.specs.Signed.{in_range}
use Rattle.block.specs.Side.{side_length}
use Rattle.block.specs.Check.{outside}
use Rattle.block.proofs.CheckLaws.{outside-range, refusal-stops, accepted-met}
use Rattle.talkback.specs.Talkback.{auxiliary, with_voice, undeclared, unfit, use_demands, voice_outside, voice_join_demands, separate_demands, voice_join_answer, separate_answer}
use Rattle.talkback.specs.Inner.{unfitting, Programs, AllIn, declared_checked}

-- ---- one search for each kind

not-both : (a b : Bool) → not (a && b) ≡ not a || not b
not-both true b = refl
not-both false b = refl

both-not : (a b : Bool) → a || b ≡ false → (a ≡ false) × (b ≡ false)
both-not true b e = (e, cc)
both-not false b e = (refl, e)

below_one : (x : ℕ) → ltb x 1 ≡ eqb x 0
below_one zero = refl
below_one (suc x) = le-ltb (suc x) 1 (omega arith) ∙ sym (ne_eqb (suc x) 0 (λ e. omega arith))

-- in a program slots 4 to 7 are free
pub unfit-is : (program : List ℤ) (i : ℕ) → unfit program i ≡ unfitting (2 ^ 23) 1 program i
unfolding unfit unfitting
unfit-is program i =
    let z = get_or program i (pos 0) in
    sym (not-both (in_range 24 z) (ltb (auxiliary z) 1) ∙ ap₂ (λ (a b : Bool). a || not b) (sym (outside-range program i)) (below_one (auxiliary z)))

-- elsewhere they hold what they hold
any-low : (half : ℕ) (z : ℤ) → not (ltb (mag z) half) ≡ not (ltb (mag z) half && ltb (auxiliary z) (2 ^ 4))
any-low half z =
    sym (not-both (ltb (mag z) half) (ltb (auxiliary z) (2 ^ 4)) ∙ ap (λ (b : Bool). not (ltb (mag z) half) || not b) (lt-ltb (auxiliary z) (2 ^ 4) (omega arith))
    ∙ or-none (not (ltb (mag z) half)))
  where
    or-none : (a : Bool) → a || false ≡ a
    or-none true = refl
    or-none false = refl

pub outside-is : (samples : List ℤ) (i : ℕ) → outside samples i ≡ unfitting (2 ^ 23) (2 ^ 4) samples i
unfolding unfitting
outside-is samples i = outside-range samples i ∙ any-low (2 ^ 23) (get_or samples i (pos 0))

pub voice-is : (voice : List ℤ) (i : ℕ) → voice_outside voice (384 + i) ≡ unfitting (2 ^ 11) (2 ^ 4) voice i
unfolding voice_outside unfitting
voice-is voice i =
    let e : 384 + i - 384 ≡ i = omega arith in
    ap (λ (k : ℕ). not (in_range 12 (get_or voice k (pos 0)))) e ∙ any-low (2 ^ 11) (get_or voice i (pos 0))

-- ---- lengths and use

module _ (p v n : ℕ) (side : List ℕ) (np : p ≡ 384) (nv : v ≡ 128) (ns : length side ≡ side_length) (nn : n ≡ 384) where
  pub use-stops : {number place : ℕ} → Stops (finds_none 19 (undeclared side) 0 2 ∷ []) number place → Stops (use_demands p v side n) number place
  use-stops s = later (eq-eqb p 384 np) (later (eq-eqb v 128 nv) (later (eq-eqb (length side) side_length ns) (later (eq-eqb n 384 nn) s)))

  pub use-met : ((i : ℕ) → 0 ≤ i → i < 0 + 2 → undeclared side i ≡ false) → AllMet (use_demands p v side n)
  use-met d = eq-eqb p 384 np & eq-eqb v 128 nv & eq-eqb (length side) side_length ns & eq-eqb n 384 nn & d & tt

-- the side table is the slice, as an array
module _ (s t : List ℕ) (same : s ≡ t) where
  pub declared-stops : (e : Refusal) → said {A = Unit {0}} (Err e) ≡ declared_checked s
      → Stops (finds_none 19 (undeclared t) 0 2 ∷ []) (number_of e) (place_of e)
  unfolding declared_checked
  declared-stops e h = refusal-stops (finds_none 19 (undeclared t) 0 2 ∷ []) e (h ∙ ap (λ (x : List ℕ). provided (finds_none 19 (undeclared x) 0 2 ∷ []) (accepted tt)) same)

  pub declared-met : ◌≡◌ {A = Answer (Unit {0})} (accepted tt) (declared_checked s) → (i : ℕ) → 0 ≤ i → i < 0 + 2 → undeclared t i ≡ false
  unfolding declared_checked
  declared-met h = (accepted-met (finds_none 19 (undeclared t) 0 2 ∷ []) (h ∙ ap (λ (x : List ℕ). provided (finds_none 19 (undeclared x) 0 2 ∷ []) (accepted tt)) same)).0

-- ---- what a search gave: the place of one, counted from m, or none

module _ (p q : ℕ → Bool) (m n many : ℕ) {r : Option ℕ} (same : (i : ℕ) → q (m + i) ≡ p i) (long : many ≡ n)
    (e : r ≡ first p 0 many (λ i. Some i) None) where
  back : (j : ℕ) → m ≤ j → p (j - m) ≡ false → q j ≡ false
  back j l f = let d : m + (j - m) ≡ j = omega arith in ap q (sym d) ∙ same (j - m) ∙ f

  pub one-there : {number k : ℕ} {ds : List Demand} → r ≡ Some k → Stops (finds_none number q m n ∷ ds) number (m + k)
  one-there {number} {k} {ds} h =
      search-cases p (λ i. Some i) None 0 many (λ x. Some k ≡ x → Stops (finds_none number q m n ∷ ds) number (m + k))
      (λ i l u t before x. let z : k ≡ i = cc in rw z (found {k = m} {n = n} {i = m + i} {p = q} (omega arith) (omega arith) (same i ∙ t)
      (λ j below above. back j below (before (j - m) (omega arith) (omega arith)))))
      (λ none x. cc) (sym h ∙ e)

  pub none-there : r ≡ None → (j : ℕ) → m ≤ j → j < m + n → q j ≡ false
  none-there h =
      search-cases p (λ i. Some i) None 0 many (λ x. None ≡ x → (j : ℕ) → m ≤ j → j < m + n → q j ≡ false)
      (λ i l u t before x. cc)
      (λ none x j below above. back j below (none (j - m) (omega arith) (omega arith))) (sym h ∙ e)

pub below-many : (p : ℕ → Bool) (many : ℕ) {r : Option ℕ} {k : ℕ} → r ≡ first p 0 many (λ i. Some i) None → r ≡ Some k → k < many
below-many p many {r} {k} e h =
    search-cases p (λ i. Some i) None 0 many (λ x. Some k ≡ x → k < many)
    (λ i l u t before x. let z : k ≡ i = cc in omega arith) (λ none x. cc) (sym h ∙ e)

-- the places themselves
module _ (p q : ℕ → Bool) (n many : ℕ) {r : Option ℕ} (same : (i : ℕ) → q i ≡ p i) (long : many ≡ n)
    (e : r ≡ first p 0 many (λ i. Some i) None) where
  from-zero : (i : ℕ) → q (0 + i) ≡ p i
  from-zero i = ap q (zero-add i) ∙ same i

  pub one-here : {number k : ℕ} {ds : List Demand} → r ≡ Some k → Stops (finds_none number q 0 n ∷ ds) number k
  one-here {number} {k} {ds} h =
      subst (λ (x : ℕ). Stops (finds_none number q 0 n ∷ ds) number x) (zero-add k) (one-there p q 0 n many from-zero long e h)

  pub none-here : r ≡ None → (j : ℕ) → 0 ≤ j → j < 0 + n → q j ≡ false
  none-here = none-there p q 0 n many from-zero long e

-- ---- what was not refused

pub fit-programs : (program : List ℤ) → ((i : ℕ) → 0 ≤ i → i < 0 + 384 → unfit program i ≡ false) → Programs program
unfolding unfit
fit-programs program all i h =
    let z = get_or program i (pos 0) in
    let b = both-not (outside program i) (not (eqb (auxiliary z) 0)) (all i (omega arith) (omega arith)) in
    (not-false (in_range 24 z) (sym (outside-range program i) ∙ b.0), eqb-true (auxiliary z) 0 (not-false (eqb (auxiliary z) 0) b.1))

pub fit-samples : (samples : List ℤ) → ((i : ℕ) → 0 ≤ i → i < 0 + 384 → outside samples i ≡ false) → AllIn 24 384 samples
fit-samples samples all i h =
    not-false (in_range 24 (get_or samples i (pos 0))) (sym (outside-range samples i) ∙ all i (omega arith) (omega arith))

pub fit-voice : (voice : List ℤ) → ((i : ℕ) → 384 ≤ i → i < 384 + 128 → voice_outside voice i ≡ false) → AllIn 12 128 voice
unfolding voice_outside
fit-voice voice all i h =
    let e : 384 + i - 384 ≡ i = omega arith in
    not-false (in_range 12 (get_or voice i (pos 0))) (ap (λ (k : ℕ). not (in_range 12 (get_or voice k (pos 0)))) (sym e) ∙ all (384 + i) (omega arith) (omega arith))

-- ---- a block that is accepted

pub record Joins (program voice : List ℤ) (side : List ℕ) (room : ℕ) (samples : List ℤ) : Type 0 where
  pub program-long : length program ≡ 384
  pub voice-long : length voice ≡ 128
  pub side-long : length side ≡ side_length
  pub room-long : room ≡ 384
  pub declared : (channel : ℕ) → 0 ≤ channel → channel < 0 + 2 → undeclared side channel ≡ false
  pub programs : Programs program
  pub voices : AllIn 12 128 voice
  pub is : with_voice program voice ≡ samples

pub joins : (program voice : List ℤ) (side : List ℕ) (room : ℕ) (samples : List ℤ)
    → voice_join_answer program voice side room ≡ accepted samples → Joins program voice side room samples
unfolding voice_join_answer
joins program voice side room samples e =
    let m = met (with_voice program voice) (voice_join_demands program voice side room) e in
    let d = m.0 in
    record {
      program-long = eqb-true _ 384 d.0;
      voice-long = eqb-true _ 128 d.1.0;
      side-long = eqb-true _ side_length d.1.1.0;
      room-long = eqb-true _ 384 d.1.1.1.0;
      declared = d.1.1.1.1.0;
      programs = fit-programs program d.1.1.1.1.1.0;
      voices = fit-voice voice d.1.1.1.1.1.1.0;
      is = m.1;
    }

pub record Separates (samples : List ℤ) (side : List ℕ) (program voice : ℕ) : Type 0 where
  pub program-room : program ≡ 384
  pub voice-room : voice ≡ 128
  pub side-long : length side ≡ side_length
  pub samples-long : length samples ≡ 384
  pub declared : (channel : ℕ) → 0 ≤ channel → channel < 0 + 2 → undeclared side channel ≡ false
  pub ranges : AllIn 24 384 samples

module _ (samples : List ℤ) (side : List ℕ) (program voice : ℕ) where
  pub separates : (s : List ℤ) → separate_answer samples side program voice ≡ accepted s → Separates samples side program voice × (samples ≡ s)
  unfolding separate_answer
  separates s e =
      let m = met samples (separate_demands samples side program voice) e in
      let d = m.0 in (
        record {
          program-room = eqb-true _ 384 d.0;
          voice-room = eqb-true _ 128 d.1.0;
          side-long = eqb-true _ side_length d.1.1.0;
          samples-long = eqb-true _ 384 d.1.1.1.0;
          declared = d.1.1.1.1.0;
          ranges = fit-samples samples d.1.1.1.1.1.0;
        },
        m.1,
      )

  pub separating : Separates samples side program voice → separate_answer samples side program voice ≡ accepted samples
  unfolding separate_answer
  separating s =
      passing (accepted samples) (separate_demands samples side program voice)
      (eq-eqb _ 384 s.program-room & eq-eqb _ 128 s.voice-room & eq-eqb _ side_length s.side-long & eq-eqb _ 384 s.samples-long
      & s.declared & (λ i l h. outside-range samples i ∙ ap not (s.ranges i (omega arith))) & tt)

module _ (program voice : List ℤ) (side : List ℕ) (room : ℕ) where
  pub joining : length program ≡ 384 → length voice ≡ 128 → length side ≡ side_length → room ≡ 384
      → ((channel : ℕ) → 0 ≤ channel → channel < 0 + 2 → undeclared side channel ≡ false) → Programs program → AllIn 12 128 voice
      → voice_join_answer program voice side room ≡ accepted (with_voice program voice)
  unfolding voice_join_answer unfit voice_outside
  joining np nv nt nr declared programs voices =
      passing (accepted (with_voice program voice)) (voice_join_demands program voice side room)
      (eq-eqb _ 384 np & eq-eqb _ 128 nv & eq-eqb _ side_length nt & eq-eqb _ 384 nr & declared
      & (λ i l h. let f = programs i (omega arith) in
      ap₂ (λ (a b : Bool). a || not b) (outside-range program i ∙ ap not f.0) (eq-eqb (auxiliary (get_or program i (pos 0))) 0 f.1))
      & (λ i l h. ap not (voices (i - 384) (omega arith))) & tt)
