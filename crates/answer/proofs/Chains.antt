-- A chain of demands: accepted exactly if all are met, refused exactly by the first that is not. Assumes nothing.
use mathlib.Core.Path.{◌≡◌, refl, sym, ap, ◌∙◌, subst}
use mathlib.Core.Logic.{⊎_elim}
use mathlib.Core.Bool.{Bool, true, false}
use mathlib.Core.List.{List, [], ◌∷◌, ◌++◌}
use Prim.Native.Nat.{ℕ, ◌+◌, ◌-◌, ◌≤◌, ◌<◌}
use native.Mathlib.Nat.{zero-add}
use native.Mathlib.Omega.{arith}
use Rattle.bits.specs.Pick.{pick, first}
use Rattle.bits.proofs.Tests.{pick-cases, no-yes, order}
use Rattle.bits.proofs.Firsts.{first-cases}
use Rattle.answer.specs.Answer.{Answer, Answer.accepted, Answer.refused, mapped}
use Rattle.answer.specs.Demand.{Demand, Demand.asks, Demand.finds_none, provided, Met, AllMet, Stops}
use Rattle.answer.specs.Demand.Stops.{fails, found, later}

-- the first place with a property is one place
one-first : (p : ℕ → Bool) (k i j : ℕ) → k ≤ i → k ≤ j → p i ≡ true → p j ≡ true → ((m : ℕ) → k ≤ m → m < i → p m ≡ false)
    → ((m : ℕ) → k ≤ m → m < j → p m ≡ false) → i ≡ j
one-first p k i j hi hj ti tj before-i before-j =
    ⊎_elim (λ (l : i ≤ j). ⊎_elim (λ (m : j ≤ i). omega arith) (λ (m : i < j). no-yes (p i) (before-j i hi m) ti) (order j i))
    (λ (l : j < i). no-yes (p j) (before-i j hj l) tj) (order i j)

-- a refusal is no acceptance
pub not-both {ℓ} : {A : Type 0} {B : Type ℓ} {v : A} {n p : ℕ} → refused n p ≡ accepted v → B
not-both e = absurd (let z : ◌≡◌ {A = ℕ} 0 1 = cc in omega arith)

-- what is said to be accepted is
pub value_of : {A B : Type 0} (f : A → B) (a : Answer A) {b : B} → mapped f a ≡ accepted b → (v : A) × (a ≡ accepted v) × (f v ≡ b)
value_of f (accepted v) e = (v, refl, cc)
value_of f (refused n p) e = not-both e

same-refusal : {A : Type 0} {ds : List Demand} {n q number place : ℕ} → ◌≡◌ {A = Answer A} (refused n q) (refused number place)
    → Stops ds n q → Stops ds number place
same-refusal {n} {q} {number} {place} r s =
    let e : n ≡ number = cc in
    let f : q ≡ place = cc in
    rw (← e, ← f) s

-- ---- a search: the places that it passed, or the one that it stopped at

module _ {A : Type 0} (p : ℕ → Bool) (hit : ℕ → A) (miss : A) (k n : ℕ) where
  pub search-cases {ℓ} : (Q : A → Type ℓ)
      → ((i : ℕ) → k ≤ i → i < k + n → p i ≡ true → ((j : ℕ) → k ≤ j → j < i → p j ≡ false) → Q (hit i))
      → (((i : ℕ) → k ≤ i → i < k + n → p i ≡ false) → Q miss) → Q (first p k n hit miss)
  search-cases Q stop pass =
      first-cases p hit miss Q k n
      (λ i h t before. stop (k + i) (omega arith) (omega arith) t (λ j l m. from j l (before (j - k) (omega arith))))
      (λ all. pass (λ j l m. from j l (all (j - k) (omega arith))))
    where
      from : (j : ℕ) → k ≤ j → p (k + (j - k)) ≡ false → p j ≡ false
      from j l f =
          let e : k + (j - k) ≡ j = omega arith in
          rw e at f

-- ---- accepted exactly if all demands are met

module _ {A : Type 0} (a : Answer A) where
  pub passed : (ds : List Demand) (v : A) → provided ds a ≡ accepted v → AllMet ds × (a ≡ accepted v)
  unfolding provided
  passed [] v e = (tt, e)
  passed (asks number place t ∷ ds) v e =
      pick-cases (λ x. x ≡ accepted v → ((t ≡ true) × AllMet ds) × (a ≡ accepted v)) t (provided ds a) (refused number place)
      (λ h q. let r = passed ds v q in ((h, r.0), r.1)) (λ h q. not-both q) e
  passed (finds_none number p k n ∷ ds) v e =
      search-cases p (λ i. refused number i) (provided ds a) k n
      (λ x. x ≡ accepted v → (((i : ℕ) → k ≤ i → i < k + n → p i ≡ false) × AllMet ds) × (a ≡ accepted v))
      (λ i l m t before q. not-both q) (λ none q. let r = passed ds v q in ((none, r.0), r.1)) e

  pub passing : (ds : List Demand) → AllMet ds → provided ds a ≡ a
  unfolding provided
  passing [] h = refl
  passing (asks number place t ∷ ds) h = rw h.0 (passing ds h.1)
  passing (finds_none number p k n ∷ ds) h =
      search-cases p (λ i. refused number i) (provided ds a) k n (λ x. x ≡ a) (λ i l m t before. no-yes (p i) (h.0 i l m) t)
      (λ none. passing ds h.1)

  -- ---- refused exactly by the first demand that is not met

  pub stopped : {ds : List Demand} {number place : ℕ} → Stops ds number place → provided ds a ≡ refused number place
  unfolding provided
  stopped (fails f) = rw f
  stopped (found {number} {k} {n} {i} {p} {ds} l m t before) =
      search-cases p (λ j. refused number j) (provided ds a) k n (λ x. x ≡ refused number i)
      (λ j l' m' t' before'. ap (refused number) (one-first p k j i l' l t' t before' before)) (λ none. no-yes (p i) (none i l m) t)
  stopped (later {d = asks n q t} m s) = rw m (stopped s)
  stopped (later {d = finds_none n p k c} {ds} {number} {place} m s) =
      search-cases p (λ i. refused n i) (provided ds a) k c (λ x. x ≡ refused number place) (λ i l u t before. no-yes (p i) (m i l u) t)
      (λ none. stopped s)

-- ---- the same, of a chain that ends in a value

module _ {A : Type 0} (v : A) where
  pub met : (ds : List Demand) {w : A} → provided ds (accepted v) ≡ accepted w → AllMet ds × (v ≡ w)
  met ds {w} e =
      let p = passed (accepted v) ds w e in
      (p.0, cc p.1)

  pub stops : (ds : List Demand) (number place : ℕ) → provided ds (accepted v) ≡ refused number place → Stops ds number place
  unfolding provided
  stops [] number place e = not-both (sym e)
  stops (asks n q t ∷ ds) number place e =
      pick-cases (λ x. x ≡ refused number place → Stops (asks n q t ∷ ds) number place) t (provided ds (accepted v)) (refused n q)
      (λ h r. later h (stops ds number place r)) (λ h r. same-refusal r (fails h)) e
  stops (finds_none n p k c ∷ ds) number place e =
      search-cases p (λ i. refused n i) (provided ds (accepted v)) k c
      (λ x. x ≡ refused number place → Stops (finds_none n p k c ∷ ds) number place)
      (λ i l m t before r. same-refusal r (found l m t before)) (λ none r. later none (stops ds number place r)) e

-- ---- where code looked for the first place first, by a test of its own and counted from 0: r is that place, or how many there are

module _ (p q : ℕ → Bool) (m n many r : ℕ) (same : (i : ℕ) → i < n → p (m + i) ≡ q i) (long : many ≡ n)
    (e : r ≡ first q 0 many (λ i. i) many) where
  back : (j : ℕ) → m ≤ j → j < m + n → q (j - m) ≡ false → p j ≡ false
  back j l u f =
      let i : m + (j - m) ≡ j = omega arith in
      rw i at (same (j - m) (omega arith) ∙ f)

  pub found_from : {number : ℕ} {ds : List Demand} → r < n → Stops (finds_none number p m n ∷ ds) number (m + r)
  found_from {number} {ds} h =
      search-cases q (λ i. i) many 0 many (λ x. r ≡ x → Stops (finds_none number p m n ∷ ds) number (m + r))
      (λ i l u t before x. rw x (found {k = m} {n = n} {i = m + i} {p = p} (omega arith) (omega arith) (same i (omega arith) ∙ t)
      (λ j below above. back j below (omega arith) (before (j - m) (omega arith) (omega arith)))))
      (λ none x. absurd (omega arith)) e

  pub none_from : n ≤ r → (j : ℕ) → m ≤ j → j < m + n → p j ≡ false
  none_from h =
      search-cases q (λ i. i) many 0 many (λ x. r ≡ x → (j : ℕ) → m ≤ j → j < m + n → p j ≡ false)
      (λ i l u t before x. absurd (omega arith))
      (λ none x j below above. back j below above (none (j - m) (omega arith) (omega arith))) e

-- the places themselves
module _ (p q : ℕ → Bool) (n many r : ℕ) (same : (i : ℕ) → p i ≡ q i) (long : many ≡ n) (e : r ≡ first q 0 many (λ i. i) many) where
  pub found_here : {number : ℕ} {ds : List Demand} → r < n → Stops (finds_none number p 0 n ∷ ds) number r
  found_here {number} {ds} h =
      subst (Stops (finds_none number p 0 n ∷ ds) number) (zero-add r)
      (found_from p q 0 n many r (λ i l. ap p (zero-add i) ∙ same i) long e h)

  pub none_here : n ≤ r → (i : ℕ) → 0 ≤ i → i < 0 + n → p i ≡ false
  none_here = none_from p q 0 n many r (λ i l. ap p (zero-add i) ∙ same i) long e

-- and the test itself
module _ (p : ℕ → Bool) (n r : ℕ) (e : r ≡ first p 0 n (λ i. i) n) where
  pub place_found : {number : ℕ} {ds : List Demand} → r < n → Stops (finds_none number p 0 n ∷ ds) number r
  place_found h = found_here p p n n r (λ i. refl) refl e h

  pub none_found : n ≤ r → (i : ℕ) → 0 ≤ i → i < 0 + n → p i ≡ false
  none_found = none_here p p n n r (λ i. refl) refl e

-- ---- one chain after another

module _ {A : Type 0} (a : Answer A) where
  pub followed : (ds es : List Demand) → provided (ds ++ es) a ≡ provided ds (provided es a)
  unfolding provided
  followed [] es = refl
  followed (asks number place t ∷ ds) es = ap (λ x. pick t x (refused number place)) (followed ds es)
  followed (finds_none number p k n ∷ ds) es = ap (λ x. first p k n (λ i. refused number i) x) (followed ds es)

-- demands that are met leave the answer to those after them
pub passes_on : {A : Type 0} (a : Answer A) (ds es : List Demand) → AllMet ds → provided (ds ++ es) a ≡ provided es a
passes_on a ds es h = followed a ds es ∙ passing (provided es a) ds h

pub all_of : (ds es : List Demand) → AllMet ds → AllMet es → AllMet (ds ++ es)
all_of [] es m n = n
all_of (d ∷ ds) es m n = (m.0, all_of ds es m.1 n)

-- and one that stops after them stops
pub further : (ds : List Demand) {es : List Demand} {number place : ℕ} → AllMet ds → Stops es number place → Stops (ds ++ es) number place
further [] m s = s
further (d ∷ ds) m s = later m.0 (further ds m.1 s)

-- where one stops, it stops whatever follows
pub extended : {ds : List Demand} {number place : ℕ} → Stops ds number place → (es : List Demand) → Stops (ds ++ es) number place
extended (fails f) es = fails f
extended (found l m t before) es = found l m t before
extended (later m s) es = later m (extended s es)

-- and not at a demand that is met
pub beyond : {d : Demand} {ds : List Demand} {number place : ℕ} → Met d → Stops (d ∷ ds) number place → Stops ds number place
beyond m (fails {t} f) = no-yes t f m
beyond m (found {i} {p} l u t before) = no-yes (p i) (m i l u) t
beyond m (later m' s) = s

-- ---- two lists of demands, one after the other

pub past : (ds : List Demand) {es : List Demand} {number place : ℕ} → AllMet ds → Stops es number place → Stops (ds ++ es) number place
past [] m s = s
past (d ∷ ds) m s = later m.0 (past ds m.1 s)

pub both-met : (ds es : List Demand) → AllMet ds → AllMet es → AllMet (ds ++ es)
both-met [] es m n = n
both-met (d ∷ ds) es m n = (m.0, both-met ds es m.1 n)

pub parts-met : (ds es : List Demand) → AllMet (ds ++ es) → AllMet ds × AllMet es
parts-met [] es m = (tt, m)
parts-met (d ∷ ds) es m = let r = parts-met ds es m.1 in ((m.0, r.0), r.1)
