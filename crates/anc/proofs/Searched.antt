-- What the searches over words say, in the terms of a packet's demands. Assumes nothing.
use mathlib.Core.Path.{◌≡◌, sym, ap, ◌∙◌}
use mathlib.Core.Logic.{⊎_elim}
use mathlib.Core.Bool.{Bool, true, false, not}
use mathlib.Core.List.{List, ◌∷◌}
use Prim.Native.Nat.{ℕ, ◌^◌, ◌+◌, ◌-◌, ◌≤◌, ◌<◌}
use native.Mathlib.Omega.{arith}
use borrow.Author.Tests.{le-ltb, ltb-false, not-false}
use lib.ListN.{length, get_or, take, drop, length-drop}
use lib.Seq.{length-take-le, get_or-take, get_or-drop}
use Rattle.std.specs.Prelude.{Option, Some, None}
use Rattle.std.specs.Option.{MatchOption}
use Rattle.std.specs.List.{FoldsTo, AllWithin, HoldsAt}
use Rattle.std.specs.Fn.{Called}
use Rattle.std.specs.Iterator.{YieldsThen}
use Rattle.std.specs.Slice.Iter.{iter_rest}
use Rattle.std.proofs.Common.{Iter}
use Rattle.std.proofs.iter.Yields.{fronts}
use Rattle.std.proofs.lemmas.Iterator.{IsFirst-from_position, YieldsList-from_slice}
use denote.Param.Members.{Mut}
use denote.Ref.{Bor}
use Rattle.bits.specs.Pick.{first}
use Rattle.bits.proofs.Places.{first-none}
use Rattle.bits.proofs.Tests.{order, no-yes}
use Rattle.answer.specs.Demand.{Demand, Demand.finds_none, Stops}
use Rattle.answer.specs.Demand.Stops.{found}
use Rattle.answer.proofs.Chains.{search-cases}
use Rattle.anc.specs.Word.{right_by, parities, wide_at, wrong_at}
use Rattle.anc.specs.declared.B8.{B8}
use Rattle.anc.specs.Inner.{first_wide, first_wrong}

-- ---- a word's tests

pub narrow-passes : (ws : List ℕ) (k : ℕ) → get_or ws k 0 < 2 ^ 10 → wide_at ws k ≡ false
unfolding wide_at
narrow-passes ws k h = le-ltb 1023 (get_or ws k 0) (omega arith)

pub passes-narrow : (ws : List ℕ) (k : ℕ) → wide_at ws k ≡ false → get_or ws k 0 < 2 ^ 10
unfolding wide_at
passes-narrow ws k e = omega (arith, ltb-false 1023 (get_or ws k 0) e)

module _ (rule : ℕ → B8) where
  pub right-passes : (ws : List ℕ) (k : ℕ) → right_by (rule k) (get_or ws k 0) ≡ true → wrong_at rule ws k ≡ false
  unfolding wrong_at
  right-passes ws k e = ap not e

  pub wrong-fails : (ws : List ℕ) (k : ℕ) → right_by (rule k) (get_or ws k 0) ≡ false → wrong_at rule ws k ≡ true
  unfolding wrong_at
  wrong-fails ws k e = ap not e

  pub passes-right : (ws : List ℕ) (k : ℕ) → wrong_at rule ws k ≡ false → right_by (rule k) (get_or ws k 0) ≡ true
  unfolding wrong_at
  passes-right ws k e = not-false (right_by (rule k) (get_or ws k 0)) e

-- the test depends on the word alone, where the rule is the same in every place
pub wrong-same : (ws vs : List ℕ) (k j : ℕ) → get_or ws k 0 ≡ get_or vs j 0 → wrong_at parities ws k ≡ wrong_at parities vs j
unfolding wrong_at
wrong-same ws vs k j e = ap (λ w. not (right_by (parities k) w)) e

-- ---- the searches

-- what the first place with a property says, and what it says that there is none
module _ (p : ℕ → Bool) (n : ℕ) where
  pub first-stops : {i : ℕ} → Some i ≡ first p 0 n Some None → {number : ℕ} {ds : List Demand} → Stops (finds_none number p 0 n ∷ ds) number i
  first-stops {i} e {number} {ds} =
      search-cases p Some None 0 n (λ x. Some i ≡ x → Stops (finds_none number p 0 n ∷ ds) number i)
      (λ j l m t before q.
      let same : i ≡ j = cc in
      rw same (found l m t before))
      (λ none q. absurd cc) e

  pub first-below : {i : ℕ} → Some i ≡ first p 0 n Some None → i < n
  first-below {i} e =
      search-cases p Some None 0 n (λ x. Some i ≡ x → i < n)
      (λ j l m t before q.
      let same : i ≡ j = cc in
      omega arith)
      (λ none q. absurd cc) e

  pub first-clear : None ≡ first p 0 n Some None → (i : ℕ) → 0 ≤ i → i < 0 + n → p i ≡ false
  first-clear e =
      search-cases p Some None 0 n (λ x. None ≡ x → (i : ℕ) → 0 ≤ i → i < 0 + n → p i ≡ false) (λ j l m t before q. absurd cc) (λ none q. none) e

-- the position of the first element of a list that passes a test is that place
module _ (t p : ℕ → Bool) (xs : List ℕ) (same : (k : ℕ) → p k ≡ t (get_or xs k 0)) where
  position : (r : Option ℕ)
      → MatchOption r (AllWithin (λ x. t x ≡ false) xs 0 (length xs))
      (λ i. (i < length xs) × HoldsAt (λ x. t x ≡ true) xs i × AllWithin (λ x. t x ≡ false) xs 0 i)
      → r ≡ first p 0 (length xs) Some None
  position None none =
      sym (first-none p Some None 0 (length xs) (λ k l. same k ∙ none k 0 (omega arith) (omega arith)))
  position (Some i) here =
      search-cases p Some None 0 (length xs) (λ x. Some i ≡ x)
      (λ j l u h before. ⊎_elim (λ (le : i ≤ j). ⊎_elim (λ (ge : j ≤ i). let e : i ≡ j = omega arith in ap Some e)
      (λ (lt : i < j). no-yes (p i) (before i (omega arith) lt) (same i ∙ here.1 0)) (order j i))
      (λ (gt : j < i). no-yes (p j) (same j ∙ here.2 j 0 (omega arith) gt) h) (order i j))
      (λ none. no-yes (p i) (none i (omega arith) (omega (arith, here.0))) (same i ∙ here.1 0))

  -- as `position` finds it in a slice
  pub position-first : {F : Type 0} {g : Mut F (Bor ℕ × Unit {0}) Bool} {s : Iter ℕ} (u : Iter ℕ) (f : F) (r : Option ℕ)
      → (ys : List (Bor ℕ)) × (o : Option (Bor ℕ)) × (j : F) × YieldsThen fronts s ys o u × FoldsTo (λ e x q. Called g e (x, tt) false q) f ys j
      × MatchOption o (r ≡ None) (λ x. (r ≡ Some (length ys)) × ((h : F) × Called g j (x, tt) true h))
      → iter_rest s ≡ xs → ((x : Bor ℕ) (q : F) → Called g f (x, tt) true q → t x.now ≡ true)
      → ((x : Bor ℕ) (q : F) → Called g f (x, tt) false q → (q ≡ f) × (t x.now ≡ false)) → r ≡ first p 0 (length xs) Some None
  position-first u f r ran e passes fails =
      position r
      (IsFirst-from_position u f r (λ x. t x ≡ true) (λ x. t x ≡ false) ran (YieldsList-from_slice xs e) passes fails)

module _ (ws : List ℕ) where
  pub wide-found : {i : ℕ} → Some i ≡ first_wide ws → {number : ℕ} {ds : List Demand} → Stops (finds_none number (wide_at ws) 0 (length ws) ∷ ds) number i
  unfolding first_wide
  wide-found e = first-stops (wide_at ws) (length ws) e

  pub wide-below : {i : ℕ} → Some i ≡ first_wide ws → i < length ws
  unfolding first_wide
  wide-below e = first-below (wide_at ws) (length ws) e

  pub none-wide : None ≡ first_wide ws → (i : ℕ) → 0 ≤ i → i < 0 + length ws → wide_at ws i ≡ false
  unfolding first_wide
  none-wide e = first-clear (wide_at ws) (length ws) e

  none-wrong : None ≡ first_wrong ws → (i : ℕ) → 0 ≤ i → i < 0 + length ws → wrong_at parities ws i ≡ false
  unfolding first_wrong
  none-wrong e = first-clear (wrong_at parities ws) (length ws) e

-- ---- a search of the n places from k on that counts them from 0

module _ (p : ℕ → Bool) (k n r : ℕ) (e : r ≡ first (λ i. p (k + i)) 0 n (λ i. i) n) where
  from : (j : ℕ) → k ≤ j → p (k + (j - k)) ≡ false → p j ≡ false
  from j l f =
      let q : k + (j - k) ≡ j = omega arith in
      rw q at f

  pub counted-found : r < n → {number : ℕ} {ds : List Demand} → Stops (finds_none number p k n ∷ ds) number (k + r)
  counted-found l {number} {ds} =
      search-cases (λ i. p (k + i)) (λ i. i) n 0 n (λ x. r ≡ x → Stops (finds_none number p k n ∷ ds) number (k + r))
      (λ i a m t before q.
      let s : i ≡ r = sym q in
      found (omega arith) (omega arith) (ap (λ (j : ℕ). p (k + j)) (sym s) ∙ t)
      (λ j b u. from j b (before (j - k) (omega arith) (omega arith))))
      (λ none q. absurd (omega arith)) e

  pub counted_none : n ≤ r → (i : ℕ) → k ≤ i → i < k + n → p i ≡ false
  counted_none l =
      search-cases (λ i. p (k + i)) (λ i. i) n 0 n (λ x. r ≡ x → (i : ℕ) → k ≤ i → i < k + n → p i ≡ false)
      (λ i a m t before q. absurd (omega arith)) (λ none q i b u. from i b (none (i - k) (omega arith) (omega arith))) e

-- ---- of a stretch of the words, n from word k on, in the places that it has among them, by the parity

module _ (ws : List ℕ) (k n : ℕ) (h : k + n ≤ length ws) where
  abbrev pub stretch : List ℕ
  stretch = take n (drop k ws)

  pub length-stretch : length stretch ≡ n
  length-stretch = length-take-le n (drop k ws) (omega (arith, length-drop k ws))

  pub at-stretch : (i : ℕ) → i < n → get_or stretch i 0 ≡ get_or ws (k + i) 0
  at-stretch i l = get_or-take n (drop k ws) i 0 l ∙ get_or-drop k ws i 0

  moved : (j : ℕ) → k ≤ j → j < k + n → wrong_at parities ws j ≡ wrong_at parities stretch (j - k)
  moved j a l =
      let e : k + (j - k) ≡ j = omega arith in
      wrong-same ws stretch j (j - k) (ap (λ i. get_or ws i 0) (sym e) ∙ sym (at-stretch (j - k) (omega arith)))

  pub stretch-found : {i : ℕ} → Some i ≡ first_wrong stretch → {number : ℕ} {ds : List Demand}
      → Stops (finds_none number (wrong_at parities ws) k n ∷ ds) number (k + i)
  unfolding first_wrong
  stretch-found {i} e {number} {ds} =
      search-cases (wrong_at parities stretch) Some None 0 (length stretch)
      (λ x. Some i ≡ x → Stops (finds_none number (wrong_at parities ws) k n ∷ ds) number (k + i))
      (λ m a u t before q.
      let same : i ≡ m = cc in
      let s : k + i - k ≡ m = omega arith in
      let l : m < n = omega (arith, length-stretch) in
      found (omega arith) (omega arith) (moved (k + i) (omega arith) (omega arith) ∙ ap (wrong_at parities stretch) s ∙ t)
      (λ j b v. moved j b (omega arith) ∙ before (j - k) (omega arith) (omega arith)))
      (λ none q. absurd cc) e

  pub stretch-below : {i : ℕ} → Some i ≡ first_wrong stretch → i < n
  unfolding first_wrong
  stretch-below e = omega (arith, first-below (wrong_at parities stretch) (length stretch) e, length-stretch)

  pub stretch-right : None ≡ first_wrong stretch → (i : ℕ) → k ≤ i → i < k + n → wrong_at parities ws i ≡ false
  stretch-right e i a u = moved i a u ∙ none-wrong stretch e (i - k) (omega arith) (omega (arith, length-stretch))
