-- Repair of a lane goes by what it lacks, and repair of the lanes by their octets is repair of each. Assumes nothing.
use mathlib.Core.Path.{◌≡◌, refl, sym, ap, ◌∙◌, subst}
use mathlib.Core.Logic.{⊎_elim}
use mathlib.Core.Bool.{true, false, not}
use mathlib.Core.List.{List, ◌++◌, map}
use Prim.Native.Nat.{ℕ, zero, suc, ◌+◌, ◌-◌, ◌^◌, ◌≤◌, ◌<◌}
use native.Mathlib.Nat.{add-zero, lt_irrefl}
use native.Mathlib.Numerals.{add-one}
use native.Mathlib.Omega.{arith}
use borrow.Author.Tests.{eq-eqb, ne_eqb}
use lib.Dec.{eqb}
use lib.Pow.{pow_pos, pow-lt}
use lib.ListN.{length, get_or, set, take, drop, get_or-append}
use lib.Seq.{length-take-le, get_or-take, get_or-drop, get_or-append-add}
use lib.Bits.{bit_xor, xor_lt, xor_self}
use Rattle.std.specs.Prelude.{Option, Some, None}
use Rattle.bits.specs.Pick.{pick}
use Rattle.bits.specs.Row.{little, digit, Below}
use Rattle.bits.proofs.Tests.{order}
use Rattle.bits.proofs.Digits.{digit_lt}
use Rattle.bits.proofs.Xor.{xor-twice}
use Rattle.bits.proofs.Crossing.{length-crossed}
use Rattle.bits.proofs.Filling.{length_over}
use Rattle.bits.proofs.Beside.{inverted, length-inverted, across-other, across-inverted, same_or_not, below_set}
use Rattle.answer.specs.Answer.{Answer, Answer.accepted, Answer.refused}
use Rattle.answer.specs.Demand.{◌&◌}
use Rattle.answer.specs.Demand.Stops.{found, later}
use Rattle.answer.proofs.Chains.{passing, stopped}
use Rattle.codes.specs.Lane.{flip, repaired}
use Rattle.codes.proofs.Syndrome.{satisfies-lt}
use Rattle.codes.proofs.LaneLaws.{repair-gives-near, repaired-by-place}
use Rattle.codes.specs.Lanes.{lane_of, lanes_of, refuses, hopeless_at, lane_in, mended_lane, mended_octets, lanes_apart}
use Rattle.codes.specs.Inner.{syndrome, place_for, at_place, mended_lanes, mended_to, mend_answer, lanes_done, octets_after}
use Rattle.codes.proofs.CheckLaws.{length-lanes, get_or-lanes, map-lanes, map-lane, by-lanes, lane-across, across-below, by_map, lane-map, lane-lt}

-- ---- one lane, by what it lacks

module _ (lane : ℕ) (h : lane < 2 ^ 30) where
  abbrev place : Option ℕ
  place = place_for (syndrome lane)

  by-lacking : repaired lane ≡ pick (eqb (syndrome lane) 0) (accepted lane) (at_place lane place)
  by-lacking = repaired-by-place lane h

  pub none-lacking : syndrome lane ≡ 0 → repaired lane ≡ accepted lane
  none-lacking e = by-lacking ∙ rw (eq-eqb (syndrome lane) 0 e)

  pub one-lacking : (syndrome lane ≡ 0 → ⊥) → (k : ℕ) → place ≡ Some k → repaired lane ≡ accepted (bit_xor lane (2 ^ k))
  unfolding flip
  one-lacking n k e = by-lacking ∙ rw (ne_eqb (syndrome lane) 0 n, e)

  pub too-much-lacking : (syndrome lane ≡ 0 → ⊥) → place ≡ None → repaired lane ≡ refused 15 0
  too-much-lacking n e = by-lacking ∙ rw (ne_eqb (syndrome lane) 0 n, e)

-- the lane with a place inverted is another one
inverted-differs : (lane k : ℕ) → eqb (bit_xor lane (2 ^ k)) lane ≡ false
inverted-differs lane k =
    ne_eqb (bit_xor lane (2 ^ k)) lane
    (λ e. let z : 2 ^ k ≡ 0 = sym (xor-twice lane (2 ^ k)) ∙ ap (bit_xor lane) e ∙ xor_self lane in lt_irrefl 0 (rw z at (pow_pos k)))

-- what repair gives is a lane
pub mended-lt : (lane : ℕ) → lane < 2 ^ 30 → mended_lane lane < 2 ^ 30
unfolding mended_lane
mended-lt lane h = go (repaired lane) refl
  where
    go : (a : Answer ℕ) → repaired lane ≡ a → lane_in a lane < 2 ^ 30
    go (accepted x) e = satisfies-lt x (repair-gives-near lane x e).right
    go (refused n p) e = h

-- ---- one place inverted

-- lane i has the place inverted, the other lanes are as they were
module _ (xs : List ℕ) (k : ℕ) (h : k < length xs) where
  lane-inverted : (i : ℕ) → lane_of i (inverted xs k h i) ≡ bit_xor (lane_of i xs) (2 ^ k)
  unfolding lane_of
  lane-inverted i = across-inverted xs k h i

  lane-other : (i j : ℕ) → (i ≡ j → ⊥) → lane_of j (inverted xs k h i) ≡ lane_of j xs
  unfolding lane_of
  lane-other i j n = ap little (across-other xs k h i j n)

  inverted-below : (i : ℕ) → i < 8 → Below (2 ^ 8) xs → Below (2 ^ 8) (inverted xs k h i)
  inverted-below i l b =
      below_set (2 ^ 8) xs k (bit_xor (get_or xs k 0) (2 ^ i)) b (xor_lt 8 (get_or xs k 0) (2 ^ i) (b k) (pow-lt {i = i} {j = 8} l))

-- ---- eight lanes, of which some are mended

pub lanes-mended : (n : ℕ) (os : List ℕ) → n ≤ 8 → length (mended_lanes n os) ≡ 8
unfolding mended_lanes
lanes-mended n os h =
    length_over n (map mended_lane (lanes_of os)) (lanes_of os) (omega (arith, map-lanes mended_lane os)) (omega (arith, length-lanes os))
    ∙ length-lanes os

pub lane-before : (n : ℕ) (os : List ℕ) (j : ℕ) → n ≤ 8 → j < n → get_or (mended_lanes n os) j 0 ≡ mended_lane (lane_of j os)
unfolding mended_lanes
lane-before n os j h l =
    get_or-append (take n (map mended_lane (lanes_of os))) (drop n (lanes_of os)) 0 j
    (rw (length-take-le n (map mended_lane (lanes_of os)) (omega (arith, map-lanes mended_lane os))) l)
    ∙ get_or-take n (map mended_lane (lanes_of os)) j 0 l ∙ map-lane mended_lane os j (omega arith)

pub lane-after : (n : ℕ) (os : List ℕ) (j : ℕ) → n ≤ j → j < 8 → get_or (mended_lanes n os) j 0 ≡ lane_of j os
unfolding mended_lanes
lane-after n os j h l =
    let e : length (take n (map mended_lane (lanes_of os))) ≡ n =
    length-take-le n (map mended_lane (lanes_of os)) (omega (arith, map-lanes mended_lane os)) in
    let q : j ≡ n + (j - n) = omega arith in
    ap (λ (t : ℕ). get_or (take n (map mended_lane (lanes_of os)) ++ drop n (lanes_of os)) t 0) q
    ∙ (rw e at (get_or-append-add (take n (map mended_lane (lanes_of os))) (drop n (lanes_of os)) (j - n) 0))
    ∙ get_or-drop n (lanes_of os) (j - n) 0 ∙ ap (λ (t : ℕ). get_or (lanes_of os) t 0) (sym q) ∙ get_or-lanes os j l

pub apart-le : (n : ℕ) (a b : List ℕ) → lanes_apart n a b ≤ n
unfolding lanes_apart
apart-le zero a b = omega arith
apart-le (suc n) a b = omega (arith, apart-le n a b, digit_lt (not (eqb (lane_of n a) (lane_of n b))))

-- of 30 octets
module _ (os : List ℕ) (h : length os ≡ 30) (b : Below (2 ^ 8) os) where
  lane_bound : (n j : ℕ) → n ≤ 8 → j < 8 → get_or (mended_lanes n os) j 0 < 2 ^ 30
  lane_bound n j hn hj =
      ⊎_elim (λ (l : n ≤ j). rw (lane-after n os j l hj) (lane-lt os h j))
      (λ (l : j < n). rw (lane-before n os j hn l) (mended-lt (lane_of j os) (lane-lt os h j))) (order n j)

  pub lane-mended : (n j : ℕ) → n ≤ 8 → j < 8 → lane_of j (mended_to n os) ≡ get_or (mended_lanes n os) j 0
  unfolding mended_to
  lane-mended n j hn hj = lane-across (mended_lanes n os) (lanes-mended n os hn) 30 j hj (lane_bound n j hn hj)

  pub length-mended : (n : ℕ) → length (mended_to n os) ≡ 30
  unfolding mended_to
  length-mended n = length-crossed 0 30 (mended_lanes n os)

  pub mended-below : (n : ℕ) → n ≤ 8 → Below (2 ^ 8) (mended_to n os)
  unfolding mended_to
  mended-below n hn = across-below (mended_lanes n os) (lanes-mended n os hn) 30

  -- 30 octets with these lanes
  pub by-mended : (n : ℕ) (xs : List ℕ) → n ≤ 8 → length xs ≡ 30 → Below (2 ^ 8) xs → ((j : ℕ) → j < 8 → lane_of j xs ≡ get_or (mended_lanes n os) j 0)
      → xs ≡ mended_to n os
  unfolding mended_to
  by-mended n xs hn e bx same = by-lanes (mended_lanes n os) (lanes-mended n os hn) 30 xs e bx same

  pub none-mended : os ≡ mended_to 0 os
  none-mended = by-mended 0 os (omega arith) h b (λ j l. sym (lane-after 0 os j (omega arith) l))

  pub all-mended : (j : ℕ) → j < 8 → lane_of j (mended_octets os) ≡ mended_lane (lane_of j os)
  unfolding mended_octets
  all-mended j l = lane-map mended_lane os 30 j l (mended-lt (lane_of j os) (lane-lt os h j))

  -- with all eight lanes mended these are the octets that repair gives
  pub all_done : mended_to 8 os ≡ mended_octets os
  unfolding mended_octets
  all_done =
      by_map mended_lane os 30 (mended_to 8 os) (length-mended 8) (mended-below 8 (omega arith))
      (λ j l. lane-mended 8 j (omega arith) l ∙ lane-before 8 os j (omega arith) l)

  -- one lane more
  module _ (i : ℕ) (hi : i < 8) where
    abbrev ys : List ℕ
    ys = mended_to i os

    lane-now : (j : ℕ) → j < 8 → lane_of j ys ≡ get_or (mended_lanes i os) j 0
    lane-now j l = lane-mended i j (omega arith) l

    -- lanes other than i are as due already
    same-others : (j : ℕ) → j < 8 → (i ≡ j → ⊥) → get_or (mended_lanes i os) j 0 ≡ get_or (mended_lanes (i + 1) os) j 0
    same-others j l n =
        ⊎_elim
        (λ (q : i ≤ j). let r : i + 1 ≤ j = later i j q n in lane-after i os j q l ∙ sym (lane-after (i + 1) os j r l))
        (λ (q : j < i). lane-before i os j (omega arith) q ∙ sym (lane-before (i + 1) os j (omega arith) (omega arith))) (order i j)
      where
        later : (i j : ℕ) → i ≤ j → (i ≡ j → ⊥) → i + 1 ≤ j
        later i j q n = ⊎_elim (λ (r : i + 1 ≤ j). r) (λ (r : j < i + 1). absurd (n (omega arith))) (order (i + 1) j)

    -- octets with lane i as repair gives it, and the others as they are
    at-lane : (x : ℕ) → mended_lane (lane_of i os) ≡ x → (xs : List ℕ) → length xs ≡ 30 → Below (2 ^ 8) xs → lane_of i xs ≡ x
        → ((j : ℕ) → (i ≡ j → ⊥) → lane_of j xs ≡ lane_of j ys) → xs ≡ mended_to (i + 1) os
    at-lane x e xs n bx here there =
        by-mended (i + 1) xs (omega arith) n bx
        (λ j l. ⊎_elim
        (λ (q : i ≡ j). subst (λ (t : ℕ). lane_of t xs ≡ get_or (mended_lanes (i + 1) os) t 0) q
        (here ∙ sym (lane-before (i + 1) os i (omega arith) (omega arith) ∙ e)))
        (λ (q : i ≡ j → ⊥). there j q ∙ lane-now j l ∙ same-others j l q) (same_or_not i j))

    lane_here : lane_of i ys ≡ lane_of i os
    lane_here = lane-now i hi ∙ lane-after i os i (omega arith) hi

    pub next-none : mended_lane (lane_of i os) ≡ lane_of i os → ys ≡ mended_to (i + 1) os
    next-none e = at-lane (lane_of i os) e ys (length-mended i) (mended-below i (omega arith)) lane_here (λ j n. refl)

    pub next_one : (k : ℕ) → k < 30 → mended_lane (lane_of i os) ≡ bit_xor (lane_of i os) (2 ^ k)
        → set ys k (bit_xor (get_or ys k 0) (2 ^ i)) ≡ mended_to (i + 1) os
    next_one k l e =
        let hk : k < length ys = rw (length-mended i) l in
        at-lane (bit_xor (lane_of i os) (2 ^ k)) e (inverted ys k hk i) (length-inverted ys k hk i ∙ length-mended i)
        (inverted-below ys k hk i hi (mended-below i (omega arith)))
        (lane-inverted ys k hk i ∙ ap (λ (x : ℕ). bit_xor x (2 ^ k)) lane_here) (λ j n. lane-other ys k hk i j n)

    -- and how many lanes differ
    count_next : lanes_apart (i + 1) (mended_octets os) os
        ≡ lanes_apart i (mended_octets os) os + digit (not (eqb (mended_lane (lane_of i os)) (lane_of i os)))
    unfolding lanes_apart
    count_next = rw (add-one i, all-mended i hi)

    pub count_none : mended_lane (lane_of i os) ≡ lane_of i os → lanes_apart (i + 1) (mended_octets os) os ≡ lanes_apart i (mended_octets os) os
    count_none e = count_next ∙ rw (eq-eqb (mended_lane (lane_of i os)) (lane_of i os) e) (add-zero (lanes_apart i (mended_octets os) os))

    pub count-one : (k : ℕ) → mended_lane (lane_of i os) ≡ bit_xor (lane_of i os) (2 ^ k)
        → lanes_apart (i + 1) (mended_octets os) os ≡ lanes_apart i (mended_octets os) os + 1
    count-one k e = count_next ∙ rw (e, inverted-differs (lane_of i os) k)

  -- ---- nothing is lacking

  module _ (clean : (j : ℕ) → j < 8 → syndrome (lane_of j os) ≡ 0) where
    stays : (j : ℕ) → j < 8 → mended_lane (lane_of j os) ≡ lane_of j os
    unfolding mended_lane
    stays j l = ap (λ (a : Answer ℕ). lane_in a (lane_of j os)) (none-lacking (lane_of j os) (lane-lt os h j) (clean j l))

    pub clean-hope : (j : ℕ) → j < 8 → hopeless_at os j ≡ false
    unfolding hopeless_at
    clean-hope j l = ap refuses (none-lacking (lane_of j os) (lane-lt os h j) (clean j l))

    pub clean-octets : mended_octets os ≡ os
    unfolding mended_octets
    clean-octets =
        sym (by_map mended_lane os 30 os h b (λ j l. sym (stays j l)))

    none_apart : (n : ℕ) (xs : List ℕ) → lanes_apart n xs xs ≡ 0
    unfolding lanes_apart
    none_apart zero xs = refl
    none_apart (suc n) xs = rw (none_apart n xs, eq-eqb (lane_of n xs) (lane_of n xs) refl)

    pub clean-count : lanes_apart 8 (mended_octets os) os ≡ 0
    clean-count = ap (λ (xs : List ℕ). lanes_apart 8 xs os) clean-octets ∙ none_apart 8 os

-- ---- the answer, and the octets that it leaves

-- none of the lanes before i is refused
abbrev pub Passed : List ℕ → ℕ → Type 0
Passed os i = (j : ℕ) → j < i → hopeless_at os j ≡ false

module _ (os : List ℕ) (h : length os ≡ 30) where
  pub whole : Passed os 8 → accepted (lanes_apart 8 (mended_octets os) os) ≡ mend_answer os
  unfolding mend_answer
  whole none = sym (passing _ _ (eq-eqb (length os) 30 h & (λ j a l. none j (omega arith)) & tt))

  pub halted : (i : ℕ) → i < 8 → Passed os i → hopeless_at os i ≡ true → refused 15 i ≡ mend_answer os
  unfolding mend_answer
  halted i l none t = sym (stopped _ (later (eq-eqb (length os) 30 h) (found (omega arith) (omega arith) t (λ j a m. none j m))))

  pub after : (a : Answer ℕ) → a ≡ mend_answer os → mended_to (lanes_done a) os ≡ octets_after os
  unfolding octets_after
  after a e = rw (eq-eqb (length os) 30 h) (ap (λ (x : Answer ℕ). mended_to (lanes_done x) os) e)
