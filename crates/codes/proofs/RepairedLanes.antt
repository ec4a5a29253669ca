-- What carriers use of the eight lanes: which fail, the octets whose lanes repair gives, and which lanes it refuses. One law for every
-- lane.
-- Assumes nothing.
use mathlib.Core.Path.{◌≡◌, refl, sym, ap, ◌∙◌}
use mathlib.Core.Logic.{⊎_elim}
use mathlib.Core.Bool.{Bool, true, false, not}
use mathlib.Core.List.{List, ◌∷◌, ◌++◌, map}
use Prim.Native.Nat.{ℕ, ◌+◌, ◌^◌, ◌≤◌, ◌<◌}
use native.Mathlib.Omega.{arith}
use lib.Count.{ones}
use lib.ListN.{length, length-append}
use lib.Seq.{take_at}
use borrow.Author.Tests.{eq-eqb}
use lib.Bits.{bit_xor, xor_self}
use Rattle.std.specs.Prelude.{Some, None}
use Rattle.bits.specs.Pick.{first}
use Rattle.bits.specs.Row.{Below}
use Rattle.bits.proofs.Xor.{xor-four, ones-xor-le}
use Rattle.bits.proofs.Beside.{same_or_not}
use Rattle.bits.proofs.Crossing.{length-crossed}
use Rattle.codes.specs.Lane.{satisfies, apart, Near, repaired}
use Rattle.answer.specs.Answer.{Answer, Answer.accepted, Answer.refused}
use Rattle.answer.specs.Demand.{Demand, Demand.finds_none, Met, Stops}
use Rattle.answer.proofs.Chains.{met, stops, extended, beyond}
use Rattle.codes.proofs.LaneLaws.{satisfying-differ-in-four, refuses-exactly-if-none}
use Rattle.codes.specs.Lanes.{lane_of, lanes_of, check_octets, failing, refuses, hopeless_at, lane_in, mended_lane, mended_octets, lanes_apart}
use Rattle.codes.specs.Inner.{with_checks, first_failing, mended_to, mend_demands, mend_answer, lanes_done, octets_after}
use Rattle.codes.proofs.MendLaws.{all_done}
use Rattle.codes.proofs.CheckLaws.{map-lanes, by_map, across-below}

-- ---- one lane

pub lane-refused : (os : List ℕ) (i n p : ℕ) → repaired (lane_of i os) ≡ refused n p → hopeless_at os i ≡ true
unfolding hopeless_at
lane-refused os i n p e = ap refuses e

pub lane-given : (os : List ℕ) (i x : ℕ) → repaired (lane_of i os) ≡ accepted x → (hopeless_at os i ≡ false) × (mended_lane (lane_of i os) ≡ x)
unfolding hopeless_at mended_lane
lane-given os i x e = (ap refuses e, ap (λ (a : Answer ℕ). lane_in a (lane_of i os)) e)

pub given-lane : (os : List ℕ) (i : ℕ) → hopeless_at os i ≡ false → repaired (lane_of i os) ≡ accepted (mended_lane (lane_of i os))
unfolding hopeless_at mended_lane
given-lane os i = go (repaired (lane_of i os))
  where
    go : (a : Answer ℕ) → refuses a ≡ false → a ≡ accepted (lane_in a (lane_of i os))
    go (accepted x) e = refl
    go (refused n p) e = cc

-- a lane that is two places away from one that satisfies the code has none within one place
pub two-apart : (lane c : ℕ) → lane < 2 ^ 30 → satisfies c ≡ true → apart lane c ≡ 2 → repaired lane ≡ refused 15 0
unfolding apart
two-apart lane c h right two = (refuses-exactly-if-none lane h).1 (λ x p. ⊎_elim (same x p) (other x p) (same_or_not x c))
  where
    same : (x : ℕ) → Near lane x → x ≡ c → ⊥
    same x p e =
        let q : ones (bit_xor lane x) ≡ 2 = ap (λ (y : ℕ). ones (bit_xor lane y)) e ∙ two in
        omega (arith, p.within)

    meet : (x : ℕ) → bit_xor (bit_xor lane x) (bit_xor lane c) ≡ bit_xor x c
    meet x = xor-four lane x lane c ∙ ap (λ (z : ℕ). bit_xor z (bit_xor x c)) (xor_self lane)

    other : (x : ℕ) → Near lane x → (x ≡ c → ⊥) → ⊥
    other x p n =
        let q : ones (bit_xor x c) ≤ ones (bit_xor lane x) + ones (bit_xor lane c) =
        rw (meet x) at (ones-xor-le (bit_xor lane x) (bit_xor lane c)) in
        omega (arith, p.within, satisfying-differ-in-four x c p.right right n)

-- ---- 30 octets

module _ (os : List ℕ) (h : length os ≡ 30) (b : Below (2 ^ 8) os) where
  pub mended-as : (xs : List ℕ) → length xs ≡ 30 → Below (2 ^ 8) xs → ((j : ℕ) → j < 8 → lane_of j xs ≡ mended_lane (lane_of j os))
      → mended_octets os ≡ xs
  unfolding mended_octets
  mended-as xs e bx same =
      sym (by_map mended_lane os 30 xs e bx same)

  pub length-all : length (mended_octets os) ≡ 30
  unfolding mended_octets
  length-all = length-crossed 0 30 (map mended_lane (lanes_of os))

  pub all-below : Below (2 ^ 8) (mended_octets os)
  unfolding mended_octets
  all-below = across-below (map mended_lane (lanes_of os)) (map-lanes mended_lane os) 30

-- ---- what the code answers of 30 octets, by the demands of a carrier

-- checks after 24 octets of data
pub checked : (ds es : List ℕ) → length ds ≡ 24 → length es ≡ 6 → with_checks (ds ++ es) ≡ ds ++ check_octets ds
unfolding with_checks
checked ds es h k =
    let n : length (ds ++ es) ≡ 30 = simp length-append (omega arith) in
    rw (eq-eqb (length (ds ++ es)) 30 n, take_at ds es 24 h)

-- the first lane that fails
pub first-failing-place : (os : List ℕ) → length os ≡ 30 → first_failing os ≡ first (failing os) 0 8 Some None
unfolding first_failing
first-failing-place os h = rw (eq-eqb (length os) 30 h)

pub satisfied-passes : (os : List ℕ) (i : ℕ) → satisfies (lane_of i os) ≡ true → failing os i ≡ false
unfolding failing
satisfied-passes os i e = ap not e

pub passes-satisfied : (os : List ℕ) (i : ℕ) → failing os i ≡ false → satisfies (lane_of i os) ≡ true
unfolding failing
passes-satisfied os i e = not-false (satisfies (lane_of i os)) e
  where
    not-false : (b : Bool) → not b ≡ false → b ≡ true
    not-false true q = refl
    not-false false q = sym q

module _ (os : List ℕ) (h : length os ≡ 30) (b : Below (2 ^ 8) os) where
  -- a lane is refused: the first of which this is so
  pub mending-stops : {number i : ℕ} {ds : List Demand} → refused number i ≡ mend_answer os
      → Stops (finds_none 15 (hopeless_at os) 0 8 ∷ ds) number i
  unfolding mend_answer
  mending-stops {number} {i} {ds} e =
      extended (beyond (eq-eqb (length os) 30 h) (stops _ (mend_demands os) number i (sym e))) ds

  after-mending : {n : ℕ} → accepted n ≡ mend_answer os → octets_after os ≡ mended_octets os
  unfolding octets_after
  after-mending e = rw (eq-eqb (length os) 30 h) (ap (λ (a : Answer ℕ). mended_to (lanes_done a) os) (sym e) ∙ all_done os h b)

  -- all are mended: none is refused, the number of lanes that change, and the octets
  pub mending-met : {n : ℕ} → accepted n ≡ mend_answer os
      → Met (finds_none 15 (hopeless_at os) 0 8) × (n ≡ lanes_apart 8 (mended_octets os) os) × (octets_after os ≡ mended_octets os)
  unfolding mend_answer
  mending-met {n} e =
      let m = met (lanes_apart 8 (mended_octets os) os) (mend_demands os) (sym e) in
      (m.0.1.0, sym m.1, after-mending e)
