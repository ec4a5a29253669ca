-- What the divider of eight lanes holds after the data are the check octets; what stands between them and those received says, lane
-- by lane, whether the code is satisfied. Assumes nothing.
use mathlib.Core.Path.{◌≡◌, refl, sym, ap, ap₂, ◌∙◌}
use mathlib.Core.Bool.{Bool, true, not}
use mathlib.Core.List.{List, [], ◌∷◌, ◌++◌, map, append-nil}
use Prim.Native.Nat.{ℕ, zero, suc, ◌/◌, ◌^◌, ◌<◌}
use native.Mathlib.Nat.{zero-div, zero-add}
use native.Mathlib.Omega.{arith}
use borrow.Author.Tests.{eq-eqb, eqb-true}
use lib.Dec.{eqb, lit<}
use lib.Pow.{pow_pos}
use lib.ListN.{length, get_or, take, drop, take-append-drop, length-map, length-drop}
use lib.Seq.{ext_get_or, length-take-le}
use lib.Bits.{bit_xor, xor_lt}
use Rattle.bits.specs.Row.{Row, bits, little, xor_row, Below}
use Rattle.bits.specs.Cross.{across, crossed}
use Rattle.bits.proofs.Rows.{little-bits, little-lt}
use Rattle.bits.proofs.Bounds.{below-drop}
use Rattle.bits.proofs.Crossing.{length-across, length-crossed, get_or-crossed, crossed-twice, across-crossed}
use Rattle.bits.proofs.Beside.{bits-front, little-back, across-append, little-xor, odd-xor-at, get_or-map-in}
use Rattle.codes.specs.Divide.{through}
use Rattle.codes.specs.Lane.{lane_generator, lane_check, check_places, satisfies}
use Rattle.codes.proofs.Syndrome.{syndrome-lt, check-lt, by-syndrome}
use Rattle.codes.specs.Lanes.{lane_of, lanes_of, check_octets, failing}
use Rattle.codes.specs.Inner.{syndrome, lack_octets}
use Rattle.codes.specs.Differences.{xored}
use Rattle.codes.proofs.Xored.{length-xored, get_or-xored}
use Rattle.codes.proofs.Wide.{fed_all, fed-lane, six-below}

-- ---- the lanes as a list

pub length-lanes : (os : List ℕ) → length (lanes_of os) ≡ 8
unfolding lanes_of
length-lanes os = length-crossed 0 8 os

pub get_or-lanes : (os : List ℕ) (i : ℕ) → i < 8 → get_or (lanes_of os) i 0 ≡ lane_of i os
unfolding lanes_of lane_of
get_or-lanes os i h = get_or-crossed 0 8 os i h ∙ ap (λ (k : ℕ). little (across k os)) (zero-add i)

-- octets below 256 are those across their lanes, and the lanes of the numbers across eight lanes are these
module _ (ls : List ℕ) (eight : length ls ≡ 8) where
  pub by-lanes : (n : ℕ) (xs : List ℕ) → length xs ≡ n → Below (2 ^ 8) xs → ((i : ℕ) → i < 8 → lane_of i xs ≡ get_or ls i 0) → xs ≡ crossed 0 n ls
  unfolding lanes_of
  by-lanes n xs e b same =
      sym (crossed-twice 8 xs b) ∙ ap₂ (λ (m : ℕ) (k : List ℕ). crossed 0 m k) e
      (ext_get_or 0 (lanes_of xs) ls (length-lanes xs ∙ sym eight)
      (λ i l. let h : i < 8 = rw (length-lanes xs) at l in get_or-lanes xs i h ∙ same i h))

  pub lane-across : (n i : ℕ) → i < 8 → get_or ls i 0 < 2 ^ n → lane_of i (crossed 0 n ls) ≡ get_or ls i 0
  unfolding lane_of
  lane-across n i h b = ap little (across-crossed n ls i (rw eight h)) ∙ little-bits n (get_or ls i 0) b

-- f of each lane
module _ (f : ℕ → ℕ) (os : List ℕ) where
  pub map-lanes : length (map f (lanes_of os)) ≡ 8
  map-lanes = length-map (lanes_of os) f ∙ length-lanes os

  pub map-lane : (i : ℕ) → i < 8 → get_or (map f (lanes_of os)) i 0 ≡ f (lane_of i os)
  map-lane i h = get_or-map-in f 0 (lanes_of os) i (rw length-lanes h) ∙ ap f (get_or-lanes os i h)

  pub by_map : (n : ℕ) (xs : List ℕ) → length xs ≡ n → Below (2 ^ 8) xs → ((i : ℕ) → i < 8 → lane_of i xs ≡ f (lane_of i os))
      → xs ≡ crossed 0 n (map f (lanes_of os))
  by_map n xs e b same = by-lanes (map f (lanes_of os)) map-lanes n xs e b (λ i h. same i h ∙ sym (map-lane i h))

  pub lane-map : (n i : ℕ) → i < 8 → f (lane_of i os) < 2 ^ n → lane_of i (crossed 0 n (map f (lanes_of os))) ≡ f (lane_of i os)
  lane-map n i h b = lane-across (map f (lanes_of os)) map-lanes n i h (rw (map-lane i h) b) ∙ map-lane i h

-- octets across eight lanes are octets
pub crossed-below : (k n : ℕ) (xs : List ℕ) → Below (2 ^ length xs) (crossed k n xs)
unfolding crossed
crossed-below k zero xs i = pow_pos (length xs)
crossed-below k (suc n) xs zero = rw length-across at (little-lt (across k xs))
crossed-below k (suc n) xs (suc i) = crossed-below (suc k) n xs i

pub across-below : (ls : List ℕ) → length ls ≡ 8 → (n : ℕ) → Below (2 ^ 8) (crossed 0 n ls)
across-below ls e n = rw e at (crossed-below 0 n ls)

-- ---- the check octets

abbrev pub zeros : List ℕ
zeros = 0 ∷ 0 ∷ 0 ∷ 0 ∷ 0 ∷ 0 ∷ []

pub zeros-below : Below (2 ^ 8) zeros
zeros-below = six-below (2 ^ 8) 0 0 0 0 0 0 (lit< tt) (lit< tt) (lit< tt) (lit< tt) (lit< tt) (lit< tt)

zeros-lane : (i : ℕ) → little (across i zeros) ≡ 0
unfolding across little
zeros-lane i = simp zero-div

module _ (ds : List ℕ) (h : length ds ≡ 24) (i : ℕ) where
  long : length (across i ds) ≡ 24
  long = length-across i ds ∙ h

  -- check places of a lane do not count
  data-check : (es : List ℕ) → check_places (lane_of i (ds ++ es)) ≡ through 6 lane_generator 0 (across i ds)
  unfolding check_places lane_check lane_of
  data-check es =
      ap (λ (r : Row). through 6 lane_generator 0 (bits 24 (little r))) (across-append i ds es)
      ∙ ap (through 6 lane_generator 0)
      (ap (λ (m : ℕ). bits m (little (across i ds ++ across i es))) (sym long) ∙ bits-front (across i ds) (across i es))

  lane-check : check_places (lane_of i ds) ≡ through 6 lane_generator 0 (across i ds)
  lane-check = ap (λ (l : List ℕ). check_places (lane_of i l)) (sym (append-nil ds)) ∙ data-check []

  pub check-whole : (es : List ℕ) → check_places (lane_of i (ds ++ es)) ≡ check_places (lane_of i ds)
  check-whole es = data-check es ∙ sym lane-check

  -- the check places
  pub lane-last : (es : List ℕ) → lane_of i (ds ++ es) / 2 ^ 24 ≡ lane_of i es
  unfolding lane_of
  lane-last es =
      ap (λ (r : Row). little r / 2 ^ 24) (across-append i ds es)
      ∙ (rw long at (little-back (across i ds) (across i es)))

  wide-check : lane_of i (fed_all zeros ds) ≡ check_places (lane_of i ds)
  unfolding lane_of
  wide-check =
      fed-lane i ds 0 0 0 0 0 0 ∙ ap (λ (s : ℕ). through 6 lane_generator s (across i ds)) (zeros-lane i) ∙ sym lane-check

-- what the divider holds after 24 octets
pub checks-wide : (ds cs : List ℕ) → length ds ≡ 24 → length cs ≡ 6 → Below (2 ^ 8) cs → cs ≡ fed_all zeros ds → cs ≡ check_octets ds
unfolding check_octets
checks-wide ds cs h n b e = by_map check_places ds 6 cs n b (λ i l. ap (lane_of i) e ∙ wide-check ds h i)

pub lane-checks : (ds : List ℕ) (i : ℕ) → i < 8 → lane_of i (check_octets ds) ≡ check_places (lane_of i ds)
unfolding check_octets
lane-checks ds i h = lane-map check_places ds 6 i h (check-lt (lane_of i ds))

pub checks-below : (ds : List ℕ) → Below (2 ^ 8) (check_octets ds)
unfolding check_octets
checks-below ds = across-below (map check_places (lanes_of ds)) (map-lanes check_places ds) 6

pub length-checks : (ds : List ℕ) → length (check_octets ds) ≡ 6
unfolding check_octets
length-checks ds = length-crossed 0 6 (map check_places (lanes_of ds))

-- ---- what is syndrome

-- exclusive or octet by octet is exclusive or lane by lane
across-xored : (i : ℕ) (a b : List ℕ) → length a ≡ length b → across i (xored a b) ≡ xor_row (across i a) (across i b)
unfolding across xored xor_row
across-xored i [] [] n = refl
across-xored i [] (p ∷ b) n = absurd (omega arith)
across-xored i (o ∷ a) [] n = absurd (omega arith)
across-xored i (o ∷ a) (p ∷ b) n = ap₂ (λ (r : Bool) (rs : Row). r ∷ rs) (odd-xor-at i o p) (across-xored i a b (omega arith))

lane-xored : (i : ℕ) (a b : List ℕ) → length a ≡ length b → lane_of i (xored a b) ≡ bit_xor (lane_of i a) (lane_of i b)
unfolding lane_of
lane-xored i a b n =
    ap little (across-xored i a b n)
    ∙ little-xor (across i a) (across i b) (length-across i a ∙ n ∙ sym (length-across i b))

module _ (os : List ℕ) (h : length os ≡ 30) where
  pub lane-lt : (i : ℕ) → lane_of i os < 2 ^ 30
  unfolding lane_of
  lane-lt i = rw (length-across, h) at (little-lt (across i os))

  first-24 : length (take 24 os) ≡ 24
  first-24 = length-take-le 24 os (omega arith)

  pub length-last : length (drop 24 os) ≡ 6
  length-last = length-drop 24 os ∙ omega arith

  pub lacks-wide : Below (2 ^ 8) os → xored (check_octets (take 24 os)) (drop 24 os) ≡ lack_octets os
  unfolding lack_octets syndrome
  lacks-wide b =
      by_map syndrome os 6 (xored checks last) (length-xored checks last long ∙ length-last)
      (λ i. rw (get_or-xored checks last i long) (xor_lt 8 (get_or checks i 0) (get_or last i 0) (checks-below (take 24 os) i) (below-drop (2 ^ 8) 24 os b i)))
      (λ i l.
      lane-xored i checks last long
      ∙ ap₂ bit_xor
      (lane-checks (take 24 os) i l ∙ sym (check-whole (take 24 os) first-24 i last) ∙ ap (λ (w : List ℕ). check_places (lane_of i w)) whole)
      (sym (lane-last (take 24 os) first-24 i last) ∙ ap (λ (w : List ℕ). lane_of i w / 2 ^ 24) whole))
    where
      checks : List ℕ
      checks = check_octets (take 24 os)

      last : List ℕ
      last = drop 24 os

      long : length checks ≡ length last
      long = length-checks (take 24 os) ∙ sym length-last

      whole : take 24 os ++ last ≡ os
      whole = take-append-drop 24 os

  pub lane-lacks : (i : ℕ) → i < 8 → lane_of i (lack_octets os) ≡ syndrome (lane_of i os)
  unfolding lack_octets
  lane-lacks i l = lane-map syndrome os 6 i l (syndrome-lt (lane_of i os) (lane-lt i))

  -- all six octets 0: no lane lacks anything
  pub clean-lacks : lack_octets os ≡ zeros → (i : ℕ) → i < 8 → syndrome (lane_of i os) ≡ 0
  unfolding lane_of
  clean-lacks z i l = sym (lane-lacks i l) ∙ ap (lane_of i) z ∙ zeros-lane i

  -- a lane fails exactly if it lacks something
  pub failing-lacks : (i : ℕ) → failing os i ≡ not (eqb (syndrome (lane_of i os)) 0)
  unfolding failing
  failing-lacks i = ap not (by-syndrome (lane_of i os))

-- ---- octets whose lanes all satisfy the code

-- those that end in their check octets
module _ (ds : List ℕ) (h : length ds ≡ 24) (i : ℕ) (l : i < 8) where
  pub checks-satisfy : satisfies (lane_of i (ds ++ check_octets ds)) ≡ true
  unfolding satisfies
  checks-satisfy =
      eq-eqb (lane_of i (ds ++ check_octets ds) / 2 ^ 24) (check_places (lane_of i (ds ++ check_octets ds)))
      (lane-last ds h i (check_octets ds) ∙ lane-checks ds i l ∙ sym (check-whole ds h i (check_octets ds)))

-- and no others
module _ (os : List ℕ) (h : length os ≡ 30) (b : Below (2 ^ 8) os) where
  pub satisfied-checks : ((i : ℕ) → i < 8 → satisfies (lane_of i os) ≡ true) → drop 24 os ≡ check_octets (take 24 os)
  unfolding check_octets satisfies
  satisfied-checks right =
      by_map check_places (take 24 os) 6 (drop 24 os) (length-drop 24 os ∙ omega arith) (below-drop (2 ^ 8) 24 os b)
      (λ i l.
      sym (lane-last (take 24 os) (first-24 os h) i (drop 24 os)) ∙ ap (λ (w : List ℕ). lane_of i w / 2 ^ 24) whole
      ∙ eqb-true (lane_of i os / 2 ^ 24) (check_places (lane_of i os)) (right i l) ∙ ap (λ (w : List ℕ). check_places (lane_of i w)) (sym whole)
      ∙ check-whole (take 24 os) (first-24 os h) i (drop 24 os))
    where
      whole : take 24 os ++ drop 24 os ≡ os
      whole = take-append-drop 24 os
