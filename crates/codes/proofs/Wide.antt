-- The divider of eight lanes at once: six octets hold the stages, bit i those of lane i, and a step on the octets is a step of
-- each lane's divider. One law for every lane. Assumes nothing.
use mathlib.Core.Path.{◌≡◌, refl, sym, ap, ap₂, ◌∙◌}
use mathlib.Core.Bool.{Bool, false, xor}
use mathlib.Core.List.{List, [], ◌∷◌}
use Prim.Native.Nat.{ℕ, zero, suc, ◌+◌, ◌/◌, ◌%◌, ◌^◌, ◌<◌, ◌≤◌}
use native.Mathlib.Omega.{arith}
use native.Mathlib.Numerals.{add-one}
use lib.ListN.{length, get_or, drop, drop_of_length-le}
use lib.Seq.{drop-cons}
use lib.Bits.{bit_xor, xor_lt}
use Rattle.bits.specs.Row.{Row, digit, odd, bits, little, Below}
use Rattle.bits.specs.Cross.{across}
use Rattle.bits.proofs.Digits.{digit_lt, odd-digit}
use Rattle.bits.proofs.Rows.{bits-little, little-lt}
use Rattle.bits.proofs.Every.{agree}
use Rattle.bits.proofs.Beside.{odd-xor-at}
use Rattle.codes.specs.Divide.{less, fed, through}
use Rattle.codes.specs.Lane.{lane_generator}

-- ---- one lane: the six stages as a row, and a bit more

stepped_row : Row → Row
stepped_row r =
    xor (get_or r 5 false) (get_or r 6 false)
    ∷ xor (get_or r 0 false) (xor (get_or r 5 false) (get_or r 6 false))
    ∷ xor (get_or r 1 false) (xor (get_or r 5 false) (get_or r 6 false))
    ∷ xor (get_or r 2 false) (xor (get_or r 5 false) (get_or r 6 false))
    ∷ get_or r 3 false
    ∷ xor (get_or r 4 false) (xor (get_or r 5 false) (get_or r 6 false))
    ∷ []

-- at every choice of the seven bits, by a test that antt computes
step-fed-computed : (x : ℕ) → x < 128 → fed 6 lane_generator (x % 64) (odd (x / 64)) ≡ little (stepped_row (bits 7 x))
unfolding fed less little stepped_row bits xor
step-fed-computed = agree 128 (λ x. fed 6 lane_generator (x % 64) (odd (x / 64))) (λ x. little (stepped_row (bits 7 x))) tt

module _ (b0 b1 b2 b3 b4 b5 b : Bool) where
  abbrev six : Row
  six = b0 ∷ b1 ∷ b2 ∷ b3 ∷ b4 ∷ b5 ∷ []

  abbrev seven : Row
  seven = b0 ∷ b1 ∷ b2 ∷ b3 ∷ b4 ∷ b5 ∷ b ∷ []

  low-six : little seven % 64 ≡ little six
  unfolding little
  low-six = omega (arith, digit_lt b0, digit_lt b1, digit_lt b2, digit_lt b3, digit_lt b4, digit_lt b5)

  last_one : little seven / 64 ≡ digit b
  unfolding little
  last_one = omega (arith, digit_lt b0, digit_lt b1, digit_lt b2, digit_lt b3, digit_lt b4, digit_lt b5)

  step-fed : fed 6 lane_generator (little six) b ≡ little (stepped_row seven)
  step-fed =
      ap₂ (fed 6 lane_generator) (sym low-six) (sym (ap odd last_one ∙ odd-digit b))
      ∙ step-fed-computed (little seven) (little-lt seven) ∙ ap (λ (r : Row). little (stepped_row r)) (bits-little seven)

-- ---- eight lanes

-- an octet of data more, into six octets
abbrev pub stepped : List ℕ → ℕ → List ℕ
stepped ss d =
    bit_xor (get_or ss 5 0) d
    ∷ bit_xor (get_or ss 0 0) (bit_xor (get_or ss 5 0) d)
    ∷ bit_xor (get_or ss 1 0) (bit_xor (get_or ss 5 0) d)
    ∷ bit_xor (get_or ss 2 0) (bit_xor (get_or ss 5 0) d)
    ∷ get_or ss 3 0
    ∷ bit_xor (get_or ss 4 0) (bit_xor (get_or ss 5 0) d)
    ∷ []

-- octets stay octets
pub six-below : (m a b c d e f : ℕ) → a < m → b < m → c < m → d < m → e < m → f < m → Below m (a ∷ b ∷ c ∷ d ∷ e ∷ f ∷ [])
six-below m a b c d e f ha hb hc hd he hf zero = ha
six-below m a b c d e f ha hb hc hd he hf (suc zero) = hb
six-below m a b c d e f ha hb hc hd he hf (suc (suc zero)) = hc
six-below m a b c d e f ha hb hc hd he hf (suc (suc (suc zero))) = hd
six-below m a b c d e f ha hb hc hd he hf (suc (suc (suc (suc zero)))) = he
six-below m a b c d e f ha hb hc hd he hf (suc (suc (suc (suc (suc zero))))) = hf
six-below m a b c d e f ha hb hc hd he hf (suc (suc (suc (suc (suc (suc i)))))) = omega arith

pub stepped-below : (ss : List ℕ) (d : ℕ) → Below (2 ^ 8) ss → d < 2 ^ 8 → Below (2 ^ 8) (stepped ss d)
stepped-below ss d b h =
    let t = bit_xor (get_or ss 5 0) d in
    let l : bit_xor (get_or ss 5 0) d < 2 ^ 8 = xor_lt 8 (get_or ss 5 0) d (b 5) h in
    six-below (2 ^ 8) t (bit_xor (get_or ss 0 0) t) (bit_xor (get_or ss 1 0) t) (bit_xor (get_or ss 2 0) t) (get_or ss 3 0) (bit_xor (get_or ss 4 0) t) l
    (xor_lt 8 (get_or ss 0 0) t (b 0) l) (xor_lt 8 (get_or ss 1 0) t (b 1) l) (xor_lt 8 (get_or ss 2 0) t (b 2) l) (b 3) (xor_lt 8 (get_or ss 4 0) t (b 4) l)

-- some octets more
unfoldable pub fed_all : List ℕ → List ℕ → List ℕ
fed_all ss [] = ss
fed_all ss (d ∷ ds) = fed_all (stepped ss d) ds

module _ (i : ℕ) where
  step-lane : (s0 s1 s2 s3 s4 s5 d : ℕ)
      → little (across i (stepped (s0 ∷ s1 ∷ s2 ∷ s3 ∷ s4 ∷ s5 ∷ []) d))
      ≡ fed 6 lane_generator (little (across i (s0 ∷ s1 ∷ s2 ∷ s3 ∷ s4 ∷ s5 ∷ []))) (odd (d / 2 ^ i))
  unfolding across stepped_row
  step-lane s0 s1 s2 s3 s4 s5 d =
      simp (odd-xor-at i)
      (sym (step-fed (odd (s0 / 2 ^ i)) (odd (s1 / 2 ^ i)) (odd (s2 / 2 ^ i)) (odd (s3 / 2 ^ i)) (odd (s4 / 2 ^ i)) (odd (s5 / 2 ^ i)) (odd (d / 2 ^ i))))

  pub fed-lane : (ds : List ℕ) (s0 s1 s2 s3 s4 s5 : ℕ)
      → little (across i (fed_all (s0 ∷ s1 ∷ s2 ∷ s3 ∷ s4 ∷ s5 ∷ []) ds))
      ≡ through 6 lane_generator (little (across i (s0 ∷ s1 ∷ s2 ∷ s3 ∷ s4 ∷ s5 ∷ []))) (across i ds)
  unfolding fed_all through across
  fed-lane [] s0 s1 s2 s3 s4 s5 = refl
  fed-lane (d ∷ ds) s0 s1 s2 s3 s4 s5 =
      fed-lane ds (bit_xor s5 d) (bit_xor s0 (bit_xor s5 d)) (bit_xor s1 (bit_xor s5 d)) (bit_xor s2 (bit_xor s5 d)) s3 (bit_xor s4 (bit_xor s5 d))
      ∙ ap (λ (s : ℕ). through 6 lane_generator s (across i ds)) (step-lane s0 s1 s2 s3 s4 s5 d)

-- ---- a loop over the octets that has come to k

pub fed-next : (ss ds : List ℕ) (k : ℕ) → k < length ds → fed_all ss (drop k ds) ≡ fed_all (stepped ss (get_or ds k 0)) (drop (k + 1) ds)
unfolding fed_all
fed-next ss ds k h = rw (drop-cons ds k 0 h, add-one k)

pub fed-done : (ss ds : List ℕ) (k : ℕ) → length ds ≤ k → fed_all ss (drop k ds) ≡ ss
unfolding fed_all
fed-done ss ds k h = rw (drop_of_length-le ds {i = k} h)
