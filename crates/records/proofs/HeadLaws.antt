-- What is to be read after a header, and the turn, case by case. Assumes nothing.
use mathlib.Core.Path.{◌≡◌, refl}
use mathlib.Core.List.{List, ◌∷◌}
use Prim.Native.Nat.{ℕ, ◌+◌, ◌-◌, ◌*◌, ◌^◌, ◌≤◌, ◌<◌}
use native.Mathlib.Omega.{arith}
use borrow.Author.Tests.{eq-eqb, ne_eqb, lt-ltb, le-ltb, ltb-false}
use lib.Dec.{eqb, ltb}
use lib.ListN.{length, take}
use lib.Seq.{get_or-take}
use Rattle.bits.proofs.Tests.{pick-cases}
use Rattle.records.specs.declared.Turn.{Turn}
use Rattle.records.specs.declared.Turn.TheVariants.{End, Cut, Long, Record}
use Rattle.records.specs.Head.{size_of, body_size, turn_of}

-- In each case the length is a number that is equal to the header's.

module _ (head : List ℕ) where
  pub read-cut : length head < 4 → body_size head ≡ 0
  unfolding body_size
  read-cut h = simp (lt-ltb (length head) 4 h)

  module _ (headed : 4 ≤ length head) {size : ℕ} (e : size ≡ size_of head) where
    pub read-long : 8192 < size → body_size head ≡ 0
    unfolding body_size
    read-long h = simp (le-ltb (length head) 4 headed, ← e, lt-ltb 8192 size h)

    pub read_all : size ≤ 8192 → body_size head ≡ size
    unfolding body_size
    read_all h = simp (le-ltb (length head) 4 headed, ← e, le-ltb 8192 size h)

-- no record is longer than 8,192 octets
pub read_fits : (head : List ℕ) → body_size head ≤ 8192
unfolding body_size
read_fits head =
    pick-cases (λ (k : ℕ). k ≤ 8192) (ltb (length head) 4) _ _ (λ t. omega arith)
    (λ f. pick-cases (λ (k : ℕ). k ≤ 8192) (ltb 8192 (size_of head)) _ _ (λ t. omega arith) (λ g. ltb-false 8192 (size_of head) g))

module _ (n : ℕ) (head : List ℕ) (had : ℕ) where
  pub turn-empty : length head ≡ 0 → turn_of n head had ≡ End n
  unfolding turn_of
  turn-empty h = simp (eq-eqb (length head) 0 h)

  module _ (some : length head ≡ 0 → ⊥) where
    pub turn-full : n ≡ 2 ^ 64 - 1 → turn_of n head had ≡ End n
    unfolding turn_of
    turn-full f = simp (ne_eqb (length head) 0 some, eq-eqb n (2 ^ 64 - 1) f)

    module _ (room : n ≡ 2 ^ 64 - 1 → ⊥) where
      pub turn-header : length head < 4 → turn_of n head had ≡ Cut n
      unfolding turn_of
      turn-header h = simp (ne_eqb (length head) 0 some, ne_eqb n (2 ^ 64 - 1) room, lt-ltb (length head) 4 h)

      module _ (headed : 4 ≤ length head) {size : ℕ} (e : size ≡ size_of head) where
        pub turn-long : 8192 < size → turn_of n head had ≡ Long (n + 1)
        unfolding turn_of
        turn-long h =
            simp (ne_eqb (length head) 0 some, ne_eqb n (2 ^ 64 - 1) room, le-ltb (length head) 4 headed, ← e, lt-ltb 8192 size h)

        module _ (short : size ≤ 8192) where
          pub turn-cut : had < size → turn_of n head had ≡ Cut n
          unfolding turn_of
          turn-cut h =
              simp (
                ne_eqb (length head) 0 some,
                ne_eqb n (2 ^ 64 - 1) room,
                le-ltb (length head) 4 headed,
                ← e,
                le-ltb 8192 size short,
                lt-ltb had size h,
              )

          pub turn-record : size ≤ had → turn_of n head had ≡ Record (n + 1)
          unfolding turn_of
          turn-record h =
              simp (
                ne_eqb (length head) 0 some,
                ne_eqb n (2 ^ 64 - 1) room,
                le-ltb (length head) 4 headed,
                ← e,
                le-ltb 8192 size short,
                le-ltb had size h,
              )

  -- what holds of each turn that there is after n records
  pub turn-cases : (P : Turn → Type 0) → P (End n) → P (Cut n) → P (Long (n + 1)) → P (Record (n + 1)) → P (turn_of n head had)
  unfolding turn_of
  turn-cases P none cut long whole =
      pick-cases P (eqb (length head) 0) _ _ (λ t. none)
      (λ f. pick-cases P (eqb n (2 ^ 64 - 1)) _ _ (λ t. none)
      (λ g. pick-cases P (ltb (length head) 4) _ _ (λ t. cut)
      (λ h. pick-cases P (ltb 8192 (size_of head)) _ _ (λ t. long)
      (λ i. pick-cases P (ltb had (size_of head)) _ _ (λ t. cut) (λ j. whole)))))

-- ---- the length that stands first

-- a header of four octets gives the length that the input does
pub size-front : (input : List ℕ) → size_of (take 4 input) ≡ size_of input
unfolding size_of
size-front input =
    rw (
      get_or-take 4 input 0 0 (omega arith),
      get_or-take 4 input 1 0 (omega arith),
      get_or-take 4 input 2 0 (omega arith),
      get_or-take 4 input 3 0 (omega arith),
    )

-- the highest octet first
pub size_is : (a b c d : ℕ) (rest : List ℕ) → size_of (a ∷ b ∷ c ∷ d ∷ rest) ≡ a * 2 ^ 24 + b * 2 ^ 16 + c * 2 ^ 8 + d
unfolding size_of
size_is a b c d rest = refl
