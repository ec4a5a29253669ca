-- What a row of bits leaves in the stages of a divider whose generator ends in 1: zeros lose nothing; w bits or fewer
-- empty only the stages that hold their number; a second 1 undoes a first only where the powers of x come back. Over
-- the number of stages w, the generator g and the position of a bit. Assumes nothing.
use mathlib.Core.Path.{◌≡◌, refl, sym, ap, ◌∙◌}
use mathlib.Core.Bool.{Bool, true, false, not, xor, ◌&&◌}
use mathlib.Core.List.{[], ◌∷◌}
use Prim.Native.Nat.{ℕ, zero, suc, ◌+◌, ◌-◌, ◌*◌, ◌/◌, ◌%◌, ◌^◌, ◌≤◌, ◌<◌}
use native.Mathlib.Nat.{zero-mul, one-mul, add-mul, mul_assoc, zero-div, div-eq_of_lt, pow-suc, add_comm}
use native.Mathlib.Omega.{arith}
use lib.Dec.{T, T_not, eqb, eqb_refl}
use lib.ListN.{length, get_or, take, drop, take-append-drop, length-take}
use lib.Seq.{get_or-drop}
use lib.Pow.{pow_pos, pow-add, shl_lt, shr_lt, shl-shr}
use lib.Bits.{bit_xor, xor_lt, xor_comm, xor_self, xor_zero_r, xor_shifted}
use Rattle.bits.specs.Row.{Row, digit, big, count}
use Rattle.bits.proofs.Tests.{and_left, and_right, no-yes}
use Rattle.bits.proofs.Digits.{digit-cases}
use Rattle.bits.proofs.Rows.{big_lt}
use Rattle.bits.proofs.Counts.{count-append, count_zeros, count-big}
use Rattle.bits.proofs.Xor.{xor-twice, xor-eq}
use Rattle.bits.proofs.XorRows.{xor_same}
use Rattle.codes.specs.Divide.{less, fed, through}
use Rattle.codes.proofs.Linear.{fed-lt, fed-xor, through-lt, through-append}

module _ (w g : ℕ) (degree : g / 2 ^ w ≡ 1) (ends : g % 2 ≡ 1) where
  -- ---- zeros lose nothing

  pub fed-zero : fed w g 0 false ≡ 0
  unfolding fed less
  fed-zero = simp (zero-mul, zero-div)

  -- one of them leaves something where something was
  fed-none : (s : ℕ) → s < 2 ^ w → fed w g s false ≡ 0 → s ≡ 0
  unfolding fed less
  fed-none s h e =
      undone (s * 2 / 2 ^ w) (shr_lt 1 w (rw (add_comm 1 w) (shl_lt w 1 h)))
      (xor-eq (s * 2) (s * 2 / 2 ^ w * g) (simp (zero-mul, xor_zero_r) at e))
    where
      undone : (t : ℕ) → t < 2 → s * 2 ≡ t * g → s ≡ 0
      undone = digit-cases (λ (t : ℕ). s * 2 ≡ t * g → s ≡ 0) (λ q. omega (arith, zero-mul g)) (λ q. omega (arith, one-mul g))

  -- what two starts make of one row is the same only where they are
  pub same_start : (s t : ℕ) (r : Row) → s < 2 ^ w → t < 2 ^ w → through w g s r ≡ through w g t r → s ≡ t
  unfolding through
  same_start s t [] hs ht e = e
  same_start s t (b ∷ r) hs ht e =
      let f : fed w g s b ≡ fed w g t b =
      same_start (fed w g s b) (fed w g t b) r (fed-lt w g degree s b hs) (fed-lt w g degree t b ht) e in
      xor-eq s t (fed-none (bit_xor s t) (xor_lt w s t hs ht)
      (ap (fed w g (bit_xor s t)) (sym (xor_same b)) ∙ fed-xor w g degree s t b b hs ht
      ∙ ap (λ (x : ℕ). bit_xor x (fed w g t b)) f ∙ xor_self (fed w g t b)))

  -- a row of them leaves empty stages empty, and empties no others
  pub silent : (r : Row) → count r ≡ 0 → through w g 0 r ≡ 0
  unfolding through count
  silent [] n = refl
  silent (true ∷ r) n = absurd (omega arith)
  silent (false ∷ r) n = rw fed-zero (silent r (omega arith))

  pub zeros-empty : (s : ℕ) (r : Row) → s < 2 ^ w → count r ≡ 0 → through w g s r ≡ 0 → s ≡ 0
  zeros-empty s r h n e = same_start s 0 r h (pow_pos w) (e ∙ sym (silent r n))

  -- ---- w bits at most: the stages that they empty hold their number, the first bit highest

  -- the highest bit of their number leaves as it comes
  own-bit : (b : Bool) (x n k : ℕ) → x < 2 ^ n → n + suc k ≡ w → fed w g ((digit b * 2 ^ n + x) * 2 ^ k) b ≡ x * 2 ^ suc k
  unfolding fed less
  own-bit b x n k h m =
      let rest = x * 2 ^ suc k in
      let top = digit b * 2 ^ w in
      let low : rest < 2 ^ w = rw m at (shl_lt n (suc k) h) in
      let apart : (digit b * 2 ^ n + x) * 2 ^ k * 2 ≡ top + rest =
      mul_assoc (digit b * 2 ^ n + x) (2 ^ k) 2 ∙ rw (← pow-suc 2 k, add-mul, mul_assoc, ← pow-add 2 n (suc k), m) in
      let left : bit_xor ((digit b * 2 ^ n + x) * 2 ^ k * 2) top ≡ rest =
      ap (λ (y : ℕ). bit_xor y top) (apart ∙ sym (xor_shifted (digit b) w rest low))
      ∙ xor_comm (bit_xor top rest) top ∙ xor-twice top rest in
      rw (left, div-eq_of_lt low, zero-mul) (xor_zero_r rest)

  pub own-number : (r : Row) (k : ℕ) → length r + k ≡ w → through w g (big r * 2 ^ k) r ≡ 0
  unfolding through big
  own-number [] k n = zero-mul (2 ^ k)
  own-number (b ∷ r) k n =
      let m : length r + suc k ≡ w = omega arith in
      ap (λ (s : ℕ). through w g s r) (own-bit b (big r) (length r) k (big_lt r) m) ∙ own-number r (suc k) m

  pub only-its-own : (s : ℕ) (r : Row) (k : ℕ) → s < 2 ^ w → length r + k ≡ w → through w g s r ≡ 0 → s ≡ big r * 2 ^ k
  only-its-own s r k h n e =
      same_start s (big r * 2 ^ k) r h (rw n at (shl_lt (length r) k (big_lt r))) (e ∙ sym (own-number r k n))

  few_bits : (r : Row) → length r ≤ w → through w g 0 r ≡ 0 → count r ≡ 0
  few_bits r n e =
      let k = w - length r in
      let z : 0 ≡ big r * 2 ^ k = only-its-own 0 r k (pow_pos w) (omega arith) e in
      count-big r (sym (shl-shr (big r) k) ∙ ap (λ (x : ℕ). x / 2 ^ k) (sym z) ∙ zero-div (2 ^ k))

  -- a row whose ones stand within w places leaves something in empty stages, wherever they stand
  pub burst-leaves : (p : ℕ) (r : Row) → ((i : ℕ) → i < p → get_or r i false ≡ false) → ((i : ℕ) → p + w ≤ i → get_or r i false ≡ false)
      → through w g 0 r ≡ 0 → count r ≡ 0
  unfolding through count
  burst-leaves zero r before past e =
      let none : count (drop w r) ≡ 0 =
      count_zeros (drop w r) (λ i. get_or-drop w r i false ∙ past (w + i) (omega arith)) in
      let kept : through w g (through w g 0 (take w r)) (drop w r) ≡ 0 =
      sym (through-append w g 0 (take w r) (drop w r)) ∙ ap (through w g 0) (take-append-drop w r) ∙ e in
      let first : count (take w r) ≡ 0 =
      few_bits (take w r) (omega (arith, length-take w r))
      (zeros-empty (through w g 0 (take w r)) (drop w r) (through-lt w g degree 0 (take w r) (pow_pos w)) none kept) in
      ap count (sym (take-append-drop w r)) ∙ count-append (take w r) (drop w r) ∙ rw (first, none)
  burst-leaves (suc p) [] before past e = refl
  burst-leaves (suc p) (true ∷ r) before past e =
      no-yes true (before 0 (omega arith)) refl
  burst-leaves (suc p) (false ∷ r) before past e =
      omega (arith, burst-leaves p r (λ i h. before (suc i) (omega arith)) (λ i h. past (suc i) (omega arith)) (rw fed-zero at e))

  -- ---- one or two bits: what the first leaves must not come back where the second stands

  -- from the stages s none of the next n zeros makes what a 1 makes of empty stages
  abbrev pub not_back : ℕ → ℕ → Bool
  not_back zero s = true
  not_back (suc n) s = not (eqb (fed w g s false) (fed w g 0 true)) && not_back n (fed w g s false)

  fed-one : (s : ℕ) → s < 2 ^ w → fed w g s true ≡ bit_xor (fed w g s false) (fed w g 0 true)
  unfolding xor
  fed-one s h = ap (λ (t : ℕ). fed w g t true) (sym (xor_zero_r s)) ∙ fed-xor w g degree s 0 false true h (pow_pos w)

  second-bit : (n s : ℕ) (r : Row) → s < 2 ^ w → (s ≡ 0 → ⊥) → T (not_back n s) → length r ≤ n → count r ≤ 1 → through w g s r ≡ 0 → ⊥
  unfolding through count
  second-bit n s [] h nz t l few e = nz e
  second-bit zero s (b ∷ r) h nz t l few e = omega arith
  second-bit (suc n) s (true ∷ r) h nz t l few e =
      T_not (eqb (fed w g s false) (fed w g 0 true))
      (and_left (not (eqb (fed w g s false) (fed w g 0 true))) (not_back n (fed w g s false)) t)
      (rw (xor-eq (fed w g s false) (fed w g 0 true)
      (sym (fed-one s h) ∙ zeros-empty (fed w g s true) r (fed-lt w g degree s true h) (omega arith) e)) (eqb_refl (fed w g 0 true)))
  second-bit (suc n) s (false ∷ r) h nz t l few e =
      second-bit n (fed w g s false) r (fed-lt w g degree s false h) (λ z. nz (fed-none s h z))
      (and_right (not (eqb (fed w g s false) (fed w g 0 true))) (not_back n (fed w g s false)) t) (omega arith) (omega arith) e

  pub two-leave : (n : ℕ) (r : Row) → (fed w g 0 true ≡ 0 → ⊥) → T (not_back n (fed w g 0 true)) → length r ≤ suc n → count r ≤ 2
      → through w g 0 r ≡ 0 → count r ≡ 0
  unfolding through count
  two-leave n [] nz t l few e = refl
  two-leave n (true ∷ r) nz t l few e =
      absurd (second-bit n (fed w g 0 true) r (fed-lt w g degree 0 true (pow_pos w)) nz t (omega arith) (omega arith) e)
  two-leave n (false ∷ r) nz t l few e = omega (arith, two-leave n r nz t (omega arith) (omega arith) (rw fed-zero at e))
