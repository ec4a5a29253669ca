-- The exclusive or of two blocks of octets, octet by octet and in sending order; and of two blocks that differ in one
-- octet. Assumes nothing.
use mathlib.Core.Path.{◌≡◌, refl, sym, ap, ap₂, ◌∙◌}
use mathlib.Core.Bool.{false, xor}
use mathlib.Core.List.{List, [], ◌∷◌, ◌++◌}
use Prim.Native.Nat.{ℕ, zero, suc, ◌+◌, ◌-◌, ◌*◌, ◌/◌, ◌^◌, ◌<◌}
use native.Mathlib.Nat.{zero-mul, suc-mul, add_comm}
use native.Mathlib.Omega.{arith}
use lib.ListN.{length, get_or, set, replicate, replicate-append-replicate}
use lib.Bits.{bit_xor, xor_self, xor_shr}
use Rattle.bits.specs.Row.{Row, odd, bits, xor_row}
use Rattle.bits.specs.Pack.{chain}
use Rattle.bits.proofs.Rows.{length-bits, get_d_bits}
use Rattle.bits.proofs.XorRows.{odd-xor, bits-xor, xor-append}
use Rattle.bits.proofs.Packing.{lowest, length-chain, get_or-chain}
use Rattle.codes.specs.Crcc.{sent}
use Rattle.codes.specs.Differences.{xored, differences}

-- ---- octet by octet

pub length-xored : (a b : List ℕ) → length a ≡ length b → length (xored a b) ≡ length b
unfolding xored
length-xored [] b n = refl
length-xored (o ∷ a) [] n = absurd (omega arith)
length-xored (o ∷ a) (p ∷ b) n = ap suc (length-xored a b (omega arith))

pub get_or-xored : (a b : List ℕ) (i : ℕ) → length a ≡ length b → get_or (xored a b) i 0 ≡ bit_xor (get_or a i 0) (get_or b i 0)
unfolding xored
get_or-xored [] [] i n = refl
get_or-xored [] (p ∷ b) i n = absurd (omega arith)
get_or-xored (o ∷ a) [] i n = absurd (omega arith)
get_or-xored (o ∷ a) (p ∷ b) zero n = refl
get_or-xored (o ∷ a) (p ∷ b) (suc i) n = get_or-xored a b i (omega arith)

-- ---- in sending order

pub sent-length : (os : List ℕ) → length (sent os) ≡ length os * 8
unfolding sent
sent-length os = length-chain (lowest 8) os

pub sent-xored : (a b : List ℕ) → length a ≡ length b → sent (xored a b) ≡ xor_row (sent a) (sent b)
unfolding sent chain xored xor_row
sent-xored [] [] n = refl
sent-xored [] (p ∷ b) n = absurd (omega arith)
sent-xored (o ∷ a) [] n = absurd (omega arith)
sent-xored (o ∷ a) (p ∷ b) n =
    ap₂ (λ (r s : Row). r ++ s) (bits-xor 8 o p) (sent-xored a b (omega arith))
    ∙ sym (xor-append (bits 8 o) (bits 8 p) (sent a) (sent b) (length-bits 8 o ∙ sym (length-bits 8 p)))

-- position 8 * k + j is bit j of byte k
pub difference-at : (a b : List ℕ) (k j : ℕ) → length a ≡ length b → k < length b → j < 8
    → get_or (differences a b) (k * 8 + j) false ≡ xor (odd (get_or a k 0 / 2 ^ j)) (odd (get_or b k 0 / 2 ^ j))
unfolding differences sent
difference-at a b k j n hk hj =
    get_or-chain (lowest 8) (xored a b) k j (rw (length-xored a b n) hk) hj ∙ get_d_bits 8 (get_or (xored a b) k 0) j hj
    ∙ rw (get_or-xored a b k n, xor_shr) (odd-xor (get_or a k 0 / 2 ^ j) (get_or b k 0 / 2 ^ j))

-- ---- zeros

abbrev pub zeros : ℕ → Row
zeros n = replicate n false

pub none-there : (n i : ℕ) → get_or (zeros n) i false ≡ false
none-there zero i = refl
none-there (suc n) zero = refl
none-there (suc n) (suc i) = none-there n i

pub sent-zeros : (n : ℕ) → sent (replicate n 0) ≡ zeros (n * 8)
unfolding sent chain bits
sent-zeros zero = ap zeros (sym (zero-mul 8))
sent-zeros (suc n) =
    ap (λ r. bits 8 0 ++ r) (sent-zeros n) ∙ replicate-append-replicate 8 (n * 8) false ∙ ap zeros (add_comm 8 (n * 8) ∙ sym (suc-mul n 8))

-- ---- two blocks that differ in one octet

xored-self : (os : List ℕ) → xored os os ≡ replicate (length os) 0
unfolding xored
xored-self [] = refl
xored-self (o ∷ os) = ap₂ (λ (p : ℕ) (ps : List ℕ). p ∷ ps) (xor_self o) (xored-self os)

pub xored-set : (os : List ℕ) (k v : ℕ) → k < length os
    → xored os (set os k v) ≡ replicate k 0 ++ (bit_xor (get_or os k 0) v ∷ replicate (length os - suc k) 0)
unfolding xored
xored-set [] k v h = absurd (omega arith)
xored-set (o ∷ os) zero v h =
    let n : length os ≡ suc (length os) - 1 = omega arith in
    ap (λ (ps : List ℕ). bit_xor o v ∷ ps) (xored-self os ∙ ap (λ (k : ℕ). replicate k 0) n)
xored-set (o ∷ os) (suc k) v h =
    let n : length os - suc k ≡ suc (length os) - suc (suc k) = omega arith in
    ap₂ (λ (p : ℕ) (ps : List ℕ). p ∷ ps) (xor_self o)
    (xored-set os k v (omega arith) ∙ ap (λ (m : ℕ). replicate k 0 ++ (bit_xor (get_or os k 0) v ∷ replicate m 0)) n)
