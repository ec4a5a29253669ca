-- Two rows compared: what the test means, one row after the other, and both inverted. Assumes nothing.
use mathlib.Core.Path.{◌≡◌, refl, ap₂}
use mathlib.Core.Bool.{Bool, true, false, not, xor, ◌&&◌}
use mathlib.Core.List.{[], ◌∷◌, ◌++◌, map}
use native.Mathlib.Omega.{arith}
use lib.ListN.{length}
use Rattle.bits.specs.Row.{Row}
use Rattle.bits.proofs.Tests.{both_true, no-yes}
use Rattle.aes3_hunt.specs.Hunt.{same}

-- ---- what it means

bit-same : (b c : Bool) → not (xor b c) ≡ true → b ≡ c
unfolding xor
bit-same true true e = refl
bit-same true false e = no-yes false refl e
bit-same false true e = no-yes false refl e
bit-same false false e = refl

pub same-means : (r s : Row) → same r s ≡ true → r ≡ s
unfolding same
same-means [] [] e = refl
same-means [] (c ∷ s) e = no-yes false refl e
same-means (b ∷ r) [] e = no-yes false refl e
same-means (b ∷ r) (c ∷ s) e =
    let h = both_true (not (xor b c)) (same r s) e in
    ap₂ (λ d t. d ∷ t) (bit-same b c h.0) (same-means r s h.1)

pub same_self : (r : Row) → same r r ≡ true
unfolding same xor
same_self [] = refl
same_self (true ∷ r) = same_self r
same_self (false ∷ r) = same_self r

-- a bit differs from another exactly if they are not the same
pub no_difference : (b c : Bool) → xor b c ≡ false → b ≡ c
unfolding xor
no_difference true true e = refl
no_difference true false e = no-yes true e refl
no_difference false true e = no-yes true e refl
no_difference false false e = refl

pub xor_self : (b : Bool) → xor b b ≡ false
unfolding xor
xor_self true = refl
xor_self false = refl

-- ---- one after the other

and_assoc : (a b c : Bool) → (a && b) && c ≡ a && (b && c)
and_assoc true b c = refl
and_assoc false b c = refl

pub same-append : (r s r' s' : Row) → length r ≡ length s → same (r ++ r') (s ++ s') ≡ same r s && same r' s'
unfolding same
same-append [] [] r' s' h = refl
same-append [] (c ∷ s) r' s' h = absurd (omega arith)
same-append (b ∷ r) [] r' s' h = absurd (omega arith)
same-append (b ∷ r) (c ∷ s) r' s' h =
    rw (same-append r s r' s' (omega arith), and_assoc (not (xor b c)) (same r s) (same r' s'))

-- ---- both inverted

pub xor-not : (b c : Bool) → xor (not b) (not c) ≡ xor b c
unfolding xor
xor-not true true = refl
xor-not true false = refl
xor-not false true = refl
xor-not false false = refl

pub same-inverted : (r s : Row) → same (map not r) (map not s) ≡ same r s
unfolding same
same-inverted [] [] = refl
same-inverted [] (c ∷ s) = refl
same-inverted (b ∷ r) [] = refl
same-inverted (b ∷ r) (c ∷ s) = rw (xor-not b c, same-inverted r s)
