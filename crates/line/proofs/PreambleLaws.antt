-- Preambles, and symbols after a level: inverted after level 1. Assumes nothing.
use mathlib.Core.Path.{◌≡◌, refl, sym, ap, ◌∙◌}
use mathlib.Core.Bool.{Bool, true, false, not, xor}
use mathlib.Core.List.{[], ◌∷◌, ◌++◌, map}
use Prim.Native.Nat.{ℕ, zero, suc, ◌+◌, ◌-◌, ◌^◌, ◌<◌}
use native.Mathlib.Omega.{arith}
use lib.ListN.{length, get_or, drop}
use Rattle.bits.specs.Pick.{pick}
use Rattle.bits.specs.Row.{Row, odd, big_bits, big}
use Rattle.bits.proofs.Rows.{big_bits-big}
use Rattle.bits.proofs.Inverting.{length-map, map-append, not-twice, big-not}
use Rattle.line.specs.Preamble.{preamble_x, preamble_y, preamble_z, after_level}
use Rattle.line.specs.Biphase.{biphase, left}
use Rattle.line.proofs.BiphaseLaws.{biphase-not}

-- ---- symbols that are written for level 0, after a level

pub after-0 : (r : Row) → after_level false r ≡ r
unfolding after_level
after-0 r = refl

pub after-1 : (r : Row) → after_level true r ≡ map not r
unfolding after_level
after-1 r = refl

-- after the other level all are inverted
pub after-not : (l : Bool) (r : Row) → after_level (not l) r ≡ map not (after_level l r)
unfolding after_level
after-not false r = refl
after-not true r = sym (not-twice r)

pub length-after : (l : Bool) (r : Row) → length (after_level l r) ≡ length r
unfolding after_level
length-after false r = refl
length-after true r = length-map not r

pub after-append : (l : Bool) (r s : Row) → after_level l (r ++ s) ≡ after_level l r ++ after_level l s
unfolding after_level
after-append false r s = refl
after-append true r s = map-append not r s

pub after-at : (l : Bool) (r : Row) (k : ℕ) → k < length r → get_or (after_level l r) k false ≡ xor l (get_or r k false)
unfolding after_level xor
after-at false r k h = go (get_or r k false)
  where
    go : (b : Bool) → b ≡ xor false b
    go true = refl
    go false = refl
after-at true r k h = go r k h
  where
    go : (r : Row) (k : ℕ) → k < length r → get_or (map not r) k false ≡ xor true (get_or r k false)
    go [] k h = absurd (omega arith)
    go (true ∷ r) zero h = refl
    go (false ∷ r) zero h = refl
    go (b ∷ r) (suc k) h = go r k (omega arith)

-- slots after a level are those after level 0, after it
pub biphase-after : (l : Bool) (r : Row) → biphase l r ≡ after_level l (biphase false r)
unfolding after_level
biphase-after false r = refl
biphase-after true r = biphase-not false r

-- 64 symbols as a number: after level 1 it is taken from 2^64 - 1
pub word_after_lem : (l : Bool) (s : Row) → length s ≡ 64 → big_bits 64 (pick l (2 ^ 64 - 1 - big s) (big s)) ≡ after_level l s
unfolding after_level
word_after_lem true s n =
    let e : big (map not s) + big s + 1 ≡ 2 ^ 64 = rw n at (big-not s) in
    let m : 2 ^ 64 - 1 - big s ≡ big (map not s) = omega arith in
    ap (big_bits 64) m ∙ rw (length-map not s ∙ n) at (big_bits-big (map not s))
word_after_lem false s n = rw n at (big_bits-big s)

-- ---- the three preambles

-- eight symbols that begin with a change of level and leave the level as it was
pub record Opening (r : Row) : Type 0 where
  pub long : length r ≡ 8
  pub begins : (l : Bool) (s : Row) → get_or (after_level l r ++ s) 0 true ≡ not l
  pub keeps : (l : Bool) → left l (after_level l r) ≡ l
  pub ends : odd (big r) ≡ false

-- so it is for eight that begin with a 1 and end with a 0, where the last after either level is that level
opening : (t : Row) → length t ≡ 7 → left false (true ∷ t) ≡ false → left true (map not (true ∷ t)) ≡ true → odd (big (true ∷ t)) ≡ false
    → Opening (true ∷ t)
unfolding after_level
opening t n low high e = record { long = ap suc n; begins = go; keeps = stay; ends = e }
  where
    go : (l : Bool) (s : Row) → get_or (after_level l (true ∷ t) ++ s) 0 true ≡ not l
    go true s = refl
    go false s = refl

    stay : (l : Bool) → left l (after_level l (true ∷ t)) ≡ l
    stay true = high
    stay false = low

pub opening-X : Opening preamble_x
unfolding left big_bits big
opening-X = opening (drop 1 preamble_x) refl refl refl refl

pub opening-Y : Opening preamble_y
unfolding left big_bits big
opening-Y = opening (drop 1 preamble_y) refl refl refl refl

pub opening-Z : Opening preamble_z
unfolding left big_bits big
opening-Z = opening (drop 1 preamble_z) refl refl refl refl
