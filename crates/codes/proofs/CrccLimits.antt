-- What a right CRCC does not exclude, so that no more is promised: three bits changed, and a set of bits within nine
-- consecutive positions (the generator itself). Each by two right blocks. Assumes nothing.
use mathlib.Core.Path.{◌≡◌, refl}
use mathlib.Core.Bool.{true}
use mathlib.Core.List.{List, [], ◌∷◌}
use Prim.Native.Nat.{ℕ}
use lib.ListN.{drop}
use Rattle.bits.specs.Row.{bits, big_bits, little, count}
use Rattle.bits.specs.Pack.{chain}
use Rattle.codes.specs.Divide.{less, fed, through}
use Rattle.codes.specs.Crcc.{sent, stages_after, octet_of, crcc_of, crcc_right}
use Rattle.codes.specs.Differences.{xored, differences}

-- positions 0, 3 and 35
pub three-bits-can-pass : (a : List ℕ) × (b : List ℕ) × (crcc_right a ≡ true) × (crcc_right b ≡ true) × (count (differences a b) ≡ 3)
unfolding crcc_right crcc_of octet_of little big_bits stages_after sent chain bits through fed less count differences xored
three-bits-can-pass = (
  1 ∷ 2 ∷ 3 ∷ 4 ∷ 5 ∷ 6 ∷ 7 ∷ 8 ∷ 9 ∷ 10 ∷ 11 ∷ 12 ∷ 13 ∷ 14 ∷ 15 ∷ 16 ∷ 17 ∷ 18 ∷ 19 ∷ 20 ∷ 21 ∷ 22 ∷ 23 ∷ 228 ∷ [],
  8 ∷ 2 ∷ 3 ∷ 4 ∷ 13 ∷ 6 ∷ 7 ∷ 8 ∷ 9 ∷ 10 ∷ 11 ∷ 12 ∷ 13 ∷ 14 ∷ 15 ∷ 16 ∷ 17 ∷ 18 ∷ 19 ∷ 20 ∷ 21 ∷ 22 ∷ 23 ∷ 228 ∷ [],
  refl,
  refl,
  refl,
)

-- positions 0, 4, 5, 6 and 8, and none from 9 on
pub nine-in-a-row-can-pass : (a : List ℕ) × (b : List ℕ) × (crcc_right a ≡ true) × (crcc_right b ≡ true)
    × (count (differences a b) ≡ 5) × (count (drop 9 (differences a b)) ≡ 0)
unfolding crcc_right crcc_of octet_of little big_bits stages_after sent chain bits through fed less count differences xored
nine-in-a-row-can-pass = (
  1 ∷ 2 ∷ 3 ∷ 4 ∷ 5 ∷ 6 ∷ 7 ∷ 8 ∷ 9 ∷ 10 ∷ 11 ∷ 12 ∷ 13 ∷ 14 ∷ 15 ∷ 16 ∷ 17 ∷ 18 ∷ 19 ∷ 20 ∷ 21 ∷ 22 ∷ 23 ∷ 228 ∷ [],
  112 ∷ 3 ∷ 3 ∷ 4 ∷ 5 ∷ 6 ∷ 7 ∷ 8 ∷ 9 ∷ 10 ∷ 11 ∷ 12 ∷ 13 ∷ 14 ∷ 15 ∷ 16 ∷ 17 ∷ 18 ∷ 19 ∷ 20 ∷ 21 ∷ 22 ∷ 23 ∷ 228 ∷ [],
  refl,
  refl,
  refl,
  refl,
)
