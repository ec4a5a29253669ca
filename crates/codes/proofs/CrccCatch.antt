-- What a right CRCC excludes: one bit changed, two bits, and any non-empty set of bits within eight consecutive
-- positions, byte 23 with the others. The laws are those of the divider, over the position; the one computed test is
-- that the powers of x modulo the generator do not come back in 191 steps. Assumes nothing.
use mathlib.Core.Path.{◌≡◌, refl}
use mathlib.Core.Bool.{true, false}
use mathlib.Core.List.{List}
use Prim.Native.Nat.{ℕ, ◌≤◌}
use native.Mathlib.Omega.{arith}
use lib.Dec.{T}
use Rattle.bits.specs.Row.{count}
use Rattle.codes.specs.Divide.{less, fed}
use Rattle.codes.specs.Crcc.{crcc_generator, crcc_right}
use Rattle.codes.specs.Differences.{differences, InOneBit, InTwoBits, WithinEight}
use Rattle.codes.proofs.Emptied.{burst-leaves, not_back, two-leave}
use Rattle.codes.proofs.CrccBlocks.{says-no, differences-leave-nothing, differences-are-192}

-- the computed test: x^8 modulo the generator, which is what a 1 makes of empty stages, is none of the 191 powers after
-- it
powers-apart : T (not_back 8 crcc_generator refl refl 191 (fed 8 crcc_generator 0 true))
unfolding fed less
powers-apart = tt

first-power : fed 8 crcc_generator 0 true ≡ 0 → ⊥
unfolding fed less
first-power z = omega arith

module _ (a b : List ℕ) (right : crcc_right a ≡ true) where
  -- were both right, what they differ in would leave nothing
  few : count (differences a b) ≤ 2 → crcc_right b ≡ true → count (differences a b) ≡ 0
  few h rb =
      two-leave 8 crcc_generator refl refl 191 (differences a b) first-power powers-apart (omega (arith, differences-are-192 a b right rb)) h
      (differences-leave-nothing a b right rb)

  pub one-bit-is-caught : InOneBit a b → crcc_right b ≡ false
  one-bit-is-caught d = says-no (crcc_right b) (λ rb. omega (arith, few (omega arith) rb))

  pub two-bits-are-caught : InTwoBits a b → crcc_right b ≡ false
  two-bits-are-caught d = says-no (crcc_right b) (λ rb. omega (arith, few (omega arith) rb))

  pub eight-in-a-row-are-caught : WithinEight a b → crcc_right b ≡ false
  eight-in-a-row-are-caught d =
      says-no (crcc_right b) (λ rb. d.some (burst-leaves 8 crcc_generator refl refl d.from (differences a b)
      (λ i h. d.none_before i (omega arith)) (λ i h. d.none-past i (omega arith)) (differences-leave-nothing a b right rb)))
