-- `codes::lane_check` meets its contract: the places that are left still go through the stages. Assumes nothing.
use mathlib.Core.Path.{◌≡◌, refl, sym, ap, ◌∙◌}
use Prim.Native.Nat.{ℕ, suc, ◌+◌, ◌-◌, ◌*◌, ◌/◌, ◌%◌, ◌<◌}
use native.Mathlib.Omega.{arith}
use lib.Bits.{bit_xor, xor_lt}
use Rattle.bits.specs.Row.{odd, bits}
use Rattle.bits.proofs.Digits.{digit-odd}
use Rattle.codes.specs.Divide.{less, fed, through}
use Rattle.codes.specs.Lane.{lane_generator, lane_check}
use Rattle.codes.proofs.Linear.{fed-lt}
use Rattle.codes.proofs.lane_check.Goals as goal

-- a place more
module _ (stages rest : ℕ) where
  abbrev entered : ℕ
  entered = bit_xor (stages * 2) (rest % 2 * 64)

  abbrev next : ℕ
  next = bit_xor entered (entered / 64 * 111)

  entered-lt : stages < 64 → entered < 128
  entered-lt h = xor_lt 7 (stages * 2) (rest % 2 * 64) (omega arith) (omega arith)

  next-fed : next ≡ fed 6 lane_generator stages (odd rest)
  unfolding fed less
  next-fed = rw (digit-odd rest)

  next-lt : stages < 64 → next < 64
  next-lt h = rw next-fed (fed-lt 6 lane_generator refl stages (odd rest) h)

  through-next : (k : ℕ) → k < 24
      → through 6 lane_generator next (bits (24 - (k + 1)) (rest / 2)) ≡ through 6 lane_generator stages (bits (24 - k) rest)
  unfolding through bits
  through-next k h =
      let m : 24 - k ≡ suc (24 - (k + 1)) = omega arith in
      rw (m, next-fed)

pub loop-init : goal.loop-init
unfolding lane_check
loop-init c = (omega arith, omega arith, refl)

pub overflow_mul-stages : goal.overflow_mul-stages
overflow_mul-stages c =
    omega (arith, entered-lt c.loop.stages c.loop.rest c.loop.invariant.1)

pub loop-preserved : goal.loop-preserved
loop-preserved c = (
  omega arith,
  next-lt c.loop.stages c.loop.rest c.loop.invariant.1,
  through-next c.loop.stages c.loop.rest c.loop.counter c.loop-test.true ∙ c.loop.invariant.2,
)

pub returns : goal.returns
unfolding through bits
returns c =
    let z : 24 - c.loop.counter ≡ 0 = omega (arith, c.loop-test.false) in
    sym (ap (λ (n : ℕ). through 6 lane_generator c.loop.stages (bits n c.loop.rest)) z) ∙ c.loop.invariant.2
