-- `codes::eight_lanes::gather` meets its contract: the number is the lane of the octets so far. Assumes nothing.
use mathlib.Core.Path.{◌≡◌, refl, ap, ◌∙◌}
use mathlib.Core.List.{List, [], ◌∷◌}
use Prim.Native.Nat.{ℕ, zero, suc, ◌+◌, ◌*◌, ◌/◌, ◌%◌, ◌^◌, ◌≤◌, ◌<◌}
use native.Mathlib.Nat.{zero-mul, one-mul, pow-suc}
use native.Mathlib.Numerals.{add-one}
use native.Mathlib.Omega.{arith}
use lib.Pow.{pow_mono}
use lib.ListN.{length, get_or, take}
use lib.Seq.{length-take-le, take_all}
use Rattle.bits.specs.Row.{little}
use Rattle.bits.specs.Cross.{across}
use Rattle.bits.proofs.Digits.{digit-odd}
use Rattle.bits.proofs.Rows.{little-lt}
use Rattle.bits.proofs.Crossing.{length-across}
use Rattle.codes.specs.Lanes.{lane_of}
use Rattle.codes.proofs.eight_lanes.gather.Goals as goal

-- an octet more
next : (i n : ℕ) (s : List ℕ) → n < length s → lane_of i (take n s) + get_or s n 0 / 2 ^ i % 2 * 2 ^ n ≡ lane_of i (take (suc n) s)
unfolding lane_of across little
next i n [] h = absurd (omega arith)
next i zero (x ∷ s) h = omega (arith, digit-odd (x / 2 ^ i))
next i (suc n) (x ∷ s) h =
    let b : ℕ = get_or s n 0 / 2 ^ i % 2 in
    let twice : b * 2 ^ suc n ≡ 2 * (b * 2 ^ n) = rw (pow-suc 2 n) (omega arith) in
    omega (arith, next i n s (omega arith), twice)

-- a bit at place n
placed : (b n : ℕ) → b < 2 → n < 6 → b * 2 ^ n ≤ 32
placed zero n h l = omega (arith, zero-mul (2 ^ n))
placed (suc zero) n h l = omega (arith, one-mul (2 ^ n), pow_mono {i = n} {j = 5} (omega arith))
placed (suc (suc b)) n h l = absurd (omega arith)

few : (i n : ℕ) (s : List ℕ) → length s ≡ 6 → n < 6 → lane_of i (take n s) < 64
unfolding lane_of
few i n s six h =
    omega (
      arith,
      rw (length-across i (take n s), length-take-le n s (omega arith)) at (little-lt (across i (take n s))),
      pow_mono {i = n} {j = 6} (omega arith),
    )

pub loop-n-init : goal.loop-n-init
unfolding lane_of across little
loop-n-init c = refl

pub overflow_add-lane : goal.overflow_add-lane
overflow_add-lane c =
    let v = c.loop-n in
    omega (
      arith,
      v.invariant,
      few c.args.i v.n c.args.s.now c.told-s c.loop-n-test.true,
      placed (c.from.result % 2) v.n (omega arith) c.loop-n-test.true,
    )

pub loop-n-preserved : goal.loop-n-preserved
loop-n-preserved c =
    let v = c.loop-n in
    let p = placed (c.from.result % 2) v.n (omega arith) c.loop-n-test.true in
    let small : c.from.result % 2 * 2 ^ v.n % 4294967296 ≡ c.from.result % 2 * 2 ^ v.n = omega (arith, p) in
    rw add-one
    (ap (λ (b : ℕ). v.lane + b) small ∙ ap (λ (x : ℕ). v.lane + x % 2 * 2 ^ v.n) c.from.ensures
    ∙ ap (λ (x : ℕ). x + get_or c.args.s.now v.n 0 / 2 ^ c.args.i % 2 * 2 ^ v.n) v.invariant
    ∙ next c.args.i v.n c.args.s.now (omega arith))

pub returns : goal.returns
returns c = c.loop-n.invariant ∙ ap (lane_of c.args.i) (take_all c.loop-n.n c.args.s.now (omega arith))
