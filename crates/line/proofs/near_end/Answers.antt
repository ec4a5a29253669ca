-- `line::near_end` meets its contract: the octets passed are a window of the line's symbols. Assumes nothing.
use mathlib.Core.Path.{◌≡◌, refl, ap, ap₂, ◌∙◌}
use mathlib.Core.List.{List}
use Prim.Native.Nat.{ℕ, ◌+◌, ◌-◌, ◌*◌, ◌/◌, ◌%◌, ◌^◌, ◌≤◌, ◌<◌}
use native.Mathlib.Omega.{arith}
use borrow.Author.Tests.{le-leb, lt-leb}
use lib.ListN.{get_or}
use lib.Pow.{pow_pos, pow_mono}
use Rattle.bits.specs.Window.{part, window}
use Rattle.bits.specs.Row.{big}
use Rattle.bits.specs.Pack.{symbols}
use Rattle.bits.proofs.Windows.{window-lt, window-inside, one_shl}
use Rattle.bits.proofs.Packing.{window-next}
use Rattle.line.specs.Load.{loaded}
use Rattle.line.proofs.near_end.Goals as goal
use Rattle.line.proofs.near_end.Goals.{At-loop-i}

module _ (c : At-loop-i) where
  abbrev line : List ℕ
  line = c.args.line.now

  abbrev at : ℕ
  at = c.args.at

  abbrev n : ℕ
  n = c.args.n

  abbrev count : ℕ
  count = (at % 8 + n + 7) / 8

  abbrev i : ℕ
  i = c.loop-i.i

  most : n ≤ 56
  most = c.if-n-gt56.false

  octet-lt : get_or line (at / 8 + i) 0 < 256
  octet-lt = omega (arith, c.type_inv.line (at / 8 + i))

  -- before the last octet there are seven at most
  small : i < count → c.loop-i.v < 2 ^ 56
  small h =
      let k : i * 8 ≤ 56 = omega (arith, most) in
      omega (arith, c.loop-i.invariant, window-lt (symbols line) (at / 8 * 8) (i * 8), pow_mono {i = i * 8} {j = 56} k)

  next : (o : ℕ) → o ≡ get_or line (at / 8 + i) 0 → c.loop-i.v * 256 + o ≡ window (symbols line) (at / 8 * 8) ((i + 1) * 8)
  next o e =
      let m : i * 8 + 8 ≡ (i + 1) * 8 = omega arith in
      ap₂ (λ (v x : ℕ). v * 256 + x) c.loop-i.invariant e
      ∙ window-next line (at / 8 * 8) (i * 8) (at / 8 + i) (omega arith) octet-lt
      ∙ ap (window (symbols line) (at / 8 * 8)) m

  done : i ≡ count → c.loop-i.v / 2 ^ (count * 8 - (at % 8 + n)) % (1 * 2 ^ n % 2 ^ 64) ≡ loaded line at n
  unfolding loaded
  done e =
      let p : at / 8 * 8 + at % 8 ≡ at = omega arith in
      let q : c.loop-i.v ≡ window (symbols line) (at / 8 * 8) (count * 8) =
      c.loop-i.invariant ∙ ap (λ (k : ℕ). window (symbols line) (at / 8 * 8) (k * 8)) e in
      ap₂ (λ (v d : ℕ). v / 2 ^ (count * 8 - (at % 8 + n)) % d) q (one_shl 64 n (omega (arith, most)))
      ∙ rw (le-leb n 56 most) (rw p at (window-inside (symbols line) (at / 8 * 8) (count * 8) (at % 8) n (omega arith)))

pub returns-then-n-gt56 : goal.returns-then-n-gt56
unfolding loaded
returns-then-n-gt56 c = rw (lt-leb c.args.n 56 c.if-n-gt56.true)

pub loop-i-init : goal.loop-i-init
unfolding window part big
loop-i-init c = refl

pub overflow_mul-v : goal.overflow_mul-v
overflow_mul-v c = omega (arith, small (goal.at.overflow_mul-v c).At-loop-i c.loop-i-test.true)

pub overflow_add-v : goal.overflow_add-v
overflow_add-v c =
    let p = (goal.at.overflow_add-v c).At-loop-i in
    omega (arith, small p c.loop-i-test.true, c.octet_at.ensures, octet-lt p)

pub loop-i-preserved : goal.loop-i-preserved
loop-i-preserved c = next (goal.at.loop-i-preserved c).At-loop-i c.octet_at.result c.octet_at.ensures

pub nonzero_rem-result-2 : goal.nonzero_rem-result-2
nonzero_rem-result-2 c = rw (one_shl 64 (n (goal.at.nonzero_rem-result-2 c).At-loop-i) (omega arith)) (pow_pos (n (goal.at.nonzero_rem-result-2 c).At-loop-i))

pub returns : goal.returns
returns c = done (goal.at.returns c).At-loop-i (omega arith)
