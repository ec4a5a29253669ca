-- `block::length::mask_below` meets its contract: two shifts of 1. Assumes nothing.
use mathlib.Core.Path.{◌≡◌, ap, ◌∙◌}
use Prim.Native.Nat.{ℕ, ◌+◌, ◌-◌, ◌*◌, ◌%◌, ◌^◌}
use native.Mathlib.Omega.{arith}
use lib.Pow.{pow_mono}
use Rattle.block.specs.Inner.{mask_below}
use Rattle.block.proofs.LengthLaws.{one_shifted}
use Rattle.block.proofs.length.mask_below.Goals.{After-saturating_sub-unused}
use Rattle.block.proofs.length.mask_below.Goals as goal

module _ (c : After-saturating_sub-unused) where
  abbrev free : ℕ
  free = c.args.free

  abbrev top : ℕ
  top = c.saturating_sub-unused.result + free

  unused : c.saturating_sub-unused.result ≡ c.args.width - c.in-Bits.n
  unused = c.saturating_sub-unused.ensures ∙ ap (λ (n : ℕ). c.args.width - n) c.from.ensures

  up : 1 * 2 ^ top % 2 ^ 32 ≡ 2 ^ top
  up = one_shifted top (omega (arith, unused))

  down : 1 * 2 ^ free % 2 ^ 32 ≡ 2 ^ free
  down = one_shifted free (omega arith)

pub overflow_sub-result : goal.overflow_sub-result
overflow_sub-result c = omega (arith, up c, down c, pow_mono {i = free c} {j = top c} (omega arith))

pub returns-in-NotIndicated : goal.returns-in-NotIndicated
unfolding mask_below
returns-in-NotIndicated c = cc

pub returns-in-Bits : goal.returns-in-Bits
unfolding mask_below
returns-in-Bits c = rw (c.in-Bits.is, ← unused c) (omega (arith, up c, down c))

pub returns-in-Reserved : goal.returns-in-Reserved
unfolding mask_below
returns-in-Reserved c = cc
