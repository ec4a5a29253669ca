-- `levels::one_block::frames` meets its contract: what was counted, with what the octets from an index on have, is all. Assumes nothing.
use mathlib.Core.Path.{◌≡◌, refl, ap, ◌∙◌}
use mathlib.Core.List.{List}
use Prim.Native.Nat.{ℕ, ◌+◌, ◌*◌, ◌-◌, ◌<◌}
use native.Mathlib.Omega.{arith}
use borrow.Rule.Slice.PartMut.{mid_of}
use Rattle.std.proofs.Common.{rules}
use lib.ListN.{length, get_or}
use mir.Syntax.{w8}
use mir.Val.{Fits}
use Rattle.block.specs.Side.{columns, column_length, side_length}
use Rattle.block.proofs.SideLaws.{get_or-column_in, length-column_in, column-is}
use Rattle.levels.proofs.Folds.{column-all, column-step, column-done, ones-le}
use Rattle.levels.proofs.one_block.frames.Goals as goal

column-long : (side : List ℕ) (column : ℕ) → length side ≡ side_length → column < 2 * columns
    → length (mid_of (24 * column) (24 * column + 24 - 24 * column) side) ≡ 24
column-long side column n h = ap length (column-is side column) ∙ length-column_in side n column h

pub loop-octet-init : goal.loop-octet-init
loop-octet-init c = (omega arith, omega (arith, column-all c.args.side.now c.args.column c.told-side c.requires))

pub loop-octet-preserved : goal.loop-octet-preserved
loop-octet-preserved c =
    let side = c.args.side.now in
    let column = c.args.column in
    let i = c.loop-octet.octet-index in
    let n = column-long side column c.told-side c.requires in
    let h : i < 24 = omega (arith, c.loop-octet-test.true) in
    let x = get_or side (column_length * column + i) 0 in
    let g : get_or (mid_of (24 * column) (24 * column + 24 - 24 * column) side) i 0 ≡ x =
    ap (λ (l : List ℕ). get_or l i 0) (column-is side column) ∙ get_or-column_in side column i h in
    let fits : Fits w8 (get_or (mid_of (24 * column) (24 * column + 24 - 24 * column) side) i 0) = search rules in
    let small : x < 256 = rw g at fits.fits in
    let m = ones-le x small in
    let e = column-step side column c.told-side c.requires i x h refl small in
    rw g (omega (arith, m, c.loop-octet.invariant.0), omega (arith, e, c.loop-octet.invariant.1))

pub returns : goal.returns
returns c =
    let n = column-long c.args.side.now c.args.column c.told-side c.requires in
    omega (
      arith,
      column-done c.args.side.now c.args.column c.told-side c.requires c.loop-octet.octet-index (omega (arith, c.loop-octet-test.false)),
      c.loop-octet.invariant.1,
    )
