-- `aes3_write::write_sixteen` meets its contract. The loop's invariant: the octets written, with the rest of the line
-- behind them, are the line from the first of the sixteen on; the next preamble, and V, U and C of the subframes that
-- are left, stand ready. Assumes nothing.
use mathlib.Core.Path.{◌≡◌, refl, sym, ap₂, ◌∙◌}
use mathlib.Core.Bool.{true}
use mathlib.Core.List.{List, ◌++◌}
use Prim.Native.Nat.{ℕ, suc, ◌+◌, ◌-◌, ◌*◌, ◌/◌, ◌%◌, ◌<◌}
use native.Mathlib.Omega.{arith}
use borrow.Author.Rules.{rules}
use lib.IntN.{ℤ, pos}
use lib.ListN.{length, take, get_or}
use lib.Seq.{take_all}
use Rattle.bits.specs.Row.{Row, odd}
use Rattle.bits.specs.Pack.{octets}
use Rattle.subframe.specs.Signed.{in_range, code_of}
use Rattle.block.specs.Block.{bodies_of}
use Rattle.block.proofs.BlockLaws.{length-bodies, get_or-bodies, proper}
use Rattle.block.proofs.CheckLaws.{sound-passes}
use Rattle.aes3_line.specs.Subframe.{subframe}
use Rattle.aes3_write.specs.Inner.{opened, body_with, flags, flags_from}
use Rattle.aes3_line.proofs.Preambles.{due-even, due-odd}
use Rattle.aes3_write.proofs.Writing.{opened-due}
use Rattle.aes3_write.proofs.LineWriting.{frame-turn}
use Rattle.aes3_write.proofs.Flags.{flags-frame, body-with}
use Rattle.aes3_write.proofs.write_sixteen.Goals as goal
use Rattle.aes3_write.proofs.write_sixteen.Goals.{In-loop-f}

ranges : (c : In-loop-f) (i : ℕ) → in_range 24 (get_or c.args.samples.now i (pos 0)) ≡ true
ranges c i =
    (sound-passes c.args.samples.now c.args.side.now c.requires.0).ranges i

module _ (c : In-loop-f) where
  abbrev samples : List ℤ
  samples = c.args.samples.now

  abbrev side : List ℕ
  side = c.args.side.now

  abbrev index : ℕ
  index = 16 * c.args.j + 2 * c.loop-f.f

  two-flags : (c.loop-f.left % 8 ≡ flags side index) × (c.loop-f.left / 16 % 8 ≡ flags side (index + 1)) × (c.loop-f.left / 256 ≡ flags_from side (index + 2) (14 - 2 * c.loop-f.f))
  two-flags =
      let t : c.loop-f.f < 8 = c.loop-f-test.true in
      let n : 16 - 2 * c.loop-f.f ≡ suc (suc (14 - 2 * c.loop-f.f)) = omega arith in
      flags-frame side index (14 - 2 * c.loop-f.f) c.loop-f.left (rw n at c.loop-f.invariant.0)

  -- what is made of sample i is body i
  carried : (i f : ℕ) → i < 384 → f ≡ flags side i → body_with (code_of 24 (get_or samples i (pos 0))) f ≡ get_or (bodies_of samples side) i 0
  carried i f h g = body-with side i samples f (ranges c i) g ∙ sym (get_or-bodies samples side i h)

pub sixteen-left-requires : goal.sixteen-left-requires
sixteen-left-requires c =
    c.requires.1

pub loop-f-init : goal.loop-f-init
loop-f-init c =
    let e : 16 * c.args.j + 2 * 0 ≡ 16 * c.args.j = omega arith in
    (rw e c.sixteen-left.ensures, rw e c.due_octet-m.ensures, rw e refl)

pub write_frame-requires : goal.write_frame-requires
write_frame-requires c =
    let k = (goal.at.write_frame-requires c).In-loop-f in (
      omega arith,
      ranges k (index k),
      ranges k (index k + 1),
      search rules,
    )

pub loop-f-preserved : goal.loop-f-preserved
loop-f-preserved c =
    let k = (goal.at.loop-f-preserved c).In-loop-f in
    let p = k in
    let loop = k.loop-f in
    let wrote = c.write_frame in
    let o = wrote.new.part in
    let bodies = bodies_of (samples k) (side k) in
    let n : length bodies ≡ 384 = length-bodies (samples k) (side k) in
    let i = index k in
    let l = odd p.args.level in
    let h : i + 1 < length bodies = omega arith in
    let two = two-flags k in
    let e : 16 * p.args.j + 2 * (loop.f + 1) ≡ i + 2 = omega arith in
    let q : 16 - 2 * (loop.f + 1) ≡ 14 - 2 * loop.f = omega arith in
    let s : (loop.f + 1) * 16 ≡ loop.f * 16 + 16 = omega arith in
    let a = get_or bodies i 0 in
    let b = get_or bodies (i + 1) 0 in
    let x : opened loop.m l (body_with (code_of 24 (get_or (samples k) i (pos 0))) (loop.left % 8)) ≡ subframe i l a =
    ap₂ (λ (m b : ℕ). opened m l b) loop.invariant.1 (carried k i (loop.left % 8) (omega arith) two.0) ∙ opened-due i l a in
    let y : opened 0b11100100 l (body_with (code_of 24 (get_or (samples k) (i + 1) (pos 0))) (loop.left / 16 % 8)) ≡ subframe (suc i) l b =
    ap₂ (λ (m b : ℕ). opened m l b) (due-odd (suc i) (omega arith)) (carried k (i + 1) (loop.left / 16 % 8) (omega arith) two.1) ∙ opened-due (suc i) l b in (
      rw (e, q) two.2,
      rw e (due-even (i + 2) (omega arith) (omega arith)),
      rw (e, s)
          (frame-turn bodies o i a b l h refl refl (proper (samples k) (side k) i) (proper (samples k) (side k) (i + 1))
          (wrote.ensures ∙ ap₂ (λ (r t : Row). octets 8 r ++ octets 8 t) x y)
          loop.part _ _ (loop.f * 16) (omega arith) loop.invariant.2),
    )

pub returns : goal.returns
returns c =
    let loop = c.loop-f in
    let e : 16 * c.args.j + 2 * loop.f ≡ 16 * c.args.j + 16 = omega arith in
    let q : take (loop.f * 16) loop.part ≡ loop.part = take_all (loop.f * 16) loop.part (omega arith) in
    rw (q, e) at loop.invariant.2
