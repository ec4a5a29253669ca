-- `levels::channel::Levels::are_counts` meets its contract. Assumes nothing.
use mathlib.Core.Path.{◌≡◌}
use mathlib.Core.Bool.{◌&&◌}
use native.Mathlib.Omega.{arith}
use Rattle.std.proofs.Common.{rules}
use lib.IntN.{pos}
use mir.Syntax.{w64}
use mir.Val.{SFits}
use mir.Facts.{to_z-of_z}
use Rattle.levels.specs.Inner.{from_to}
use Rattle.levels.proofs.channel.Levels.are_counts.Goals as goal
use Rattle.levels.proofs.channel.Levels.are_counts.Goals.{then-within, else-within, then-within-2, else-within-2}

pub returns-then-within-3 : goal.returns-then-within-3
returns-then-within-3 c =
    let l = c.args.self in
    let n : SFits w64 l.samples = search rules in
    let f : SFits w64 l.ends = search rules in
    let g : SFits w64 l.v_frames = search rules in
    let h : SFits w64 l.e_frames = search rules in
    let k : SFits w64 l.right = search rules in
    let p : c.within.result ≡ from_to (pos 0) l.samples l.ends = rw (to_z-of_z n, to_z-of_z f) at c.within.ensures in
    let q : c.within-then-within-3.result ≡ from_to (pos 0) l.samples l.right = rw (to_z-of_z n, to_z-of_z k) at c.within-then-within-3.ensures in
    let v : c.if-within.value ≡ (from_to (pos 0) l.samples l.ends && from_to (pos 0) l.samples l.v_frames) = elim c.if-within.branch [
      | then-within w ↦ (let r : w.within-then-within.result ≡ from_to (pos 0) l.samples l.v_frames = rw (to_z-of_z n, to_z-of_z g) at w.within-then-within.ensures in grind arith)
      | else-within w ↦ grind arith
    ] in
    elim c.if-within-2.branch [
      | then-within-2 w ↦ (let r : w.within-then-within-2.result ≡ from_to (pos 0) l.samples l.e_frames = rw (to_z-of_z n, to_z-of_z h) at w.within-then-within-2.ensures in grind arith)
      | else-within-2 w ↦ grind arith
    ]

pub returns-else-within-3 : goal.returns-else-within-3
returns-else-within-3 c =
    let l = c.args.self in
    let n : SFits w64 l.samples = search rules in
    let f : SFits w64 l.ends = search rules in
    let g : SFits w64 l.v_frames = search rules in
    let h : SFits w64 l.e_frames = search rules in
    let p : c.within.result ≡ from_to (pos 0) l.samples l.ends = rw (to_z-of_z n, to_z-of_z f) at c.within.ensures in
    let v : c.if-within.value ≡ (from_to (pos 0) l.samples l.ends && from_to (pos 0) l.samples l.v_frames) = elim c.if-within.branch [
      | then-within w ↦ (let r : w.within-then-within.result ≡ from_to (pos 0) l.samples l.v_frames = rw (to_z-of_z n, to_z-of_z g) at w.within-then-within.ensures in grind arith)
      | else-within w ↦ grind arith
    ] in
    elim c.if-within-2.branch [
      | then-within-2 w ↦ (let r : w.within-then-within-2.result ≡ from_to (pos 0) l.samples l.e_frames = rw (to_z-of_z n, to_z-of_z h) at w.within-then-within-2.ensures in grind arith)
      | else-within-2 w ↦ grind arith
    ]
