-- `levels::channel::Levels::are_extremes` meets its contract. Assumes nothing.
use mathlib.Core.Path.{◌≡◌}
use native.Mathlib.Omega.{arith}
use Rattle.std.proofs.Common.{rules}
use lib.IntN.{pos, negsuc}
use mir.Syntax.{w64}
use mir.Val.{SFits}
use mir.Facts.{to_z-of_z}
use Rattle.levels.specs.Inner.{from_to}
use Rattle.levels.proofs.channel.Levels.are_extremes.Goals as goal
use Rattle.levels.proofs.channel.Levels.are_extremes.Goals.{then-within, else-within}

pub returns-then-within-2 : goal.returns-then-within-2
returns-then-within-2 c =
    let l = c.args.self in
    let f : SFits w64 l.smallest = search rules in
    let g : SFits w64 l.largest = search rules in
    let h : SFits w64 l.magnitude = search rules in
    let p : c.within.result ≡ from_to (negsuc 8388607) (pos 8388607) l.smallest = rw (to_z-of_z f) at c.within.ensures in
    let q : c.within-then-within-2.result ≡ from_to (pos 0) (pos 8388608) l.magnitude = rw (to_z-of_z h) at c.within-then-within-2.ensures in
    elim c.if-within.branch [ then-within w ↦ (let r : w.within-then-within.result ≡ from_to (negsuc 8388607) (pos 8388607) l.largest = rw (to_z-of_z g) at w.within-then-within.ensures in grind arith) | else-within w ↦ grind arith ]

pub returns-else-within-2 : goal.returns-else-within-2
returns-else-within-2 c =
    let l = c.args.self in
    let f : SFits w64 l.smallest = search rules in
    let g : SFits w64 l.largest = search rules in
    let p : c.within.result ≡ from_to (negsuc 8388607) (pos 8388607) l.smallest = rw (to_z-of_z f) at c.within.ensures in
    elim c.if-within.branch [ then-within w ↦ (let r : w.within-then-within.result ≡ from_to (negsuc 8388607) (pos 8388607) l.largest = rw (to_z-of_z g) at w.within-then-within.ensures in grind arith) | else-within w ↦ grind arith ]
