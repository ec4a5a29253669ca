-- `levels::channel::Levels::are_sound` meets its contract. Assumes nothing.
use mathlib.Core.Path.{◌≡◌, sym, ◌∙◌}
use mathlib.Core.Bool.{◌&&◌}
use native.Mathlib.Omega.{arith}
use Rattle.std.proofs.Common.{rules}
use lib.IntN.{pos, negsuc, ◌*ℤ◌}
use mir.Syntax.{w64}
use mir.Val.{SFits}
use mir.Facts.{to_z-of_z}
use Rattle.levels.specs.Inner.{from_to}
use Rattle.levels.proofs.Levels.{reach-fits}
use Rattle.levels.proofs.channel.Levels.are_sound.Goals as goal
use Rattle.levels.proofs.channel.Levels.are_sound.Goals.{then-within, else-within, then-within-2, else-within-2}

pub returns-then-are_extremes : goal.returns-then-are_extremes
returns-then-are_extremes c =
    let l = c.args.self in
    let n : SFits w64 l.samples = search rules in
    let f : SFits w64 l.total = search rules in
    let p : c.within.result ≡ from_to (pos 1) (pos 4294967296) l.samples = rw (to_z-of_z n) at c.within.ensures in
    let v : c.if-within.value ≡ (from_to (pos 1) (pos 4294967296) l.samples && from_to (negsuc 8388607 *ℤ l.samples) (pos 8388608 *ℤ l.samples) l.total) = elim c.if-within.branch [
      | then-within w ↦ (let g = reach-fits l.samples (sym p ∙ w.if-within.true) in
          let r : w.within-then-within.result ≡ from_to (negsuc 8388607 *ℤ l.samples) (pos 8388608 *ℤ l.samples) l.total = rw (to_z-of_z n, to_z-of_z g.0, to_z-of_z g.1, to_z-of_z f) at w.within-then-within.ensures in grind arith)
      | else-within w ↦ grind arith
    ] in
    let a = c.are_counts.ensures in
    elim c.if-within-2.branch [
      | then-within-2 w ↦ grind (arith, w.are_extremes.ensures, a)
      | else-within-2 w ↦ grind (arith, a)
    ]

pub returns-else-are_extremes : goal.returns-else-are_extremes
returns-else-are_extremes c =
    let l = c.args.self in
    let n : SFits w64 l.samples = search rules in
    let f : SFits w64 l.total = search rules in
    let p : c.within.result ≡ from_to (pos 1) (pos 4294967296) l.samples = rw (to_z-of_z n) at c.within.ensures in
    let v : c.if-within.value ≡ (from_to (pos 1) (pos 4294967296) l.samples && from_to (negsuc 8388607 *ℤ l.samples) (pos 8388608 *ℤ l.samples) l.total) = elim c.if-within.branch [
      | then-within w ↦ (let g = reach-fits l.samples (sym p ∙ w.if-within.true) in
          let r : w.within-then-within.result ≡ from_to (negsuc 8388607 *ℤ l.samples) (pos 8388608 *ℤ l.samples) l.total = rw (to_z-of_z n, to_z-of_z g.0, to_z-of_z g.1, to_z-of_z f) at w.within-then-within.ensures in grind arith)
      | else-within w ↦ grind arith
    ] in
    elim c.if-within-2.branch [
      | then-within-2 w ↦ grind (arith, w.are_extremes.ensures)
      | else-within-2 w ↦ grind arith
    ]
