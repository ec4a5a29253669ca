-- `levels::channel::read` meets its contract. Assumes nothing.
use mathlib.Core.Path.{◌≡◌, refl, sym, ap, ◌∙◌}
use mathlib.Core.Bool.{Bool, true, false}
use mathlib.Core.Logic.{⊎_elim}
use Rattle.std.proofs.Common.{rules}
use Rattle.std.specs.Prelude.{None}
use Rattle.std.specs.Cmp.Rules.{signed_items}
use lib.IntN.{pos}
use lib.ListN.{get_or}
use mir.Syntax.{w64}
use mir.Val.{SFits, to_z, of_z}
use mir.Facts.{to_z-of_z}
use Rattle.bits.proofs.Tests.{no-yes}
use Rattle.levels.specs.Lines.{line_at}
use Rattle.levels.specs.Inner.{channel_lines, channel_sound, levels_sound}
use Rattle.levels.proofs.Levels.{none-sound, told-apart, told-some, levels_in}
use Rattle.levels.proofs.channel.read.Goals as goal
use Rattle.levels.proofs.channel.read.Goals.{else-mark-eq0-via-then-mark-eq0+else-are_sound, else-mark-eq0-via-else-mark-eq0}

falsified : (b : Bool) → (b ≡ true → ⊥) → b ≡ false
falsified true f = absurd (f refl)
falsified false f = refl

pub returns-then-eq : goal.returns-then-eq
returns-then-eq c =
    let s = c.args.lines.now in
    let h : s ≡ channel_lines None = (signed_items s (channel_lines None)).0 (sym c.if-eq.ensures) in
    (ap channel_sound h ∙ none-sound, sym h)

pub returns-then-are_sound : goal.returns-then-are_sound
returns-then-are_sound c =
    let s = c.args.lines.now in
    let f0 : SFits w64 (get_or s 0 (pos 0)) = search rules in
    let f1 : SFits w64 (get_or s 1 (pos 0)) = search rules in
    let f2 : SFits w64 (get_or s 2 (pos 0)) = search rules in
    let f3 : SFits w64 (get_or s 3 (pos 0)) = search rules in
    let f4 : SFits w64 (get_or s 4 (pos 0)) = search rules in
    let f5 : SFits w64 (get_or s 5 (pos 0)) = search rules in
    let f6 : SFits w64 (get_or s 6 (pos 0)) = search rules in
    let f7 : SFits w64 (get_or s 7 (pos 0)) = search rules in
    let f8 : SFits w64 (get_or s 8 (pos 0)) = search rules in
    let f9 : SFits w64 (get_or s 9 (pos 0)) = search rules in
    let z : line_at s 1 ≡ pos 0 = sym (to_z-of_z f1) ∙ ap (to_z w64) c.if-mark-eq0.true in
    let t : levels_sound (levels_in s) ≡ true =
    sym (rw (to_z-of_z f0, to_z-of_z f2, to_z-of_z f3, to_z-of_z f4, to_z-of_z f5, to_z-of_z f6, to_z-of_z f7, to_z-of_z f8, to_z-of_z f9) at c.if-are_sound.ensures) in
    rw (to_z-of_z f0, to_z-of_z f2, to_z-of_z f3, to_z-of_z f4, to_z-of_z f5, to_z-of_z f6, to_z-of_z f7, to_z-of_z f8, to_z-of_z f9)
    (told-some s c.told-lines z t)

pub returns-else-mark-eq0 : goal.returns-else-mark-eq0
returns-else-mark-eq0 c =
    let s = c.args.lines.now in
    let f0 : SFits w64 (get_or s 0 (pos 0)) = search rules in
    let f2 : SFits w64 (get_or s 2 (pos 0)) = search rules in
    let f3 : SFits w64 (get_or s 3 (pos 0)) = search rules in
    let f4 : SFits w64 (get_or s 4 (pos 0)) = search rules in
    let f5 : SFits w64 (get_or s 5 (pos 0)) = search rules in
    let f6 : SFits w64 (get_or s 6 (pos 0)) = search rules in
    let f7 : SFits w64 (get_or s 7 (pos 0)) = search rules in
    let f8 : SFits w64 (get_or s 8 (pos 0)) = search rules in
    let f9 : SFits w64 (get_or s 9 (pos 0)) = search rules in
    let no : (line_at s 1 ≡ pos 0) × (levels_sound (levels_in s) ≡ true) → ⊥ = λ q. elim c.else-mark-eq0.branch [
      | else-mark-eq0-via-then-mark-eq0+else-are_sound w ↦ no-yes _ (sym (rw (to_z-of_z f0, to_z-of_z f2, to_z-of_z f3, to_z-of_z f4, to_z-of_z f5, to_z-of_z f6, to_z-of_z f7, to_z-of_z f8, to_z-of_z f9) at w.are_sound.ensures) ∙ w.if-are_sound.false) q.1
      | else-mark-eq0-via-else-mark-eq0 w ↦ w.if-mark-eq0.false (ap (of_z w64) q.0)
    ] in (
      refl,
      falsified (channel_sound s) (λ e. ⊎_elim (λ (z : channel_lines None ≡ s). no-yes _ (sym c.if-eq.ensures) ((signed_items s (channel_lines None)).1 (sym z)))
          (λ (q : (line_at s 1 ≡ pos 0) × (levels_sound (levels_in s) ≡ true)). no q) (told-apart s c.told-lines e)),
    )
