-- `levels::one_block::levels_of` meets its contract, field by field. Assumes nothing.
use mathlib.Core.Path.{ap, ◌∙◌}
use Rattle.std.proofs.Common.{rules}
use lib.IntN.{pos}
use mir.Syntax.{w32, w64}
use mir.Val.{SFits}
use mir.Facts.{to_z-of_z}
use Rattle.bits.specs.Row.{digit}
use Rattle.block.proofs.Frames.{right_is}
use Rattle.levels.specs.Sheets.{of_side}
use Rattle.levels.proofs.Levels.{back, byte-digit}
use Rattle.levels.proofs.one_block.levels_of.Goals as goal

pub returns : goal.returns
unfolding of_side
returns c =
    let f = c.args.f in
    let low : SFits w32 f.smallest = search rules in
    let high : SFits w32 f.largest = search rules in
    let all : SFits w64 f.total = search rules in
    rw (
      back c.from.result c.from.type_inv ∙ c.from.ensures ∙ to_z-of_z low,
      back c.from-2.result c.from-2.type_inv ∙ c.from-2.ensures ∙ to_z-of_z high,
      back c.magnitude.result c.magnitude.type_inv ∙ (rw (to_z-of_z low, to_z-of_z high) at c.magnitude.ensures),
      to_z-of_z all,
      back c.from-3.result c.from-3.type_inv ∙ c.from-3.ensures,
      back c.from-4.result c.from-4.type_inv ∙ c.from-4.ensures ∙ ap pos c.frames.ensures,
      back c.from-5.result c.from-5.type_inv ∙ c.from-5.ensures ∙ ap pos c.frames-2.ensures,
      back c.from-6.result c.from-6.type_inv ∙ c.from-6.ensures
          ∙ ap pos (byte-digit c.status_right.result ∙ ap digit (c.status_right.ensures ∙ right_is c.args.side.now c.args.c c.told-side c.requires)),
    )
