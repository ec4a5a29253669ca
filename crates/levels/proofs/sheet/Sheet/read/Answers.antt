-- `levels::sheet::Sheet::read` meets its contract, channel by channel. Assumes nothing.
use mathlib.Core.Path.{ap₂, ◌∙◌}
use mathlib.Core.List.{List, ◌++◌}
use lib.IntN.{ℤ}
use Rattle.std.proofs.lemmas.Result.{err_from_is_err_and}
use Rattle.levels.proofs.Channels.{and, sheet-sound}
use Rattle.levels.proofs.sheet.Sheet.read.Goals as goal

pub returns-in_err-a : goal.returns-in_err-a
returns-in_err-a c =
    let p = err_from_is_err_and c.from_residual.result c.from_residual.ensures.1 in
    let h = c.in_err-a.ensures in
    rw (p.1, p.2) (h.0, sheet-sound c.args.a.now c.args.b.now c.told-a ∙ rw h.1)

pub returns-in_err-b : goal.returns-in_err-b
returns-in_err-b c =
    let p = err_from_is_err_and c.from_residual-in_err-b.result c.from_residual-in_err-b.ensures.1 in
    let h = c.in_err-b.ensures in
    let k = c.in_ok-a.ensures in
    rw (p.1, p.2) (h.0, sheet-sound c.args.a.now c.args.b.now c.told-a ∙ rw (k.0, h.1))

pub returns : goal.returns
returns c =
    let h = c.in_ok-a.ensures in
    let k = c.in_ok-b.ensures in (
      sheet-sound c.args.a.now c.args.b.now c.told-a ∙ and h.0 k.0,
      ap₂ (λ (x y : List ℤ). x ++ y) h.1 k.1,
    )
