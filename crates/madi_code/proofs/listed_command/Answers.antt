-- `madi_code::listed_command` meets its contract. Assumes nothing.
use mathlib.Core.Path.{ap, ◌∙◌}
use mathlib.Core.List.{List}
use Prim.Native.Nat.{ℕ}
use Rattle.madi_code.specs.Frame.{below}
use Rattle.madi_code.specs.Inner.{command_by}
use Rattle.madi_code.proofs.GroupLaws.{commands-placed}
use Rattle.madi_code.proofs.listed_command.Goals as goal

pub returns : goal.returns
returns c =
    let v = c.args.v in
    c.command_by.ensures ∙ ap (below 16) (ap (λ (t : List ℕ). command_by t v) c.command_places-table.ensures ∙ commands-placed v)
