-- `madi_read::commands::command_by` meets its contract: the table of places gives the command. Assumes nothing.
use mathlib.Core.Path.{◌≡◌, sym, ap, ◌∙◌}
use mathlib.Core.List.{List}
use Prim.Native.Nat.{ℕ, ◌<◌}
use native.Mathlib.Omega.{arith}
use Rattle.madi_code.specs.Groups.{command_of}
use Rattle.madi_code.specs.Inner.{command_by}
use Rattle.madi_code.proofs.FrameLaws.{below-some}
use Rattle.madi_code.proofs.GroupLaws.{commands-placed}
use Rattle.madi_read.proofs.commands.command_by.Goals as goal
use Rattle.madi_read.proofs.commands.command_by.Goals.{In_ok-c}

-- the entry looked at
module _ (c : In_ok-c) where
  found : (command_by c.args.places.now c.args.v < 16) × (command_by c.args.places.now c.args.v ≡ c.in_ok-c.c)
  found = below-some 16 (command_by c.args.places.now c.args.v) c.in_ok-c.c (sym c.command_by.ensures ∙ c.in_ok-c.was)

  same : command_by c.args.places.now c.args.v ≡ command_of c.args.v
  same = ap (λ (p : List ℕ). command_by p c.args.v) c.requires ∙ commands-placed c.args.v

pub overflow_cast-result : goal.overflow_cast-result
overflow_cast-result c = omega (arith, (found (goal.at.overflow_cast-result c).In_ok-c).0, (found (goal.at.overflow_cast-result c).In_ok-c).1)

pub returns : goal.returns
returns c =
    let p = (goal.at.returns c).In_ok-c in
    (sym (found p).1 ∙ same p, omega (arith, (found p).0, (found p).1))
