-- `madi_write::commands_number` meets its contract: one command more with each turn. Assumes nothing.
use mathlib.Core.Path.{◌≡◌, sym, ap, ap₂, ◌∙◌}
use mathlib.Core.List.{List}
use Prim.Native.Nat.{ℕ, ◌*◌, ◌+◌, ◌^◌, ◌<◌}
use native.Mathlib.Nat.{zero-add}
use native.Mathlib.Omega.{arith}
use lib.ListN.{get_or}
use Rattle.madi_code.specs.Groups.{command_code}
use Rattle.madi_code.proofs.GroupLaws.{command-listed, command-small}
use Rattle.madi_code.proofs.FrameLaws.{numbered-at}
use Rattle.madi_write.specs.Inner.{commands_number}
use Rattle.madi_write.proofs.Frames.{commands-next, commands-none, commands-lt}
use Rattle.madi_write.proofs.commands_number.Goals as goal
use Rattle.madi_write.proofs.commands_number.Goals.{After-from-in-loop-c, In-loop-c}

next : (cs : List ℕ) (k : ℕ) → commands_number cs 0 k * 2 ^ 10 + command_code (get_or cs k 0) ≡ commands_number cs 0 (k + 1)
next cs k = ap (λ (i : ℕ). commands_number cs 0 k * 2 ^ 10 + command_code (get_or cs i 0)) (sym (zero-add k)) ∙ commands-next cs 0 k

-- the command of this turn
number : In-loop-c → ℕ
number c = get_or c.args.commands.now c.loop-c.c-index 0

small : (c : In-loop-c) → number c < 16
unfolding number
small c = numbered-at c.args.commands.now c.requires.2 c.loop-c.c-index (omega arith)

bound : (c : In-loop-c) → c.loop-c.x < 2 ^ 40
bound c =
    omega (arith, c.loop-c.invariant.1, commands-lt c.args.commands.now 0 c.loop-c.c-index (omega arith) (omega arith))

pub loop-c-init : goal.loop-c-init
loop-c-init c = (omega arith, sym (commands-none c.args.commands.now 0))

pub overflow_mul-x : goal.overflow_mul-x
overflow_mul-x c = record { fits = omega (arith, bound (goal.at.overflow_mul-x c).In-loop-c) }

pub bounds-codes-from : goal.bounds-codes-from
unfolding number
bounds-codes-from c = omega (arith, c.from.ensures, small (goal.at.bounds-codes-from c).In-loop-c)

-- what the table has for the command of this turn
told : (c : After-from-in-loop-c) → c.from-in-loop-c.result ≡ command_code (get_or c.args.commands.now c.loop-c.c-index 0)
told c =
    let at : ℕ = get_or c.args.commands.now c.loop-c.c-index 0 in
    c.from-in-loop-c.ensures ∙ ap (λ (i : ℕ). get_or c.args.codes.now i 0) c.from.ensures
    ∙ ap (λ (l : List ℕ). get_or l at 0) c.requires.0 ∙ command-listed at

pub overflow_add-x : goal.overflow_add-x
overflow_add-x c =
    let p = (goal.at.overflow_add-x c).After-from-in-loop-c in
    record { fits = omega (arith, bound (goal.at.overflow_add-x c).In-loop-c, told p, command-small (get_or c.args.commands.now c.loop-c.c-index 0)) }

pub loop-c-preserved : goal.loop-c-preserved
loop-c-preserved c =
    let l = c.loop-c in
    (omega arith, ap₂ (λ (x y : ℕ). x * 2 ^ 10 + y) l.invariant.1 (told (goal.at.loop-c-preserved c).After-from-in-loop-c) ∙ next c.args.commands.now l.c-index)
