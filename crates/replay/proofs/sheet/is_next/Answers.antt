-- `replay::sheet::is_next` meets its contract. Assumes nothing.
use mathlib.Core.Path.{sym, ap, ◌∙◌}
use Prim.Native.Nat.{ℕ}
use Rattle.answer.specs.Answer.{Answer}
use Rattle.answer.specs.Said.{said}
use Rattle.replay.specs.Sheet.{follows}
use Rattle.replay.proofs.sheet.is_next.Goals as goal

pub returns-in-Err : goal.returns-in-Err
returns-in-Err c =
    ap (λ (a : Answer ℕ). follows a c.args.dbn) (sym (ap said c.in-Err.is) ∙ c.next_dbn.ensures)

pub returns-in-Ok : goal.returns-in-Ok
returns-in-Ok c =
    ap (λ (a : Answer ℕ). follows a c.args.dbn) (sym (ap said c.in-Ok.is) ∙ c.next_dbn.ensures)
