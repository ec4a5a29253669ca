-- `madi_write::is_list` meets its contract: the tests are the definition's. Assumes nothing.
use mathlib.Core.Path.{sym, ap, ◌∙◌}
use lib.Seq.{take-length}
use Rattle.madi_code.specs.Frame.{synced}
use Rattle.madi_write.specs.Writer.{is_list}
use Rattle.madi_write.proofs.is_list.Goals as goal
use Rattle.madi_write.proofs.is_list.Goals.{then-count_right, else-count_right}

pub returns-then-are_numbered : goal.returns-then-are_numbered
unfolding is_list
returns-then-are_numbered c =
    elim c.if-count_right.branch [
      | then-count_right w ↦ rw (sym c.count_right.ensures ∙ w.if-count_right.true, sym w.are_numbered.ensures ∙ sym w.value-is ∙ c.if-are_numbered.true)
          (c.has_sync.ensures ∙ ap synced (take-length c.args.commands.now))
      | else-count_right w ↦ cc (w.value-is)
    ]

pub returns-else-are_numbered : goal.returns-else-are_numbered
unfolding is_list
returns-else-are_numbered c =
    elim c.if-count_right.branch [
      | then-count_right w ↦ rw (sym c.count_right.ensures ∙ w.if-count_right.true, sym w.are_numbered.ensures ∙ sym w.value-is ∙ c.if-are_numbered.false)
          c.if-are_numbered.false
      | else-count_right w ↦ rw (sym c.count_right.ensures ∙ w.if-count_right.false) c.if-are_numbered.false
    ]
