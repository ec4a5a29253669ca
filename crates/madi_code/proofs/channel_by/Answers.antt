-- `madi_code::channel_by` meets its contract: the word that the table gives; where it gives none, group by group.
-- Assumes nothing.
use mathlib.Core.Path.{sym, ◌∙◌}
use borrow.Author.Tests.{lt-ltb, le-ltb}
use Rattle.madi_code.specs.Inner.{channel_by}
use Rattle.madi_code.proofs.FrameLaws.{parted-ok, parted-err}
use Rattle.madi_code.proofs.channel_by.Goals as goal

pub returns-in-Ok : goal.returns-in-Ok
unfolding channel_by
returns-in-Ok c =
    let is = parted-ok _ _ _ (sym c.word_by.ensures ∙ c.in-Ok.is) in
    rw (lt-ltb _ _ is.0, is.1)

pub returns-in-Err : goal.returns-in-Err
unfolding channel_by
returns-in-Err c =
    rw (c.channel_of.ensures, le-ltb _ _ (parted-err _ _ _ (sym c.word_by.ensures ∙ c.in-Err.is)).0)
