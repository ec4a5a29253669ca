-- `madi_write::check_words` meets its contract: where all words are passed, none breaks a rule. Assumes nothing.
use mathlib.Core.Path.{sym}
use Rattle.answer.specs.Answer.{Answer.accepted}
use Rattle.answer.proofs.Chains.{passing}
use Rattle.madi_write.specs.Writer.{channel_word_demands}
use Rattle.madi_write.proofs.Checks.{sound-met}
use Rattle.madi_write.proofs.check_words.Goals as goal

pub returns-then-are_sound : goal.returns-then-are_sound
returns-then-are_sound c =
    let w = c.args.words.now in
    sym (passing (accepted tt) (channel_word_demands w) (sound-met w (c.are_sound.ensures c.if-are_sound.true)))
