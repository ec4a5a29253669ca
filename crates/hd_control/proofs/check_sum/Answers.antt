-- `hd_control::check_sum` meets its contract. Assumes nothing.
use mathlib.Core.Path.{sym, ◌∙◌}
use Rattle.answer.specs.Demand.{◌&◌}
use Rattle.answer.specs.Demand.Stops.{fails}
use Rattle.answer.proofs.Chains.{stopped, passing}
use Rattle.anc.proofs.Enclosing.{sum-stands, sum-fails}
use Rattle.hd_control.proofs.check_sum.Goals as goal

pub returns-then-words-check_word : goal.returns-then-words-check_word
returns-then-words-check_word c =
    sym (stopped _ (fails (sum-fails 14 c.args.words.now (λ q. c.if-words-check_word.true (q ∙ sym c.check_word.ensures)))))

pub returns : goal.returns
returns c = sym (passing _ _ (sum-stands 14 c.args.words.now (c.if-words-check_word.false ∙ c.check_word.ensures) & tt))
