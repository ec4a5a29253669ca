-- `hd_control::check_narrow` meets its contract. Assumes nothing.
use mathlib.Core.Path.{sym}
use native.Mathlib.Omega.{arith}
use Rattle.answer.specs.Demand.{◌&◌}
use Rattle.answer.proofs.Chains.{stopped, passing}
use Rattle.anc.proofs.Searched.{wide-found, wide-below, none-wide}
use Rattle.hd_control.proofs.check_narrow.Goals as goal

pub overflow_cast-result : goal.overflow_cast-result
overflow_cast-result c = record { fits = omega (arith, wide-below c.args.words.now c.in-Some.ensures) }

pub returns-in-Some : goal.returns-in-Some
returns-in-Some c = sym (stopped _ (wide-found c.args.words.now c.in-Some.ensures))

pub returns-in-None : goal.returns-in-None
returns-in-None c = sym (passing _ _ (none-wide c.args.words.now c.in-None.ensures & tt))
