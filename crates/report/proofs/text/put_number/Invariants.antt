-- `report::text::put_number` meets its contract. Assumes nothing.
use Rattle.report.proofs.TextLaws.{Spelling}
use Rattle.report.proofs.text.put_number.Given as goal

abbrev pub invariant-loop-left : goal.invariant-loop-left
invariant-loop-left l = Spelling l.initial.out l.end l.n l.base l.out l.left l.rest
