-- `subframe::sample_of` meets its contract. Assumes nothing.
use borrow.Author.Rules.{rules}
use Rattle.subframe.specs.Body.{sample_of}
use Rattle.subframe.proofs.sample_of.Goals as goal

pub returns : goal.returns
unfolding sample_of
returns c = search rules
