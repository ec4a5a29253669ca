-- `talkback::low_fours` meets its contract. Assumes nothing.
use Rattle.talkback.proofs.Pairs.{fours}
use Rattle.talkback.proofs.low_fours.Goals as goal

pub returns : goal.returns
returns c = fours c.args.pair
