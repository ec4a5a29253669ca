-- `line::biphase_codings` meets its contract. Assumes nothing.
use Rattle.line.proofs.BiphaseConstants.{constants-right}
use Rattle.line.proofs.biphase_codings.Goals as goal

pub returns : goal.returns
returns c = constants-right
