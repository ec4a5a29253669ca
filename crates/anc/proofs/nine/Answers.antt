-- `anc::nine` meets its contract. Assumes nothing.
use native.Mathlib.Omega.{arith}
use Rattle.anc.proofs.SumLaws.{sum-word}
use Rattle.anc.proofs.nine.Goals as goal

pub returns : goal.returns
returns c = sum-word _ (omega arith)
