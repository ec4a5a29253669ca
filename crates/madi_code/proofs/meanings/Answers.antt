-- `madi_code::meanings` meets its contract: the table is right at each of its 32 entries. Assumes nothing.
use mathlib.Core.Path.{refl}
use Rattle.madi_code.proofs.TableLaws.{means-all}
use Rattle.madi_code.proofs.GroupLaws.{meanings-right}
use Rattle.madi_code.proofs.meanings.Goals as goal

pub returns : goal.returns
returns c = means-all _ refl meanings-right
