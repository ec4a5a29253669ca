-- `codes::places` meets its contract, by the table's rule. Assumes nothing.
use mathlib.Core.Path.{sym}
use Rattle.codes.proofs.PlaceTable.{places, place-table}
use Rattle.codes.proofs.places.Goals as goal

pub returns : goal.returns
unfolding places
returns c = sym place-table
