-- The constants of the biphase table are what the table should be: one test, which antt computes over all 256 entries.
-- Assumes nothing.
use mathlib.Core.Path.{◌≡◌, refl}
use mathlib.Core.Bool.{xor}
use Rattle.bits.specs.Row.{bits, big}
use Rattle.bits.specs.Listed.{listed}
use Rattle.line.specs.Biphase.{biphase, biphase_table}
use Rattle.line.specs.declared.biphase_table.TheConstants.{BIPHASE}

pub constants-right : BIPHASE ≡ biphase_table
unfolding biphase_table listed big biphase bits xor
constants-right = refl
