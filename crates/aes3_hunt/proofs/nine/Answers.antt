-- `aes3_hunt::nine` meets its contract: two octets hold the nine symbols. Assumes nothing.
use Prim.Native.Nat.{◌+◌, ◌/◌}
use native.Mathlib.Omega.{arith}
use Rattle.aes3_hunt.proofs.Symbols.{nine-at}
use Rattle.aes3_hunt.proofs.nine.Goals as goal

pub returns : goal.returns
returns c =
    let a = c.args in
    rw (c.from.ensures, c.from_be_bytes.ensures)
    (nine-at a.line.now a.t (omega (arith, c.type_inv.line (a.t / 8)))
    (omega (arith, c.type_inv.line (a.t / 8 + 1))))
