-- `block::by_status::status_byte` meets its contract. Assumes nothing.
use mathlib.Core.Path.{sym, ap, ◌∙◌}
use Prim.Native.Nat.{ℕ, ◌+◌, ◌*◌}
use lib.ListN.{get_or}
use Rattle.block.specs.Side.{status, columns, column_length}
use Rattle.block.specs.Inner.{number_of}
use Rattle.block.proofs.CheckLaws.{status-octet}
use Rattle.block.proofs.by_status.status_byte.Goals as goal

pub returns : goal.returns
returns c =
    let a = c.args in
    ap (λ (k : ℕ). get_or a.side.now (column_length * (columns * k + status) + a.byte) 0) c.number.ensures.0
    ∙ sym (status-octet a.side.now (number_of a.channel) a.byte c.requires)
