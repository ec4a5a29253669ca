-- `aes3_write::entry` meets its contract. Assumes nothing.
use mathlib.Core.Path.{◌∙◌}
use native.Mathlib.Omega.{arith}
use Rattle.line.proofs.BiphaseByOctet.{entry_lt}
use Rattle.aes3_write.proofs.entry.Goals as goal

pub returns : goal.returns
returns c =
    let e = c.from.ensures ∙ c.biphase_coding.ensures in
    (e, rw e (entry_lt c.args.d (omega arith)))
