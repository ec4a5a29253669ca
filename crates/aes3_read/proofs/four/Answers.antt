-- `aes3_read::four` meets its contract: the table's rule. Assumes nothing.
use mathlib.Core.Path.{◌≡◌, ap, ◌∙◌}
use Prim.Native.Nat.{ℕ}
use native.Mathlib.Omega.{arith}
use lib.ListN.{get_or}
use Rattle.aes3_read.specs.declared.tables.TheConstants.{HELD}
use Rattle.aes3_read.proofs.HeldTable.{held_at, held-lt}
use Rattle.aes3_read.proofs.four.Goals as goal

pub returns : goal.returns
returns c =
    let o = c.args.o in
    let e : c.from-2.result ≡ get_or HELD o 0 = c.from-2.ensures ∙ ap (λ (k : ℕ). get_or HELD k 0) c.from.ensures in
    (e ∙ held_at o (omega arith), rw e (held-lt o (omega arith)))
