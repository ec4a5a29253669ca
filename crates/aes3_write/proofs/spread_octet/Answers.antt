-- `aes3_write::spread_octet` meets its contract: the table's rule. Assumes nothing.
use mathlib.Core.Path.{◌≡◌, ap₂, ◌∙◌}
use mathlib.Core.List.{List}
use Prim.Native.Nat.{ℕ}
use native.Mathlib.Omega.{arith}
use lib.ListN.{get_or}
use Rattle.aes3_write.specs.Inner.{spread}
use Rattle.aes3_write.specs.declared.tables.TheConstants.{SPREAD}
use Rattle.aes3_write.proofs.Flags.{spreads-right, spread_at, spread-lt}
use Rattle.aes3_write.proofs.spread_octet.Goals as goal

pub returns : goal.returns
returns c =
    let o = c.args.o in
    let e : get_or SPREAD c.from.result 0 ≡ spread o =
    ap₂ (λ (t : List ℕ) (k : ℕ). get_or t k 0) spreads-right c.from.ensures ∙ spread_at o (omega arith) in
    (e, rw e (spread-lt o))
