-- `block::from_bodies::apart` meets its contract: the table's rule. Assumes nothing.
use mathlib.Core.Path.{refl, ap, ◌∙◌}
use Prim.Native.Nat.{ℕ}
use native.Mathlib.Omega.{arith}
use lib.ListN.{get_or}
use Rattle.subframe.specs.Body.{parity_of}
use Rattle.block.proofs.Gathering.{entries, entries-right, entry}
use Rattle.block.proofs.from_bodies.apart.Goals as goal

pub returns : goal.returns
unfolding entries
returns c =
    let b = c.args.body in
    ap (λ (i : ℕ). get_or entries i 0) c.slots_and_parity.ensures.0 ∙ entry entries b (parity_of b) entries-right (omega arith) refl
