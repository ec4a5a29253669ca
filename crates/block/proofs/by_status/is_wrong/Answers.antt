-- `block::by_status::is_wrong` meets its contract: where length and channel are right, the CRCC alone decides. Assumes nothing.
use mathlib.Core.Path.{◌≡◌, ap, ◌∙◌}
use mathlib.Core.Bool.{not}
use mathlib.Core.List.{List}
use Prim.Native.Nat.{ℕ, ◌<◌}
use borrow.Author.Tests.{eq-eqb, lt-ltb}
use lib.ListN.{length}
use Rattle.block.specs.Side.{side_length}
use Rattle.block.specs.Check.{status_right, wrong}
use Rattle.block.proofs.by_status.is_wrong.Goals as goal

tells : (t : List ℕ) (channel : ℕ) → length t ≡ side_length → channel < 2 → not (status_right t channel) ≡ wrong t channel
unfolding status_right wrong
tells t channel n h = rw (eq-eqb (length t) side_length n, lt-ltb channel 2 h)

pub returns : goal.returns
returns c =
    let side = c.args.side.now in
    ap not c.status_right.ensures ∙ tells side c.number.result c.told-side c.number.ensures.1
    ∙ ap (wrong side) c.number.ensures.0
