-- `codes::first_failing` meets its contract. Assumes nothing.
use mathlib.Core.Path.{sym, ap, ◌∙◌}
use mathlib.Core.List.{List}
use Prim.Native.Nat.{ℕ}
use borrow.Author.Tests.{ne_eqb}
use lib.ListN.{length}
use Rattle.std.specs.Prelude.{Some, None}
use Rattle.bits.specs.Pick.{first}
use Rattle.codes.specs.Lanes.{failing}
use Rattle.codes.specs.Inner.{first_failing}
use Rattle.codes.proofs.RepairedLanes.{first-failing-place}
use Rattle.codes.proofs.first_failing.Goals as goal

pub returns-in-Some : goal.returns-in-Some
returns-in-Some c =
    let chunk = c.in-Some.ensures.cases in
    c.failing_lane.ensures ∙ ap (λ (os : List ℕ). first (failing os) 0 8 Some None) chunk.same
    ∙ sym (first-failing-place c.args.octets.now chunk.long)

pub returns-in-None : goal.returns-in-None
unfolding first_failing
returns-in-None c = rw (ne_eqb (length c.args.octets.now) 30 c.in-None.ensures.cases)
