-- `packet_replay::read` meets its contract: what was read stands at the start. Assumes nothing.
use mathlib.Core.Path.{◌≡◌, sym}
use mathlib.Core.List.{List}
use Prim.Native.Nat.{ℕ, ◌≤◌}
use borrow.Author.Rules.{rules}
use lib.ListN.{length, take}
use lib.Seq.{length-take-le}
use Rattle.packet_replay.proofs.read.Goals as goal

counted : (n : ℕ) (buf : List ℕ) → n ≤ length buf → (n ≤ length buf) × (n ≡ length (take n buf))
counted n buf h = (h, sym (length-take-le n buf h))

pub returns-then-more-eq0 : goal.returns-then-more-eq0
returns-then-more-eq0 c = counted _ _ (search rules)

pub returns-in-Err : goal.returns-in-Err
returns-in-Err c = counted _ _ (search rules)

pub returns : goal.returns
returns c = counted _ _ (search rules)
