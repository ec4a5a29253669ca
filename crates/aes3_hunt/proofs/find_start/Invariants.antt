-- `aes3_hunt::find_start` meets its contract. Outer invariant: the answer is that of the candidates from p on, and the
-- count is the total of those before p. Inner: besides, none of p's first k symbols differs. A `continue` of the outer
-- loop steps p and the count inside the inner one, so the inner invariant says that p is still the outer p. Assumes
-- nothing.
use mathlib.Core.Path.{◌≡◌}
use Prim.Native.Nat.{◌-◌}
use Rattle.bits.specs.Pack.{symbols}
use Rattle.aes3_hunt.specs.Hunt.{hunted, total}
use Rattle.aes3_hunt.proofs.Cost.{NoneBefore}
use Rattle.aes3_hunt.proofs.Turns.{onwards}
use Rattle.aes3_hunt.proofs.find_start.Given as goal

abbrev pub invariant-loop-k : goal.invariant-loop-k
invariant-loop-k l = (l.p ≡ l.initial.p) × (onwards l.line l.end l.p ≡ hunted l.line) × (l.compared ≡ total (symbols l.line) (l.p - 1)) × NoneBefore (symbols l.line) l.p l.k

abbrev pub invariant-next : goal.invariant-next
invariant-next l = (onwards l.line l.end l.p ≡ hunted l.line) × (l.compared ≡ total (symbols l.line) (l.p - 1))
