-- `codes::crcc_added` meets its contract. The loop's invariant: what the code holds is the octet that the stages are
-- sent as, after the difference and the zeros up to the byte before. Assumes nothing.
use mathlib.Core.Path.{◌≡◌}
use Prim.Native.Nat.{◌-◌, ◌≤◌}
use Rattle.codes.specs.Crcc.{octet_of}
use Rattle.codes.proofs.EditLaws.{followed}
use Rattle.codes.proofs.crcc_added.Given as goal

abbrev pub invariant-loop : goal.invariant-loop
invariant-loop l = (l.counter - l.byte ≤ 22 - l.byte) × (l.c ≡ octet_of (followed l.difference (l.counter - l.byte)))
