-- `hd_control::check_rules` meets its contract: no word before k is wrong. Assumes nothing.
use mathlib.Core.Path.{◌≡◌}
use mathlib.Core.Bool.{false}
use Prim.Native.Nat.{ℕ, ◌≤◌, ◌<◌}
use Rattle.anc.specs.Word.{wrong_at}
use Rattle.hd_control.specs.Control.{rule_of}
use Rattle.hd_control.proofs.check_rules.Given as goal

abbrev pub invariant-loop-k : goal.invariant-loop-k
invariant-loop-k l = (j : ℕ) → j < l.k → 3 ≤ j → wrong_at rule_of l.words j ≡ false
