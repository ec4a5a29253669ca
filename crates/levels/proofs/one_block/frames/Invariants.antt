-- `levels::one_block::frames` meets its contract: what was counted, with what the octets from an index on have, is all. Assumes nothing.
use mathlib.Core.Path.{◌≡◌}
use mathlib.Core.List.{List}
use Prim.Native.Nat.{ℕ, ◌+◌, ◌*◌, ◌≤◌}
use lib.ListN.{drop}
use Rattle.bits.specs.Row.{count}
use Rattle.block.specs.Side.{column_in, column_row}
use Rattle.levels.specs.Sheets.{frames_set}
use Rattle.levels.proofs.one_block.frames.Given as goal

abbrev pub rest : List ℕ → ℕ → ℕ → ℕ
rest side column i = count (column_row (drop i (column_in side column)))

abbrev pub invariant-loop-octet : goal.invariant-loop-octet
invariant-loop-octet l = (l.n ≤ 8 * l.octet-index) × (l.n + rest l.side l.column l.octet-index ≡ frames_set l.column l.side)
