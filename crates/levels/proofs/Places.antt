-- The lines of a joined sheet, of an empty one and of that of blocks. Assumes nothing.
use mathlib.Core.Path.{◌≡◌}
use mathlib.Core.List.{List}
use Prim.Native.Nat.{ℕ, ◌%◌, ◌<◌}
use lib.IntN.{ℤ, pos}
use lib.ListN.{length}
use Rattle.bits.proofs.Lists.{length-listed, get_or-listed}
use Rattle.levels.specs.Lines.{line_at, sheet_joined, joined_at, empty_sheet, empty_line}
use Rattle.levels.specs.Sheets.{Block, sheet_of, line_in}

pub length-joined : (a b : List ℤ) → length (sheet_joined a b) ≡ 20
unfolding sheet_joined
length-joined a b = length-listed 0 20 (joined_at a b)

pub at_joined : (a b : List ℤ) (k : ℕ) → k < 20 → line_at (sheet_joined a b) k ≡ joined_at a b k
unfolding sheet_joined
at_joined a b k h = get_or-listed 20 (joined_at a b) k (pos 0) h

pub length-empty : length empty_sheet ≡ 20
unfolding empty_sheet
length-empty = length-listed 0 20 (λ k. empty_line (k % 10))

pub at-empty : (k : ℕ) → k < 20 → line_at empty_sheet k ≡ empty_line (k % 10)
unfolding empty_sheet
at-empty k h = get_or-listed 20 (λ k. empty_line (k % 10)) k (pos 0) h

pub length-sheet : (bs : List Block) → length (sheet_of bs) ≡ 20
unfolding sheet_of
length-sheet bs = length-listed 0 20 (line_in bs)

pub at-sheet : (bs : List Block) (k : ℕ) → k < 20 → line_at (sheet_of bs) k ≡ line_in bs k
unfolding sheet_of
at-sheet bs k h = get_or-listed 20 (line_in bs) k (pos 0) h
