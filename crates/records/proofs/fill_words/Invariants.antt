-- `records::fill_words` meets its contract. Assumes nothing.
use mathlib.Core.Path.{◌≡◌}
use Prim.Native.Nat.{◌*◌, ◌≤◌}
use lib.ListN.{length}
use Rattle.bits.proofs.Filling.{over}
use Rattle.records.specs.Record.{big_endian}
use Rattle.records.proofs.fill_words.Given as goal

abbrev pub invariant-loop-i : goal.invariant-loop-i
invariant-loop-i l = (length l.octets ≡ length l.initial.words * 2) × (l.i ≤ length l.initial.words) × (length l.words ≡ length l.initial.words) × (l.words ≡ over l.i (big_endian l.octets) l.initial.words)
