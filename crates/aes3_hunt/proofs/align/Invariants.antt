-- `aes3_hunt::align` meets its contract: octet by octet, eight symbols from the position on. Assumes nothing.
use mathlib.Core.Path.{◌≡◌}
use Rattle.bits.proofs.Filling.{over}
use Rattle.aes3_hunt.specs.Align.{block_from}
use Rattle.aes3_hunt.proofs.align.Given as goal

abbrev pub invariant-loop-j : goal.invariant-loop-j
invariant-loop-j l = l.block ≡ over l.j (block_from l.line l.position) l.initial.block
