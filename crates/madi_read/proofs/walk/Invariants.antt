-- `madi_read::walk` meets its contract: what is left to read is what the definition has left. Assumes nothing.
use Prim.Native.Nat.{◌-◌}
use Rattle.madi_code.specs.Frame.{boundary}
use Rattle.madi_read.specs.Reader.{at_start}
use Rattle.madi_read.specs.Inner.{row_of, frame_of, Reached, Fits}
use Rattle.madi_read.proofs.walk.Given as goal

abbrev pub invariant-loop-c : goal.invariant-loop-c
invariant-loop-c l = Fits l.source l.so_far × Reached (row_of l.source) l.source.channels at_start (frame_of l.so_far)

abbrev pub decreases-loop-c : goal.decreases-loop-c
decreases-loop-c l = l.source.bits - boundary l.so_far.channels l.so_far.commands
