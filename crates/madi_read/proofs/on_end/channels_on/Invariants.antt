-- `madi_read::on_end::channels_on` meets its contract: each turn is a piece of the definition's reading. Assumes nothing.
use mathlib.Core.Path.{◌≡◌}
use Prim.Native.Nat.{ℕ, ◌≤◌, ◌<◌}
use Rattle.madi_read.specs.Inner.{row_of, frame_of, Reached, Fits}
use Rattle.madi_read.specs.declared.SoFar.{SoFar}
use Rattle.madi_read.proofs.on_end.channels_on.Given as goal

-- what was read so far, with so many channels, all of them active
abbrev pub with_came : ℕ → SoFar → SoFar
with_came n f = record { channels = n; active = n; commands = f.commands; words = f.words; codes = f.codes }

abbrev pub invariant-loop-n : goal.invariant-loop-n
invariant-loop-n l = (l.came ≡ l.n) × (0 < l.n) × (l.initial.so_far.channels ≤ l.n) × (l.so_far.commands ≡ l.initial.so_far.commands)
    × Fits l.source (with_came l.came l.so_far)
    × Reached (row_of l.source) l.source.channels (frame_of l.initial.so_far) (frame_of (with_came l.came l.so_far))
