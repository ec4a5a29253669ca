-- `madi_read::on_end::commands_on` meets its contract: each turn is a piece of the definition's reading. Assumes nothing.
use mathlib.Core.Path.{◌≡◌}
use Prim.Native.Nat.{ℕ, ◌≤◌}
use Rattle.madi_read.specs.Inner.{row_of, frame_of, Reached, Fits}
use Rattle.madi_read.specs.declared.SoFar.{SoFar}
use Rattle.madi_read.proofs.on_end.commands_on.Given as goal

-- what was read so far, with so many commands
abbrev pub with_came : ℕ → SoFar → SoFar
with_came s f = record { channels = f.channels; active = f.active; commands = s; words = f.words; codes = f.codes }

abbrev pub invariant-loop-s : goal.invariant-loop-s
invariant-loop-s l = (l.came ≡ l.s) × (l.so_far.channels ≡ l.initial.so_far.channels) × (l.initial.so_far.commands ≤ l.s)
    × Fits l.source (with_came l.came l.so_far)
    × Reached (row_of l.source) l.source.channels (frame_of l.initial.so_far) (frame_of (with_came l.came l.so_far))
