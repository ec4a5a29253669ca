-- Every sheet of a replay is as long as the first. Assumes nothing.
use mathlib.Core.Path.{◌≡◌, refl, ◌∙◌}
use mathlib.Core.List.{List, [], ◌∷◌}
use Prim.Native.Nat.{ℕ}
use lib.ListN.{length, length-set, set}
use Rattle.replay.specs.File.{records_of}
use Rattle.replay.specs.Packet.{entry_of}
use Rattle.replay.specs.Sheet.{entry_changes, written}
use Rattle.replay.specs.Replay.{with_record, figures_after, records_counted, replay_figures}

pub length-written : (cs : List (ℕ × ℕ)) (sheet : List ℕ) → length (written cs sheet) ≡ length sheet
unfolding written
length-written [] sheet = refl
length-written (c ∷ cs) sheet = length-written cs (set sheet c.0 c.1) ∙ length-set sheet c.0 c.1

pub length-after : (sheet : List ℕ) (rs : List (List ℕ)) → length (figures_after sheet rs) ≡ length sheet
unfolding figures_after
length-after sheet [] = refl
length-after sheet (r ∷ rs) = length-after (with_record sheet r) rs ∙ length-written (entry_changes (entry_of r) sheet) sheet

pub length-figures : (octets sheet : List ℕ) → length (replay_figures octets sheet) ≡ length sheet
unfolding replay_figures
length-figures octets sheet = length-after sheet (records_counted sheet (records_of octets))
