-- `replay::sheet::sheet_sound` meets its contract: the definition is that each group's line passes. Assumes nothing.
use mathlib.Core.Path.{◌≡◌, refl, ◌∙◌}
use mathlib.Core.Bool.{Bool, true, false, ◌&&◌}
use mathlib.Core.List.{List, [], ◌∷◌}
use Prim.Native.Nat.{ℕ}
use Rattle.std.proofs.Common.{rules, tests}
use Rattle.std.specs.List.{list_all}
use Rattle.std.proofs.lemmas.Iterator.{YieldsList-from_range}
use Rattle.std.proofs.lemmas.Iterator.Search.{all_from_yields_List}
use Rattle.replay.specs.Sheet.{group_sound, marks_sound}
use Rattle.replay.proofs.sheet.sheet_sound.Goals as goal

and-true : (a b c d : Bool) → (a && (b && (c && (d && true)))) ≡ (a && b && c && d)
and-true true true true true = refl
and-true true true true false = refl
and-true true true false d = refl
and-true true false c d = refl
and-true false b c d = refl

each : (s : List ℕ) → list_all (group_sound s) (1 ∷ 2 ∷ 3 ∷ 4 ∷ []) ≡ marks_sound s
unfolding marks_sound
each s = and-true (group_sound s 1) (group_sound s 2) (group_sound s 3) (group_sound s 4)

pub returns : goal.returns
returns c =
    all_from_yields_List (group_sound c.args.sheet.now) _ _ c.all.result c.all.ensures.ran (YieldsList-from_range 1 5 4 refl refl)
    (λ x b q k. search (rules, tests)) ∙ each c.args.sheet.now
