-- `madi_patch::as_long` meets its contract: the definition is that each passes the test. Assumes nothing.
use mathlib.Core.Path.{◌≡◌, refl, ap, ◌∙◌}
use mathlib.Core.Bool.{Bool, ◌&&◌}
use mathlib.Core.List.{List, [], ◌∷◌}
use Prim.Native.Nat.{ℕ}
use lib.Dec.{eqb}
use Rattle.std.proofs.Common.{rules, tests}
use Rattle.std.specs.List.{list_all}
use Rattle.std.proofs.lemmas.Iterator.{YieldsList-from_slice}
use Rattle.std.proofs.lemmas.Iterator.Search.{all_from_yields_List}
use Rattle.madi_patch.specs.Patch.{as_long}
use Rattle.madi_patch.proofs.as_long.Goals as goal

all-long : (n : ℕ) (ns : List ℕ) → list_all (λ m. eqb m n) ns ≡ as_long n ns
all-long n [] = refl
all-long n (m ∷ ns) = ap (λ (t : Bool). eqb m n && t) (all-long n ns)

pub returns : goal.returns
returns c =
    all_from_yields_List (λ m. eqb m c.args.channels) _ _ c.all.result c.all.ensures.ran (YieldsList-from_slice c.args.lengths cc)
    (λ x b q k. search (rules, tests)) ∙ all-long c.args.channels c.args.lengths
