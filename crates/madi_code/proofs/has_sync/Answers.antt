-- `madi_code::has_sync` meets its contract: no command passed is 0. Assumes nothing.
use mathlib.Core.Path.{◌≡◌, refl, ap, ◌∙◌}
use mathlib.Core.List.{List, [], ◌∷◌}
use Prim.Native.Nat.{ℕ}
use lib.Dec.{eqb}
use lib.ListN.{take}
use Rattle.std.specs.List.{list_any}
use Rattle.std.proofs.lemmas.List.{take_min}
use Rattle.madi_code.specs.Frame.{synced}
use Rattle.madi_code.proofs.has_sync.Goals as goal

any-synced : (cs : List ℕ) → list_any (λ y. eqb y 0) cs ≡ synced cs
unfolding synced
any-synced [] = refl
any-synced (c ∷ cs) = rw (any-synced cs)

pub returns : goal.returns
returns c =
    let cs : List ℕ = c.args.commands.now in
    c.contains.ensures.value ∙ any-synced _ ∙ ap (λ (k : ℕ). synced (take k cs)) c.min.ensures ∙ ap synced (take_min c.args.n cs)
