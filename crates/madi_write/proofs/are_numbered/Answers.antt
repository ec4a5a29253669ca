-- `madi_write::are_numbered` meets its contract: what was gathered is above 15 exactly if some command is. Assumes
-- nothing.
use mathlib.Core.Path.{◌≡◌, sym, ap, ◌∙◌}
use mathlib.Core.Logic.{⊎_elim}
use mathlib.Core.Bool.{Bool, ◌&&◌}
use mathlib.Core.List.{List, [], ◌∷◌, ◌++◌}
use Prim.Native.Nat.{ℕ, ◌≤◌, ◌<◌}
use native.Mathlib.Omega.{arith}
use borrow.Author.Tests.{le-leb, lt-leb}
use lib.Bits.{bit_or, or_lt}
use lib.Dec.{leb}
use Rattle.std.proofs.Common.{rules}
use Rattle.std.proofs.lemmas.Iterator.{YieldsList-from_slice}
use Rattle.std.proofs.lemmas.Fn.{fold_over, fronts}
use Rattle.bits.proofs.Tests.{order}
use Rattle.madi_code.specs.Frame.{numbered}
use Rattle.madi_code.proofs.FrameLaws.{numbered-push, none-numbered}
use Rattle.madi_write.proofs.Checks.{left_in, right-in}
use Rattle.madi_write.proofs.are_numbered.Goals as goal

-- an or is above 15 where one side is
or-leb : (a x : ℕ) → leb (bit_or a x) 15 ≡ (leb a 15 && leb x 15)
or-leb a x =
    ⊎_elim (λ (h : 16 ≤ a). rw (lt-leb a 15 (omega arith), lt-leb (bit_or a x) 15 (omega (arith, left_in a x))))
    (λ (h : a < 16). ⊎_elim (λ (k : 16 ≤ x). rw (le-leb a 15 (omega arith), lt-leb x 15 (omega arith), lt-leb (bit_or a x) 15 (omega (arith, right-in a x))))
    (λ (k : x < 16). rw (le-leb a 15 (omega arith), le-leb x 15 (omega arith), le-leb (bit_or a x) 15 (omega (arith, or_lt 4 a x h k)))) (order 16 x)) (order 16 a)

-- one more
gathered : (ys : List ℕ) (a x : ℕ) → leb a 15 ≡ numbered ys → leb (bit_or a x) 15 ≡ numbered (ys ++ x ∷ [])
gathered ys a x e = or-leb a x ∙ ap (λ (t : Bool). t && leb x 15) e ∙ sym (numbered-push ys x)

pub returns : goal.returns
returns c =
    fold_over fronts (λ y. y.now) _ (λ ys a. leb a 15 ≡ numbered ys) _
    (λ ys a x b q e k. let p : (b ≡ bit_or a x.now) × (q ≡ _) = search rules in
    (rw p.0 (gathered ys a x.now e), p.1))
    _ c.args.commands.now 0 c.fold.result (YieldsList-from_slice c.args.commands.now cc).runs none-numbered c.fold.ensures.ran
