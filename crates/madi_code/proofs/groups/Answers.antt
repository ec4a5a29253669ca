-- `madi_code::groups` meets its contract: one entry more is right with each turn, by the four bits turned and the
-- document's table. Assumes nothing.
use mathlib.Core.Path.{◌≡◌, ap, subst, ◌∙◌}
use mathlib.Core.List.{List}
use mathlib.Core.Logic.{⊎_elim}
use Prim.Native.Nat.{ℕ, ◌≤◌, ◌<◌}
use native.Mathlib.Omega.{arith}
use lib.ListN.{get_or, set, length-set}
use lib.Seq.{get_or-set_same, get_or-set_other}
use Rattle.bits.specs.Row.{bits, big}
use Rattle.bits.proofs.Tests.{order}
use Rattle.madi_code.specs.Groups.{group_codes, group_code}
use Rattle.madi_code.proofs.GroupLaws.{place-lt, turns, turns-right}
use Rattle.madi_code.proofs.TableLaws.{sends-all}
use Rattle.madi_code.proofs.groups.Goals as goal

-- the group of four bits
right : (codes : List ℕ) (x : ℕ) → codes ≡ group_codes → x < 16 → get_or codes (get_or turns x 0) 0 ≡ group_code (big (bits 4 x))
unfolding group_code
right codes x e h = ap (λ (l : List ℕ). get_or l (get_or turns x 0) 0) e ∙ ap (λ (d : ℕ). get_or group_codes d 0) (turns-right x h)

pub bounds-codes-from : goal.bounds-codes-from
bounds-codes-from c = let x = c.loop-x.x in omega (arith, turns-right x (omega arith), place-lt x)

pub loop-x-preserved : goal.loop-x-preserved
loop-x-preserved c =
    let l = c.loop-x in
    let g = c.group_codes-codes in
    let v = get_or g.result c.from.result 0 in (
      omega arith,
      length-set l.table l.x v ∙ l.invariant.1,
      λ k h. ⊎_elim (λ (q : l.x ≤ k). let e : l.x ≡ k = omega arith in
          subst (λ (i : ℕ). get_or (set l.table l.x v) i 0 ≡ group_code (big (bits 4 i))) e
          (get_or-set_same l.table l.x v 0 (omega arith) ∙ ap (λ (d : ℕ). get_or g.result d 0) c.from.ensures ∙ right g.result l.x g.ensures (omega arith)))
          (λ (q : k < l.x). get_or-set_other l.table l.x k v 0 (λ e. absurd (omega arith)) ∙ l.invariant.2 k q) (order l.x k),
    )

pub returns : goal.returns
returns c = sends-all _ c.loop-x.invariant.1 (λ k h. c.loop-x.invariant.2 k (omega arith))
