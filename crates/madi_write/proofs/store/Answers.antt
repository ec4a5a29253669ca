-- `madi_write::store` meets its contract: one octet more is new with each turn. Assumes nothing.
use mathlib.Core.Path.{◌≡◌, sym, ap, ap₂, ◌∙◌}
use mathlib.Core.List.{List}
use Prim.Native.Nat.{ℕ, ◌+◌}
use native.Mathlib.Nat.{add-zero}
use native.Mathlib.Omega.{arith}
use lib.ListN.{set}
use Rattle.bits.proofs.Filling.{over, over-next}
use Rattle.madi_write.proofs.store.Goals as goal

pub loop-i-init : goal.loop-i-init
loop-i-init c = λ new old a b same e. e ∙ ap (λ (k : ℕ). over k new old) (sym (add-zero c.args.j))

pub loop-i-preserved : goal.loop-i-preserved
loop-i-preserved c =
    let a = c.args in
    let i = c.loop-i.i in
    λ new old hn ho same e.
    let k : a.j + i + 1 ≡ a.j + (i + 1) = omega arith in
    ap₂ (λ (l : List ℕ) (x : ℕ). set l (a.j + i) x) (c.loop-i.invariant new old hn ho same e) (sym (same i (omega arith)))
    ∙ over-next (a.j + i) new old 0 (omega arith) (omega arith) ∙ ap (λ (m : ℕ). over m new old) k

pub returns : goal.returns
returns c =
    let a = c.args in
    let e : a.j + c.loop-i.i ≡ a.j + a.n = omega arith in
    λ new old hn ho same q. c.loop-i.invariant new old hn ho same q ∙ ap (λ (m : ℕ). over m new old) e
