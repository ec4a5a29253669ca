-- What a range's `contains` tests of a number. Assumes nothing.
use mathlib.Core.Path.{◌≡◌, sym, ap, ap₂, ◌∙◌}
use mathlib.Core.Logic.{⊎_elim}
use mathlib.Core.Bool.{Bool, ◌&&◌}
use Prim.Native.Nat.{ℕ, ◌≤◌, ◌<◌}
use native.Mathlib.Omega.{arith}
use borrow.Author.Tests.{le-leb, lt-leb}
use lib.Dec.{leb}
use Rattle.std.specs.Ordering.{is_le, nat_cmp}
use Rattle.std.specs.Cmp.{nat_cmp_is}
use Rattle.std.specs.declared.cmp.Ordering.TheVariants.{Less, Equal, Greater}
use Rattle.bits.proofs.Tests.{order}

by_order : (a b : ℕ) → is_le (nat_cmp a b) ≡ leb a b
by_order a b =
    ⊎_elim
    (λ (l : a ≤ b). ⊎_elim
    (λ (q : b ≤ a). ap is_le (sym (nat_cmp_is a b Equal (omega arith))) ∙ sym (le-leb a b l))
    (λ (q : a < b). ap is_le (sym (nat_cmp_is a b Less q)) ∙ sym (le-leb a b l)) (order b a))
    (λ (g : b < a). ap is_le (sym (nat_cmp_is a b Greater g)) ∙ sym (lt-leb a b g)) (order a b)

pub within : (low high n : ℕ) → (is_le (nat_cmp low n) && is_le (nat_cmp n high)) ≡ (leb low n && leb n high)
within low high n = ap₂ (λ (x y : Bool). x && y) (by_order low n) (by_order n high)
