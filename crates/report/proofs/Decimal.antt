-- Numbers in decimal: the digits of a number below 10 ^ 20 stand for it. Assumes nothing.
use mathlib.Core.Path.{◌≡◌, refl, ◌∙◌}
use mathlib.Core.Bool.{Bool, true, false}
use mathlib.Core.List.{List, [], ◌∷◌, ◌++◌}
use Prim.Native.Nat.{ℕ, zero, suc, ◌+◌, ◌-◌, ◌*◌, ◌/◌, ◌%◌, ◌^◌, ◌<◌}
use native.Mathlib.Nat.{pow-suc}
use native.Mathlib.Omega.{arith}
use borrow.Author.Tests.{eqb-true}
use lib.Dec.{eqb}
use Rattle.bits.specs.Pick.{pick}
use Rattle.report.specs.Text.{digits, decimal}

-- what digits stand for, behind a number that was read
unfoldable pub stands_for : ℕ → List ℕ → ℕ
stands_for v [] = v
stands_for v (d ∷ ds) = stands_for (v * 10 + (d - 48)) ds

read-last : (v : ℕ) (ds : List ℕ) (d : ℕ) → stands_for v (ds ++ (d ∷ [])) ≡ stands_for v ds * 10 + (d - 48)
unfolding stands_for
read-last v [] d = refl
read-last v (e ∷ ds) d = read-last (v * 10 + (e - 48)) ds d

with-last : (n : ℕ) (ds : List ℕ) (t : Bool) → eqb (n / 10) 0 ≡ t → stands_for 0 ds ≡ n / 10
    → stands_for 0 (pick t [] ds) * 10 + (48 + n % 10 - 48) ≡ n
unfolding stands_for
with-last n ds true e all = omega (arith, eqb-true (n / 10) 0 e)
with-last n ds false e all = omega (arith, all)

read-digits : (most n : ℕ) → n < 10 ^ most → stands_for 0 (digits most n) ≡ n
unfolding digits stands_for
read-digits zero n h = omega arith
read-digits (suc most) n h =
    read-last 0 (pick (eqb (n / 10) 0) [] (digits most (n / 10))) (48 + n % 10)
    ∙ with-last n (digits most (n / 10)) (eqb (n / 10) 0) refl (read-digits most (n / 10) (omega (arith, pow-suc 10 most)))

-- a number is what its digits stand for
pub decimal-means : (n : ℕ) → n < 10 ^ 20 → stands_for 0 (decimal n) ≡ n
unfolding decimal
decimal-means n h = read-digits 20 n h
