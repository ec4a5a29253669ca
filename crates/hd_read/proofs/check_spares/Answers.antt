-- `hd_read::check_spares` meets its contract, test by test. Assumes nothing.
use mathlib.Core.Path.{◌≡◌, sym}
use mathlib.Core.Bool.{true, false}
use Prim.Native.Nat.{ℕ, ◌/◌, ◌%◌, ◌^◌}
use native.Mathlib.Omega.{arith}
use borrow.Author.Tests.{eq-eqb, ne_eqb}
use lib.Dec.{eqb}
use Rattle.answer.specs.Demand.{◌&◌}
use Rattle.answer.specs.Demand.Stops.{fails, later}
use Rattle.answer.proofs.Chains.{passing, stopped}
use Rattle.hd_read.specs.Inner.{spares_clear}
use Rattle.hd_read.proofs.check_spares.Goals as goal

-- the lowest three bits, and the lowest four
clear-3 : (x : ℕ) → x % 8 ≡ 0 → eqb (x / 2 ^ 0 % 2 ^ 3) 0 ≡ true
clear-3 x e = eq-eqb (x / 2 ^ 0 % 2 ^ 3) 0 (omega arith)

set-3 : (x : ℕ) → (x % 8 ≡ 0 → ⊥) → eqb (x / 2 ^ 0 % 2 ^ 3) 0 ≡ false
set-3 x n = ne_eqb (x / 2 ^ 0 % 2 ^ 3) 0 (λ e. n (omega arith))

clear-4 : (x : ℕ) → x % 16 ≡ 0 → eqb (x / 2 ^ 0 % 2 ^ 4) 0 ≡ true
clear-4 x e = eq-eqb (x / 2 ^ 0 % 2 ^ 4) 0 (omega arith)

set-4 : (x : ℕ) → (x % 16 ≡ 0 → ⊥) → eqb (x / 2 ^ 0 % 2 ^ 4) 0 ≡ false
set-4 x n = ne_eqb (x / 2 ^ 0 % 2 ^ 4) 0 (λ e. n (omega arith))

pub returns-then-octets-ne0 : goal.returns-then-octets-ne0
unfolding spares_clear
returns-then-octets-ne0 c = sym (stopped _ (fails (ne_eqb _ _ c.if-octets-ne0.true)))

pub returns-then-octets-ne0-2 : goal.returns-then-octets-ne0-2
unfolding spares_clear
returns-then-octets-ne0-2 c = sym (stopped _ (later (eq-eqb _ _ c.if-octets-ne0.false) (fails (set-3 _ c.if-octets-ne0-2.true))))

pub returns-then-octets-ne0-3 : goal.returns-then-octets-ne0-3
unfolding spares_clear
returns-then-octets-ne0-3 c = sym (stopped _ (later (eq-eqb _ _ c.if-octets-ne0.false) (later (clear-3 _ c.if-octets-ne0-2.false) (fails (set-4 _ c.if-octets-ne0-3.true)))))

pub returns-then-octets-ne0-4 : goal.returns-then-octets-ne0-4
unfolding spares_clear
returns-then-octets-ne0-4 c = sym (stopped _ (later (eq-eqb _ _ c.if-octets-ne0.false) (later (clear-3 _ c.if-octets-ne0-2.false) (later (clear-4 _ c.if-octets-ne0-3.false) (fails (set-3 _ c.if-octets-ne0-4.true))))))

pub returns-then-octets-ne0-5 : goal.returns-then-octets-ne0-5
unfolding spares_clear
returns-then-octets-ne0-5 c = sym (stopped _ (later (eq-eqb _ _ c.if-octets-ne0.false) (later (clear-3 _ c.if-octets-ne0-2.false) (later (clear-4 _ c.if-octets-ne0-3.false) (later (clear-3 _ c.if-octets-ne0-4.false) (fails (set-4 _ c.if-octets-ne0-5.true)))))))

pub returns : goal.returns
unfolding spares_clear
returns c = sym (passing _ _ (eq-eqb _ _ c.if-octets-ne0.false & clear-3 _ c.if-octets-ne0-2.false & clear-4 _ c.if-octets-ne0-3.false & clear-3 _ c.if-octets-ne0-4.false & clear-4 _ c.if-octets-ne0-5.false & tt))
