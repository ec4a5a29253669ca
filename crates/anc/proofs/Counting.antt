-- A sender that counts: it never sends 0, and after 255 steps, and no fewer, it is where it was. Assumes nothing.
use mathlib.Core.Path.{◌≡◌, ap, ◌∙◌}
use mathlib.Core.Logic.{⊎_elim}
use mathlib.Core.Bool.{false}
use Prim.Native.Nat.{ℕ, zero, suc, ◌+◌, ◌-◌, ◌%◌, ◌≤◌, ◌<◌}
use native.Mathlib.Omega.{arith}
use borrow.Author.Tests.{le-leb, eq-eqb, ne_eqb}
use lib.Dec.{eqb}
use Rattle.bits.proofs.Tests.{order}
use Rattle.answer.specs.Answer.{Answer.accepted}
use Rattle.answer.specs.Demand.{◌&◌}
use Rattle.answer.proofs.Chains.{passing}
use Rattle.anc.specs.Dbn.{after_dbn, next_dbn, stepped}

-- 1 to 255 by their distance from 1, round and round
abbrev place : ℕ → ℕ → ℕ
place n k = (n - 1 + k) % 255 + 1

next-accepted : (n : ℕ) → n ≤ 255 → next_dbn n ≡ accepted (after_dbn n)
unfolding next_dbn
next-accepted n h = passing _ _ (le-leb n 255 h & tt)

next_place : (n k : ℕ) → after_dbn (place n k) ≡ place n (suc k)
next_place n k =
    let m = (n - 1 + k) % 255 in
    let some : eqb (m + 1) 0 ≡ false = ne_eqb (m + 1) 0 (λ e. omega arith) in
    ⊎_elim (λ (h : m ≤ 253). rw (some, ne_eqb (m + 1) 255 (λ e. omega arith)) (omega arith))
    (λ (h : 253 < m). rw (some, eq-eqb (m + 1) 255 (omega arith)) (omega arith)) (order m 253)

module _ (n : ℕ) (low : 1 ≤ n) (high : n ≤ 255) where
  stepped-place : (k : ℕ) → stepped k n ≡ accepted (place n k)
  unfolding stepped
  stepped-place zero = ap accepted (omega arith)
  stepped-place (suc k) = rw (stepped-place k) (next-accepted (place n k) (omega arith) ∙ ap accepted (next_place n k))

  -- whatever it sends is 1 to 255
  pub never-sends-0 : (k m : ℕ) → stepped k n ≡ accepted m → (1 ≤ m) × (m ≤ 255)
  never-sends-0 k m e =
      let p : place n k ≡ m = cc (stepped-place k) in
      (omega arith, omega arith)

  -- it always goes on
  pub goes_on : (k : ℕ) → (m : ℕ) × (stepped k n ≡ accepted m)
  goes_on k = (place n k, stepped-place k)

  pub round-in-255 : stepped 255 n ≡ accepted n
  round-in-255 = stepped-place 255 ∙ ap accepted (omega arith)

  pub no-sooner : (k : ℕ) → 0 < k → k < 255 → stepped k n ≡ accepted n → ⊥
  no-sooner k some few e =
      let p : place n k ≡ n = cc (stepped-place k) in
      omega arith
