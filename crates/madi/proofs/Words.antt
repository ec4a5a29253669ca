-- The words that an accepted frame was sent with are those that the writer sends for the words that the reader gave.
-- Assumes nothing.
use mathlib.Core.Path.{◌≡◌, refl, sym, ap, ap₂, subst, ◌∙◌}
use mathlib.Core.Bool.{Bool, true, false}
use mathlib.Core.List.{List, [], ◌∷◌, ◌++◌, map}
use Prim.Native.Nat.{ℕ, zero, suc, ◌+◌, ◌-◌, ◌/◌, ◌%◌, ◌<◌}
use native.Mathlib.Nat.{sub-zero, div-one}
use native.Mathlib.Omega.{arith}
use borrow.Author.Tests.{eqb-true, ne_eqb}
use lib.Dec.{eqb}
use lib.ListN.{length, get_or, take, replicate}
use Rattle.bits.specs.Pick.{pick}
use Rattle.bits.specs.Row.{odd, bit, digit, count}
use Rattle.bits.specs.Cross.{across}
use Rattle.bits.proofs.Digits.{digit-odd}
use Rattle.subframe.specs.Body.{even_body}
use Rattle.madi_read.specs.Reader.{cleared}
use Rattle.madi_write.specs.Writer.{marked}
use Rattle.madi_write.proofs.Frames.{marked-words}
use Rattle.madi.specs.Units.{Placed}
use Rattle.madi.proofs.Sending.{even-same}

digit-of : (w : ℕ) → digit (odd (w / 2)) ≡ bit 1 w
digit-of w = digit-odd (w / 2)

two : (v : ℕ) → v % 2 ≡ 0 → v / 2 % 2 ≡ 1 → v ≡ v - v % 4 + 2
two v a b = let r : v % 4 ≡ 2 = omega arith in omega arith

three : (v : ℕ) → v % 2 ≡ 1 → v / 2 % 2 ≡ 1 → v ≡ v - v % 4 + 3
three v a b = let r : v % 4 ≡ 3 = omega arith in omega arith

-- after an inactive channel all are inactive
abbrev Idle : List ℕ → Type 0
Idle vs = (vs ≡ replicate (length vs) 0) × (count (across 1 vs) ≡ 0)

idle : (n active : ℕ) (vs : List ℕ) → active < n → Placed n active vs → Idle vs
unfolding Placed across count
idle n active [] h q = (refl, refl)
idle n active (v ∷ vs) h q = by (eqb (bit 1 v) 1) refl q.1 (λ l. idle (n + 1) (active + bit 1 v) vs l q.4)
  where
    by : (t : Bool) → eqb (bit 1 v) 1 ≡ t → pick t (eqb n active) (eqb v 0) ≡ true → (active + bit 1 v < n + 1 → Idle vs)
        → (v ∷ vs ≡ replicate (suc (length vs)) 0) × (digit (odd (v / 2)) + count (across 1 vs) ≡ 0)
    by true t e on = absurd (omega (arith, eqb-true n active e))
    by false t e on =
        let z : v ≡ 0 = eqb-true v 0 e in
        let rest = on (omega arith) in
        (ap₂ (λ (x : ℕ) (xs : List ℕ). x ∷ xs) z rest.0, omega (arith, digit-of v, rest.1))

-- c active channels after the first, then inactive ones
abbrev Active : List ℕ → ℕ → Type 0
Active vs c = vs ≡ map (λ v. v + 2) (take c (map cleared vs)) ++ replicate (length vs - c) 0

run : (n : ℕ) (vs : List ℕ) → 0 < n → Placed n n vs → Active vs (count (across 1 vs))
unfolding Placed across count
run n [] h q = refl
run n (v ∷ vs) h q = by (eqb (bit 1 v) 1) refl q.1 (λ k. run (n + 1) vs (omega arith) k)
  where
    c : ℕ
    c = count (across 1 vs)

    by : (t : Bool) → eqb (bit 1 v) 1 ≡ t → pick t (eqb n n) (eqb v 0) ≡ true → (Placed (n + 1) (n + 1) vs → Active vs c)
        → Active (v ∷ vs) (digit (odd (v / 2)) + c)
    by true t e on =
        let b : bit 1 v ≡ 1 = eqb-true (bit 1 v) 1 t in
        let low : bit 0 v ≡ 0 = eqb-true (bit 0 v) (pick (eqb n 0) 1 0) q.0 ∙ rw (ne_eqb n 0 (λ z. omega arith)) in
        let here : v ≡ cleared v + 2 = two v (ap (λ (x : ℕ). x % 2) (sym (div-one v)) ∙ low) b in
        let rest = on (subst (λ (k : ℕ). Placed (n + 1) (n + k) vs) b q.4) in
        let m : suc (length vs) - suc c ≡ length vs - c = omega arith in
        let d : digit (odd (v / 2)) + c ≡ suc c = omega (arith, digit-of v) in
        subst (λ (k : ℕ). Active (v ∷ vs) k) (sym d)
        (ap₂ (λ (x : ℕ) (xs : List ℕ). x ∷ xs) here
        (rest ∙ ap (λ (k : ℕ). map (λ v. v + 2) (take c (map cleared vs)) ++ replicate k 0) (sym m)))
    by false t e on =
        let z : v ≡ 0 = eqb-true v 0 e in
        let rest = idle (n + 1) (n + bit 1 v) vs (omega arith) q.4 in
        let d : digit (odd (v / 2)) + c ≡ 0 = omega (arith, digit-of v, rest.1) in
        subst (λ (k : ℕ). Active (v ∷ vs) k) (sym d)
        (ap₂ (λ (x : ℕ) (xs : List ℕ). x ∷ xs) z rest.0 ∙ ap (λ (k : ℕ). replicate k 0) (sym (sub-zero (suc (length vs)))))

-- the words that were sent are those that the writer sends for the words with bits 0 and 1 cleared
pub sent-again : (vs : List ℕ) → 0 < length vs → Placed 0 0 vs
    → (0 < count (across 1 vs)) × (vs ≡ marked (take (count (across 1 vs)) (map cleared vs)) ++ replicate (length vs - count (across 1 vs)) 0)
unfolding Placed across count
sent-again [] h q = absurd (omega arith)
sent-again (v ∷ vs) h q = by (eqb (bit 1 v) 1) refl q.1
  where
    c : ℕ
    c = count (across 1 vs)

    low : bit 0 v ≡ 1
    low = eqb-true (bit 0 v) 1 q.0

    by : (t : Bool) → eqb (bit 1 v) 1 ≡ t → pick t (eqb 0 0) (eqb v 0) ≡ true
        → (0 < digit (odd (v / 2)) + c)
        × (v ∷ vs ≡ marked (take (digit (odd (v / 2)) + c) (map cleared (v ∷ vs))) ++ replicate (suc (length vs) - (digit (odd (v / 2)) + c)) 0)
    by true t e =
        let b : bit 1 v ≡ 1 = eqb-true (bit 1 v) 1 t in
        let here : v ≡ cleared v + 3 = three v (ap (λ (x : ℕ). x % 2) (sym (div-one v)) ∙ low) b in
        let rest = run 1 vs (omega arith) (subst (λ (k : ℕ). Placed 1 (0 + k) vs) b q.4) in
        let m : suc (length vs) - suc c ≡ length vs - c = omega arith in
        let d : digit (odd (v / 2)) + c ≡ suc c = omega (arith, digit-of v) in (
          omega (arith, digit-of v),
          subst (λ (k : ℕ). v ∷ vs ≡ marked (take k (map cleared (v ∷ vs))) ++ replicate (suc (length vs) - k) 0) (sym d)
              (ap₂ (λ (x : ℕ) (xs : List ℕ). x ∷ xs) here
              (rest ∙ ap (λ (k : ℕ). map (λ v. v + 2) (take c (map cleared vs)) ++ replicate k 0) (sym m))
              ∙ ap (λ (xs : List ℕ). xs ++ replicate (suc (length vs) - suc c) 0) (sym (marked-words (cleared v) (take c (map cleared vs))))),
        )
    by false t e = absurd (omega (arith, eqb-true v 0 e, low, div-one v))

-- ---- what the writer asks of the words

pub even-again : (n active : ℕ) (vs : List ℕ) → Placed n active vs → (i : ℕ) → i < length vs → even_body (get_or (map cleared vs) i 0) ≡ true
unfolding Placed
even-again n active [] q i h = absurd (omega arith)
even-again n active (v ∷ vs) q zero h = even-same (cleared v) v (omega arith) ∙ q.2
even-again n active (v ∷ vs) q (suc i) h = even-again (n + 1) (active + bit 1 v) vs q.4 i (omega arith)

pub clear-again : (vs : List ℕ) (i : ℕ) → get_or (map cleared vs) i 0 % 4 ≡ 0
clear-again [] i = refl
clear-again (v ∷ vs) zero = omega arith
clear-again (v ∷ vs) (suc i) = clear-again vs i
