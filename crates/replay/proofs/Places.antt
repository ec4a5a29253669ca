-- One figure of a sheet after changes: changes at other places leave it; and the same changes of two sheets that have
-- the figure in common leave it in common. Assumes nothing.
use mathlib.Core.Path.{◌≡◌, refl, sym, ap, ◌∙◌}
use mathlib.Core.Logic.{◌⊎◌, inl, inr, ◌≢◌}
use mathlib.Core.Bool.{true}
use mathlib.Core.List.{List, [], ◌∷◌, ◌++◌}
use Prim.Native.Nat.{ℕ, zero, suc, ◌-◌, ◌^◌, ◌≤◌, ◌<◌}
use native.Mathlib.Omega.{arith}
use borrow.Author.Tests.{eqb-true, eqb-false, leb-true}
use lib.Dec.{eqb, leb}
use lib.ListN.{length, get_or, set, length-set}
use lib.Seq.{lt-length-set, get_or-set_same, get_or-set_other}
use Rattle.bits.specs.Row.{Below}
use Rattle.bits.proofs.Tests.{both_true, order}
use Rattle.replay.specs.Sheet.{all_fit, written}
use Rattle.replay.proofs.Files.{test-cases}

-- no change is at place k
abbrev pub Beside : ℕ → List (ℕ × ℕ) → Type 0
Beside k [] = Unit {0}
Beside k (c ∷ cs) = (k ≢ c.0) × Beside k cs

pub beside_same : (k : ℕ) (cs : List (ℕ × ℕ)) (sheet : List ℕ) → Beside k cs → get_or (written cs sheet) k 0 ≡ get_or sheet k 0
unfolding written
beside_same k [] sheet b = refl
beside_same k (c ∷ cs) sheet b =
    beside_same k cs (set sheet c.0 c.1) b.1 ∙ get_or-set_other sheet c.0 k c.1 0 b.0

-- a change at place k, and none there after it
pub there : (k x : ℕ) (cs : List (ℕ × ℕ)) (sheet : List ℕ) → k < length sheet → Beside k cs → get_or (written ((k, x) ∷ cs) sheet) k 0 ≡ x
unfolding written
there k x cs sheet l b = beside_same k cs (set sheet k x) b ∙ get_or-set_same sheet k x 0 l

-- with changes before it
pub there-in : (front : List (ℕ × ℕ)) (k x : ℕ) (back : List (ℕ × ℕ)) (sheet : List ℕ) → k < length sheet → Beside k back
    → get_or (written (front ++ ((k, x) ∷ back)) sheet) k 0 ≡ x
unfolding written
there-in [] k x back sheet l b = there k x back sheet l b
there-in (c ∷ front) k x back sheet l b = there-in front k x back (set sheet c.0 c.1) (lt-length-set sheet c.0 c.1 l) b

-- a place beyond the end
set-none : (sheet : List ℕ) (k x : ℕ) → length sheet ≤ k → set sheet k x ≡ sheet
set-none [] k x h = refl
set-none (y ∷ ys) zero x h = absurd (omega arith)
set-none (y ∷ ys) (suc k) x h = ap (λ (s : List ℕ). y ∷ s) (set-none ys k x (omega arith))

set-alike : (a b : List ℕ) (i x k : ℕ) → length a ≡ length b → get_or a k 0 ≡ get_or b k 0 → get_or (set a i x) k 0 ≡ get_or (set b i x) k 0
set-alike a b i x k l e =
    test-cases (eqb k i)
    (λ t. let j = eqb-true k i t in
    ap (λ (m : ℕ). get_or (set a i x) m 0) j ∙ at-place (order (length a) i) (order (length b) i) (sym (ap (λ (m : ℕ). get_or a m 0) j) ∙ e ∙ ap (λ (m : ℕ). get_or b m 0) j)
    ∙ sym (ap (λ (m : ℕ). get_or (set b i x) m 0) j))
    (λ f. let d = eqb-false k i f in get_or-set_other a i k x 0 d ∙ e ∙ sym (get_or-set_other b i k x 0 d))
  where
    at-place : ((length a ≤ i) ⊎ (i < length a)) → ((length b ≤ i) ⊎ (i < length b)) → get_or a i 0 ≡ get_or b i 0 → get_or (set a i x) i 0 ≡ get_or (set b i x) i 0
    at-place (inl p) (inl q) h = ap (λ (s : List ℕ). get_or s i 0) (set-none a i x p) ∙ h ∙ sym (ap (λ (s : List ℕ). get_or s i 0) (set-none b i x q))
    at-place (inl p) (inr q) h = absurd (omega (arith, l))
    at-place (inr p) (inl q) h = absurd (omega (arith, l))
    at-place (inr p) (inr q) h = get_or-set_same a i x 0 p ∙ sym (get_or-set_same b i x 0 q)

pub alike : (cs : List (ℕ × ℕ)) (a b : List ℕ) (k : ℕ) → length a ≡ length b → get_or a k 0 ≡ get_or b k 0
    → get_or (written cs a) k 0 ≡ get_or (written cs b) k 0
unfolding written
alike [] a b k l e = e
alike (c ∷ cs) a b k l e =
    alike cs (set a c.0 c.1) (set b c.0 c.1) k (length-set a c.0 c.1 ∙ l ∙ sym (length-set b c.0 c.1))
    (set-alike a b c.0 c.1 k l e)

-- ---- figures of 32 bits stay so, where what is written fits

set_below : (sheet : List ℕ) (k x : ℕ) → x < 2 ^ 32 → Below (2 ^ 32) sheet → Below (2 ^ 32) (set sheet k x)
set_below [] k x h b i = b i
set_below (y ∷ ys) zero x h b zero = h
set_below (y ∷ ys) zero x h b (suc i) = b (suc i)
set_below (y ∷ ys) (suc k) x h b zero = b zero
set_below (y ∷ ys) (suc k) x h b (suc i) = set_below ys k x h (λ j. b (suc j)) i

pub written_below : (cs : List (ℕ × ℕ)) (sheet : List ℕ) → all_fit cs ≡ true → Below (2 ^ 32) sheet → Below (2 ^ 32) (written cs sheet)
unfolding written all_fit
written_below [] sheet f b = b
written_below (c ∷ cs) sheet f b =
    let p = both_true (leb c.1 (2 ^ 32 - 1)) (all_fit cs) f in
    let l : c.1 < 2 ^ 32 = omega (arith, leb-true c.1 (2 ^ 32 - 1) p.0) in
    written_below cs (set sheet c.0 c.1) p.1 (set_below sheet c.0 c.1 l b)
