-- What the hunt's answer means: `answer-right` and `right_answer` together say that it is the one right answer. Assumes
-- nothing.
use mathlib.Core.Path.{◌≡◌, refl, sym, ap, ap₂}
use mathlib.Core.Logic.{⊎_elim}
use mathlib.Core.Bool.{Bool, true, false, ◌&&◌}
use mathlib.Core.List.{List}
use Prim.Native.Nat.{ℕ, ◌+◌, ◌-◌, ◌*◌, ◌≤◌, ◌<◌}
use native.Mathlib.Omega.{arith}
use borrow.Author.Tests.{le-leb, lt-leb}
use lib.ListN.{length, get_or}
use Rattle.bits.specs.Pick.{first}
use Rattle.bits.specs.Pack.{symbols}
use Rattle.bits.proofs.Tests.{both_true, no-yes, order}
use Rattle.line.specs.Preamble.{preamble_y, preamble_z, after_level}
use Rattle.answer.specs.Answer.{Answer, Answer.accepted, Answer.refused}
use Rattle.answer.specs.Demand.{◌&◌}
use Rattle.answer.specs.Demand.Stops.{fails}
use Rattle.answer.proofs.Chains.{not-both, search-cases, passing, stopped}
use Rattle.aes3_hunt.specs.Hunt.{opens, fits, hunt_demands, hunted, Start, Right}
use Rattle.aes3_hunt.specs.Hunt.Right.{smallest, none, too_long}
use Rattle.aes3_hunt.proofs.SameLaws.{same-means, same_self}

before-y : (p : ℕ) → p + 64 - 1 ≡ p + 63
before-y p = omega arith

fits-start : (line : List ℕ) (p : ℕ) → 1 ≤ p → p + 72 ≤ length line * 8 → fits (symbols line) p ≡ true → Start line p
unfolding fits opens
fits-start line p l m e =
    let h = both_true (opens (symbols line) p preamble_z) (opens (symbols line) (p + 64) preamble_y) e in
    record {
      from = l;
      to = m;
      z = same-means _ _ h.0;
      y = rw (before-y p) at (same-means _ _ h.1);
    }

start_fits : (line : List ℕ) (p : ℕ) → Start line p → fits (symbols line) p ≡ true
unfolding fits opens
start_fits line p s =
    rw (before-y p, s.z, s.y)
    (ap₂ (λ (a b : Bool). a && b) (same_self (after_level (get_or (symbols line) (p - 1) false) preamble_z))
    (same_self (after_level (get_or (symbols line) (p + 63) false) preamble_y)))

-- a start stands after the candidates that were passed
not-passed : (line : List ℕ) (n : ℕ) → ((p : ℕ) → 1 ≤ p → p < n → fits (symbols line) p ≡ false) → (q : ℕ) → Start line q → n ≤ q
not-passed line n before q s =
    ⊎_elim (λ (h : n ≤ q). h) (λ (h : q < n). no-yes (fits (symbols line) q) (before q s.from h) (start_fits line q s)) (order n q)

-- the answer: refused by its length, or the first candidate that fits
pub too_long_lem : (line : List ℕ) → 8192 < length line → hunted line ≡ refused 1 0
unfolding hunted
too_long_lem line h = stopped _ (fails (lt-leb (length line) 8192 h))

pub long-enough : (line : List ℕ) → length line ≤ 8192
    → hunted line ≡ first (fits (symbols line)) 1 (length line * 8 - 72) (λ p. accepted p) (refused 17 0)
unfolding hunted
long-enough line h = passing _ (hunt_demands line) (le-leb (length line) 8192 h & tt)

pub answer-right : (line : List ℕ) → Right line (hunted line)
answer-right line = ⊎_elim searched (λ h. rw (too_long_lem line h) (too_long h)) (order (length line) 8192)
  where
    searched : length line ≤ 8192 → Right line (hunted line)
    searched h =
        let n = length line * 8 - 72 in
        rw (long-enough line h)
        (search-cases (fits (symbols line)) (λ p. accepted p) (refused 17 0) 1 n (Right line)
        (λ p l m f before. smallest h (fits-start line p l (omega arith) f) (not-passed line p before))
        (λ before. none h (λ q s. absurd (omega (arith, not-passed line (1 + n) before q s, s.to)))))

one_right : (line : List ℕ) {a b : Answer ℕ} → Right line a → Right line b → a ≡ b
one_right line (smallest {p} l s least) (smallest {p = q} l' s' least') =
    let e : p ≡ q = omega (arith, least q s', least' p s) in
    ap accepted e
one_right line (smallest {p} l s least) (none l' never) = absurd (never p s)
one_right line (smallest l s least) (too_long g) = absurd (omega arith)
one_right line (none l never) (smallest {p} l' s least) = absurd (never p s)
one_right line (none l never) (none l' never') = refl
one_right line (none l never) (too_long g) = absurd (omega arith)
one_right line (too_long g) (smallest l s least) = absurd (omega arith)
one_right line (too_long g) (none l never) = absurd (omega arith)
one_right line (too_long g) (too_long g') = refl

pub right_answer : (line : List ℕ) {a : Answer ℕ} → Right line a → hunted line ≡ a
right_answer line r = one_right line (answer-right line) r

-- ---- the same, promise by promise

pub found-fits : (line : List ℕ) (p : ℕ) → hunted line ≡ accepted p → Start line p
found-fits line p e = go (rw e at (answer-right line))
  where
    go : Right line (accepted p) → Start line p
    go (smallest l s least) = s

pub found-least : (line : List ℕ) (p : ℕ) → hunted line ≡ accepted p → (q : ℕ) → Start line q → p ≤ q
found-least line p e = go (rw e at (answer-right line))
  where
    go : Right line (accepted p) → (q : ℕ) → Start line q → p ≤ q
    go (smallest l s least) = least

pub none_found : (line : List ℕ) → length line ≤ 8192 → ((q : ℕ) → Start line q → ⊥) → hunted line ≡ refused 17 0
none_found line l never = right_answer line (none l never)

pub none-fits : (line : List ℕ) → hunted line ≡ refused 17 0 → (q : ℕ) → Start line q → ⊥
none-fits line e = go (refused 17 0) refl (rw e at (answer-right line))
  where
    go : (a : Answer ℕ) → a ≡ refused 17 0 → Right line a → (q : ℕ) → Start line q → ⊥
    go a f (none l never) = never
    go a f (smallest {p} l s least) = not-both (sym f)
    go a f (too_long g) = absurd (let z : ◌≡◌ {A = ℕ} 1 17 = cc in omega arith)
