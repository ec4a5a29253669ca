-- How the hunt begins, and how it goes on by one candidate. Assumes nothing.
use mathlib.Core.Path.{◌≡◌, refl, sym, ap, ap₂, ◌∙◌}
use mathlib.Core.List.{List}
use Prim.Native.Nat.{ℕ, suc, ◌+◌, ◌-◌, ◌*◌, ◌≤◌, ◌<◌}
use native.Mathlib.Omega.{arith}
use lib.ListN.{length}
use Rattle.bits.specs.Pick.{first}
use Rattle.bits.specs.Row.{Row}
use Rattle.bits.specs.Pack.{symbols}
use Rattle.answer.specs.Answer.{Answer, Answer.accepted, Answer.refused}
use Rattle.aes3_hunt.specs.Hunt.{fits, hunted, cost, total, bounded_hunt}
use Rattle.aes3_hunt.proofs.Meaning.{too_long_lem, long-enough}
use Rattle.aes3_hunt.proofs.Compared.{compared-found, compared-all, compared-none}

-- what the candidates say from p on, below an end
abbrev pub onwards : List ℕ → ℕ → ℕ → Answer ℕ
onwards line end p = first (fits (symbols line)) p (end - p) accepted (refused 17 0)

module _ (line : List ℕ) where
  pub hunt-begins : length line ≤ 8192 → onwards line (length line * 8 - 71) 1 ≡ hunted line
  hunt-begins h =
      let n : length line * 8 - 72 ≡ length line * 8 - 71 - 1 = omega arith in
      rw n at (sym (long-enough line h))

  -- ---- an answer with its count

  pub hunt-long : 8192 < length line → (refused 1 0, 0) ≡ bounded_hunt line
  hunt-long h =
      let e : hunted line ≡ refused 1 0 = too_long_lem line h in
      ap₂ (λ (a : Answer ℕ) (n : ℕ). (a, n)) (sym e) (sym (compared-none line e))

  pub hunt-found : (p n : ℕ) → accepted p ≡ hunted line → n ≡ total (symbols line) p → (accepted p, n) ≡ bounded_hunt line
  hunt-found p n e f = ap₂ (λ (a : Answer ℕ) (n : ℕ). (a, n)) e (f ∙ sym (compared-found line p (sym e)))

  pub hunt-ends : (n : ℕ) → refused 17 0 ≡ hunted line → n ≡ total (symbols line) (length line * 8 - 72) → (refused 17 0, n) ≡ bounded_hunt line
  hunt-ends n e f = ap₂ (λ (a : Answer ℕ) (n : ℕ). (a, n)) e (f ∙ sym (compared-all line (sym e)))

-- ---- the candidates before p, together

pub total-none : (r : Row) → total r 0 ≡ 0
unfolding total
total-none r = refl

pub total-next : (r : Row) (p n : ℕ) → 1 ≤ p → n ≡ cost r p → total r (p - 1) + n ≡ total r p
unfolding total
total-next r p n h e =
    let m : p ≡ suc (p - 1) = omega arith in
    ap (λ (i : ℕ). total r (p - 1) + i) (e ∙ ap (cost r) m) ∙ ap (total r) (sym m)
