-- Any two outcomes that a public contract permits are equal. An outcome is a result and what the lent buffers hold at
-- exit; the contract gives both as definitions of the inputs (`tests/contracts` sees to it), the result by what it says,
-- where each answer is said in one way only, or by itself. Assumes nothing.
use mathlib.Core.Path.{◌≡◌, sym, ◌∙◌}

module _ {R S B : Type 0} (said : R → S) (once : (r s : R) → said r ≡ said s → r ≡ s) (meant : S) (left : B) where
  -- what a contract asks of a result and of a buffer
  abbrev pub Permitted : R → B → Type 0
  Permitted r b = (said r ≡ meant) × (b ≡ left)

  pub one-outcome : (r s : R) (b c : B) → Permitted r b → Permitted s c → (r ≡ s) × (b ≡ c)
  one-outcome r s b c p q = (once r s (p.0 ∙ sym q.0), p.1 ∙ sym q.1)

-- where the result itself is given
pub one-result : {R B : Type 0} (meant : R) (left : B) (r s : R) (b c : B) → Permitted (λ x. x) (λ x y e. e) meant left r b
    → Permitted (λ x. x) (λ x y e. e) meant left s c → (r ≡ s) × (b ≡ c)
one-result meant left = one-outcome (λ x. x) (λ x y e. e) meant left
