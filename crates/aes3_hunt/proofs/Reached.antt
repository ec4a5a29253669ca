-- The symbols that an answer takes into account: with a start those of the candidates up to it, with 17 those of all,
-- with 1 none. Assumes nothing.
use mathlib.Core.Path.{◌≡◌, refl}
use Prim.Native.Nat.{ℕ}
use Rattle.bits.specs.Row.{Row}
use Rattle.answer.specs.Answer.{Answer.accepted, Answer.refused}
use Rattle.aes3_hunt.specs.Hunt.{total, reached}

module _ (r : Row) (all : ℕ) where
  pub reached-found : (p : ℕ) → total r (reached all (accepted p)) ≡ total r p
  reached-found p = refl

  pub reached-all : total r (reached all (refused 17 0)) ≡ total r all
  reached-all = refl

  pub reached-none : total r (reached all (refused 1 0)) ≡ 0
  unfolding total
  reached-none = refl
