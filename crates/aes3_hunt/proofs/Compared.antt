-- The number of symbols compared: what it is for each answer, that it is bounded, and that the hunt says it in one way
-- only. Assumes nothing.
use mathlib.Core.Path.{◌≡◌, ap, ap₂}
use mathlib.Core.List.{List}
use Prim.Native.Nat.{ℕ, zero, suc, ◌-◌, ◌*◌, ◌≤◌}
use native.Mathlib.Omega.{arith}
use lib.ListN.{length}
use Rattle.bits.specs.Row.{Row}
use Rattle.bits.specs.Pack.{symbols}
use Rattle.answer.specs.Answer.{Answer, Answer.accepted, Answer.refused}
use Rattle.std.specs.Prelude.{Result}
use Rattle.answer.specs.declared.Refusal.{Refusal}
use Rattle.answer.proofs.Said.{said-once}
use Rattle.aes3_hunt.specs.Hunt.{hunted, total, reached, compared, Right}
use Rattle.aes3_hunt.specs.Hunt.Right.{smallest, none, too_long}
use Rattle.aes3_hunt.specs.Said.{hunt_said}
use Rattle.aes3_hunt.specs.declared.HuntAnswer.{HuntAnswer}
use Rattle.aes3_hunt.proofs.Cost.{cost-most}
use Rattle.aes3_hunt.proofs.Meaning.{answer-right}
use Rattle.aes3_hunt.proofs.Reached.{reached-found, reached-all, reached-none}

-- ---- what it is for each answer

module _ (line : List ℕ) where
  -- over the candidates from 1 to the answer
  pub compared-found : (p : ℕ) → hunted line ≡ accepted p → compared line ≡ total (symbols line) p
  unfolding compared
  compared-found p e = rw e (reached-found (symbols line) (length line * 8 - 72) p)

  -- over all
  pub compared-all : hunted line ≡ refused 17 0 → compared line ≡ total (symbols line) (length line * 8 - 72)
  unfolding compared
  compared-all e = rw e (reached-all (symbols line) (length line * 8 - 72))

  -- refusal 1 carries 0
  pub compared-none : hunted line ≡ refused 1 0 → compared line ≡ 0
  unfolding compared
  compared-none e = rw e (reached-none (symbols line) (length line * 8 - 72))

  -- ---- at most 16 times the number of candidates

  pub reached-most : reached (length line * 8 - 72) (hunted line) ≤ length line * 8 - 72
  reached-most = go (answer-right line)
    where
      go : {a : Answer ℕ} → Right line a → reached (length line * 8 - 72) a ≤ length line * 8 - 72
      go (smallest l s least) = omega (arith, s.to)
      go (none l never) = omega arith
      go (too_long g) = omega arith

pub total-most : (r : Row) (n : ℕ) → total r n ≤ 16 * n
unfolding total
total-most r zero = omega arith
total-most r (suc n) = omega (arith, total-most r n, cost-most r (suc n))

pub compared-most : (line : List ℕ) → compared line ≤ 16 * (length line * 8 - 72)
unfolding compared
compared-most line =
    omega (arith, total-most (symbols line) (reached (length line * 8 - 72) (hunted line)), reached-most line)

-- and so none in 72 symbols or fewer, which have no candidate
pub compared-short : (line : List ℕ) → length line * 8 ≤ 72 → compared line ≡ 0
compared-short line h = omega (arith, compared-most line)

-- ---- said in one way only

pub hunt-said-once : (a b : HuntAnswer) → hunt_said a ≡ hunt_said b → a ≡ b
hunt-said-once a b e =
    let start : a.start ≡ b.start = said-once a.start b.start (ap (λ (s : Answer ℕ × ℕ). s.0) e) in
    let count : a.compared ≡ b.compared = ap (λ (s : Answer ℕ × ℕ). s.1) e in
    ap₂ (λ (x : Result ℕ Refusal) (n : ℕ). record { start = x; compared = n }) start count
