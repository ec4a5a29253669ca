-- A tenant's result says an answer in one way only, so a contract that gives what is said gives the result. Assumes
-- nothing.
use mathlib.Core.Path.{◌≡◌}
use Prim.Native.Nat.{ℕ}
use Rattle.std.specs.Prelude.{Result}
use Rattle.answer.specs.Said.{said}
use Rattle.answer.specs.declared.Refusal.{Refusal}
use Rattle.answer.proofs.Said.{said-once}

pub lease-said-once : (a b : Result ℕ Refusal) → said a ≡ said b → a ≡ b
lease-said-once a b e = said-once a b e
