-- The reader's result says an answer in one way only, so a contract that gives what is said gives the result. Assumes
-- nothing.
use mathlib.Core.Path.{◌≡◌, ap, ap₂, refl}
use mathlib.Core.Bool.{Bool, true, false}
use Prim.Native.Nat.{ℕ}
use Rattle.std.specs.Prelude.{Result}
use Rattle.bits.specs.Row.{digit}
use Rattle.answer.specs.declared.Refusal.{Refusal}
use Rattle.answer.proofs.Said.{said-once-by}
use Rattle.aes3_read.specs.Reader.{block_said}
use Rattle.aes3_read.specs.declared.Crccs.{Crccs}

digit-once : (a b : Bool) → digit a ≡ digit b → a ≡ b
digit-once false false e = refl
digit-once false true e = cc
digit-once true false e = cc
digit-once true true e = refl

pub block-said-once : (a b : Result Crccs Refusal) → block_said a ≡ block_said b → a ≡ b
block-said-once =
    said-once-by (λ (c : Crccs). (digit c.a, digit c.b))
    (λ v w e.
    let a : digit v.a ≡ digit w.a = ap (λ (t : ℕ × ℕ). t.0) e in
    let b : digit v.b ≡ digit w.b = ap (λ (t : ℕ × ℕ). t.1) e in
    let P : Bool → Bool → Crccs = λ x y. record { a = x; b = y } in
    ap₂ P (digit-once v.a w.a a) (digit-once v.b w.b b))
