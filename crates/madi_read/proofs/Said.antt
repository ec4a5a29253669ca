-- The reader's result says an answer in one way only, so a contract that gives what is said gives the result. Assumes
-- nothing.
use mathlib.Core.Path.{◌≡◌, refl, sym, ap}
use Prim.Native.Nat.{ℕ}
use Rattle.std.specs.Prelude.{Result}
use Rattle.answer.specs.Answer.{Answer, Answer.accepted, Answer.refused, mapped}
use Rattle.answer.specs.declared.Refusal.{Refusal}
use Rattle.answer.proofs.Chains.{not-both}
use Rattle.answer.proofs.Said.{said-once-by}
use Rattle.madi_read.specs.Reader.{Frame, counts_of, frame_said}
use Rattle.madi_read.specs.declared.Counts.{Counts}

counts : ℕ → ℕ → Counts
counts active commands = record { active = active; commands = commands }

counts-once : (a b : Counts) → ◌≡◌ {A = ℕ × ℕ} (a.active, a.commands) (b.active, b.commands) → a ≡ b
unfolding counts
counts-once a b e = ap (λ (p : ℕ × ℕ). counts p.0 p.1) e

pub frame-said-once : (a b : Result Counts Refusal) → frame_said a ≡ frame_said b → a ≡ b
frame-said-once = said-once-by (λ c. (c.active, c.commands)) counts-once

-- what is said with counts is said of a frame that was read
pub frame-read : (r : Answer Frame) (active s : ℕ) → accepted (active, s) ≡ mapped counts_of r → (f : Frame) × (r ≡ accepted f)
frame-read (accepted f) active s e = (f, refl)
frame-read (refused number place) active s e = not-both (sym e)

pub frame_refused : (r : Answer Frame) (number place : ℕ) → refused number place ≡ mapped counts_of r → r ≡ refused number place
frame_refused (accepted f) number place e = not-both e
frame_refused (refused m p) number place e = cc
