-- What a replay answers says its answer in one way only. Assumes nothing.
use mathlib.Core.Path.{◌≡◌, refl, ap, ap₂}
use mathlib.Core.List.{List}
use Prim.Native.Nat.{ℕ}
use native.Mathlib.Omega.{arith}
use Rattle.std.specs.Prelude.{Result}
use Rattle.answer.specs.Answer.{Answer}
use Rattle.answer.specs.declared.Refusal.{Refusal}
use Rattle.answer.proofs.Said.{said-once-by}
use Rattle.replay.specs.Replay.{stop_code, replay_said}
use Rattle.replay.specs.declared.Replayed.{Replayed}
use Rattle.replay.specs.declared.Stop.{Stop}
use Rattle.replay.specs.declared.Stop.TheVariants.{End, Long, Cut}

stop-once : (s t : Stop) → stop_code s ≡ stop_code t → s ≡ t
stop-once End End e = refl
stop-once End Long e = absurd (let z : ◌≡◌ {A = ℕ} 0 1 = e in omega arith)
stop-once End Cut e = absurd (let z : ◌≡◌ {A = ℕ} 0 2 = e in omega arith)
stop-once Long End e = absurd (let z : ◌≡◌ {A = ℕ} 1 0 = e in omega arith)
stop-once Long Long e = refl
stop-once Long Cut e = absurd (let z : ◌≡◌ {A = ℕ} 1 2 = e in omega arith)
stop-once Cut End e = absurd (let z : ◌≡◌ {A = ℕ} 2 0 = e in omega arith)
stop-once Cut Long e = absurd (let z : ◌≡◌ {A = ℕ} 2 1 = e in omega arith)
stop-once Cut Cut e = refl

pub replay-said-once : (a b : Replayed) → replay_said a ≡ replay_said b → a ≡ b
replay-said-once a b e =
    let stop : a.stop ≡ b.stop = said-once-by stop_code stop-once a.stop b.stop (ap (λ (s : Answer ℕ × ℕ × List ℕ). s.0) e) in
    ap₂ (λ (x : Result Stop Refusal) (t : ℕ × List ℕ). record { stop = x; taken = t.0; figures = t.1 }) stop
    (ap (λ (s : Answer ℕ × ℕ × List ℕ). (s.1, s.2)) e)
