-- Inverting every symbol of a line changes neither the hunt's answer nor the number of symbols compared. Assumes
-- nothing.
use mathlib.Core.Path.{◌≡◌, refl, sym, ap, ap₂, ◌∙◌}
use mathlib.Core.Bool.{Bool, false, not, ◌&&◌}
use mathlib.Core.Logic.{⊎_elim}
use mathlib.Core.List.{List, [], ◌∷◌, ◌++◌, map}
use Prim.Native.Nat.{ℕ, zero, suc, ◌+◌, ◌-◌, ◌*◌, ◌≤◌, ◌<◌}
use native.Mathlib.Omega.{arith}
use lib.ListN.{length, get_or}
use Rattle.bits.specs.Pick.{first}
use Rattle.bits.specs.Row.{Row, Below}
use Rattle.bits.specs.Window.{part}
use Rattle.bits.specs.Pack.{symbols}
use Rattle.bits.proofs.Tests.{order}
use Rattle.bits.proofs.Firsts.{first-map}
use Rattle.bits.proofs.Inverting.{length-map, map-append, symbols-inverted}
use Rattle.bits.proofs.Packing.{highest, length-chain}
use Rattle.line.specs.Preamble.{preamble_y, preamble_z, after_level}
use Rattle.line.specs.Polarity.{inverted}
use Rattle.line.proofs.Inverted.{inverted-octets, length-inverted}
use Rattle.line.proofs.PreambleLaws.{after-not}
use Rattle.answer.specs.Answer.{Answer, Answer.accepted, Answer.refused}
use Rattle.answer.specs.Demand.{provided}
use Rattle.aes3_hunt.specs.Hunt.{opens, fits, hunt_demands, hunted, standing, required, differs, cost, total, reached, compared, bounded_hunt}
use Rattle.aes3_hunt.proofs.SameLaws.{same-inverted, xor-not}
use Rattle.aes3_hunt.proofs.Symbols.{length-standing, length-required}
use Rattle.aes3_hunt.proofs.Compared.{reached-most}

-- ---- a row with every bit inverted

not_at : (r : Row) (i : ℕ) → i < length r → get_or (map not r) i false ≡ not (get_or r i false)
not_at [] i h = absurd (omega arith)
not_at (b ∷ r) zero h = refl
not_at (b ∷ r) (suc i) h = not_at r i (omega arith)

not-part : (r : Row) (at n : ℕ) → at + n ≤ length r → part (map not r) at n ≡ map not (part r at n)
unfolding part
not-part r at zero h = refl
not-part r at (suc n) h = ap₂ (λ b s. b ∷ s) (not_at r at (omega arith)) (not-part r (suc at) n (omega arith))

not-opens : (r : Row) (p : ℕ) (preamble : Row) → p - 1 + 1 ≤ length r → p + 8 ≤ length r → opens (map not r) p preamble ≡ opens r p preamble
unfolding opens
not-opens r p preamble g h =
    rw (not-part r p 8 h, not_at r (p - 1) (omega arith), after-not (get_or r (p - 1) false) preamble)
    (same-inverted (part r p 8) (after_level (get_or r (p - 1) false) preamble))

not-fits : (r : Row) (p : ℕ) → p + 72 ≤ length r → fits (map not r) p ≡ fits r p
unfolding fits
not-fits r p h =
    ap₂ (λ (a b : Bool). a && b) (not-opens r p preamble_z (omega arith) (omega arith))
    (not-opens r (p + 64) preamble_y (omega arith) (omega arith))

-- ---- its symbols, compared

module _ (r : Row) (p : ℕ) (h : p + 72 ≤ length r) where
  not-standing : standing (map not r) p ≡ map not (standing r p)
  unfolding standing
  not-standing =
      ap₂ (λ (a b : Row). a ++ b) (not-part r p 8 (omega arith)) (not-part r (p + 64) 8 (omega arith))
      ∙ sym (map-append not (part r p 8) (part r (p + 64) 8))

  not-required : required (map not r) p ≡ map not (required r p)
  unfolding required
  not-required =
      let l = get_or r (p - 1) false in
      let m = get_or r (p + 63) false in
      ap₂ (λ (a b : Bool). after_level a preamble_z ++ after_level b preamble_y) (not_at r (p - 1) (omega arith)) (not_at r (p + 63) (omega arith))
      ∙ ap₂ (λ (a b : Row). a ++ b) (after-not l preamble_z) (after-not m preamble_y)
      ∙ sym (map-append not (after_level l preamble_z) (after_level m preamble_y))

  not-differs : (k : ℕ) → k < 16 → differs (map not r) p k ≡ differs r p k
  unfolding differs
  not-differs k l =
      rw (
        not-standing,
        not-required,
        not_at (standing r p) k (omega (arith, length-standing r p)),
        not_at (required r p) k (omega (arith, length-required r p)),
      )
      (xor-not (get_or (standing r p) k false) (get_or (required r p) k false))

  not-cost : cost (map not r) p ≡ cost r p
  unfolding cost
  not-cost =
      first-map (λ a. a) (differs r p) (differs (map not r) p) 0 16 (λ k. k + 1) (λ k. k + 1) 16 (λ k l. not-differs k (omega arith)) (λ k. refl)

not-total : (r : Row) (n : ℕ) → n + 72 ≤ length r → total (map not r) n ≡ total r n
unfolding total
not-total r zero h = refl
not-total r (suc n) h = ap₂ (λ (a b : ℕ). a + b) (not-total r n (omega arith)) (not-cost r (suc n) (omega arith))

-- ---- the hunt

-- the first candidate of a line that passes a test
abbrev answer : (ℕ → Bool) → List ℕ → Answer ℕ
answer test line = first test 1 (length line * 8 - 72) (λ p. accepted p) (refused 17 0)

pub inverted-same : (line : List ℕ) → Below 256 line → hunted (inverted line) ≡ hunted line
unfolding hunted first
inverted-same line h =
    rw (inverted-octets line h, symbols-inverted line h, length-map (λ (o : ℕ). 255 - o) line)
    (ap (provided (hunt_demands line)) (⊎_elim short long (order (length line * 8) 72)))
  where
    short : length line * 8 ≤ 72 → answer (fits (map not (symbols line))) line ≡ answer (fits (symbols line)) line
    short g =
        let n : length line * 8 - 72 ≡ 0 = omega arith in
        rw n

    long : 72 < length line * 8 → answer (fits (map not (symbols line))) line ≡ answer (fits (symbols line)) line
    long g =
        first-map (λ a. a) (fits (symbols line)) (fits (map not (symbols line))) 1 (length line * 8 - 72) accepted accepted (refused 17 0)
        (λ i l. not-fits (symbols line) i (omega (arith, length-chain (highest 8) line))) (λ i. refl)

pub inverted-compared : (line : List ℕ) → Below 256 line → compared (inverted line) ≡ compared line
unfolding compared total
inverted-compared line h =
    rw (inverted-same line h, length-inverted line, inverted-octets line h, symbols-inverted line h)
    (go (reached (length line * 8 - 72) (hunted line)) (reached-most line))
  where
    go : (n : ℕ) → n ≤ length line * 8 - 72 → total (map not (symbols line)) n ≡ total (symbols line) n
    go zero l = refl
    go (suc n) l = not-total (symbols line) (suc n) (omega (arith, length-chain (highest 8) line))

pub inverted-hunt : (line : List ℕ) → Below 256 line → bounded_hunt (inverted line) ≡ bounded_hunt line
inverted-hunt line h = ap₂ (λ (a : Answer ℕ) (n : ℕ). (a, n)) (inverted-same line h) (inverted-compared line h)
