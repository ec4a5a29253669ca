-- The words that the writer sends are words that the reader takes, each in its place. Assumes nothing.
use mathlib.Core.Path.{◌≡◌, refl, sym, ap, ◌∙◌}
use mathlib.Core.Bool.{Bool, true, false}
use mathlib.Core.List.{List, ◌++◌}
use Prim.Native.Nat.{ℕ, ◌+◌, ◌-◌, ◌/◌, ◌%◌, ◌^◌, ◌≤◌, ◌<◌, min}
use native.Mathlib.Nat.{div-one}
use native.Mathlib.Omega.{arith}
use native.Mathlib.Decide.{dec_lt}
use borrow.Author.Tests.{eq-eqb, ne_eqb}
use lib.Dec.{eqb}
use lib.ListN.{length, get_or, replicate, length-append, length-replicate, get_or-replicate, get_or-append}
use lib.Seq.{get_or-append-add}
use Rattle.bits.specs.Pick.{pick}
use Rattle.bits.specs.Row.{bit, Below}
use Rattle.subframe.specs.Body.{even_body}
use Rattle.subframe.proofs.BodyLaws.{parity-above, parity-zero}
use Rattle.madi_read.specs.Reader.{first_right, active_right, cleared}
use Rattle.madi_write.specs.Inner.{sent_word}
use Rattle.madi_write.proofs.Frames.{sent-active, sent-idle}
use Rattle.madi.specs.Units.{padded}

-- bits 0 to 3 play no part in the parity
pub even-same : (v w : ℕ) → v / 16 ≡ w / 16 → even_body v ≡ even_body w
even-same v w e = ap (λ (p : ℕ). eqb p 0) (parity-above v w e)

pub even-zero : even_body 0 ≡ true
even-zero = eq-eqb _ 0 parity-zero

-- what the writer's checks leave of its words
module _ (words : List ℕ) (even : (i : ℕ) → i < length words → even_body (get_or words i 0) ≡ true) (clean : (k : ℕ) → get_or words k 0 % 4 ≡ 0)
    (small : Below (2 ^ 32) words) where
  -- bits 0 and 1 of an active word
  marks : (n : ℕ) → (e : ℕ) × (pick (eqb n 0) 3 2 ≡ 2 + e) × (e < 2) × (pick (eqb n 0) 1 0 ≡ e)
  marks n = go (eqb n 0)
    where
      go : (t : Bool) → (e : ℕ) × (pick t 3 2 ≡ 2 + e) × (e < 2) × (pick t 1 0 ≡ e)
      go true = (1, refl, omega arith, refl)
      go false = (0, refl, omega arith, refl)

  pub sent-small : (n : ℕ) → sent_word words n < 2 ^ 32
  sent-small n = go (dec_lt n (length words))
    where
      go : Dec (n < length words) → sent_word words n < 2 ^ 32
      go (yes h) = omega (arith, sent-active words n h, (marks n).1, (marks n).2, clean n, small n)
      go (no h) = omega (arith, sent-idle words n (omega arith))

  pub sent-bit : (n : ℕ) → min n (length words) + bit 1 (sent_word words n) ≡ min (n + 1) (length words)
  sent-bit n = go (dec_lt n (length words))
    where
      go : Dec (n < length words) → min n (length words) + bit 1 (sent_word words n) ≡ min (n + 1) (length words)
      go (yes h) = omega (arith, sent-active words n h, (marks n).1, (marks n).2, clean n)
      go (no h) = omega (arith, sent-idle words n (omega arith))

  pub first-ok : (n : ℕ) → 1 ≤ length words → first_right n (sent_word words n) ≡ true
  first-ok n some = go (dec_lt n (length words))
    where
      go : Dec (n < length words) → first_right n (sent_word words n) ≡ true
      go (yes h) =
          rw (marks n).3
          (eq-eqb (bit 0 (sent_word words n)) (marks n).0 (omega (arith, sent-active words n h, (marks n).1, (marks n).2, clean n, div-one (sent_word words n))))
      go (no h) =
          let none : ◌≡◌ {A = ℕ} (pick (eqb n 0) 1 0) 0 = rw (ne_eqb n 0 (λ z. omega arith)) in
          rw none (eq-eqb (bit 0 (sent_word words n)) 0 (omega (arith, sent-idle words n (omega arith), div-one (sent_word words n))))

  pub active-ok : (n : ℕ) → active_right n (min n (length words)) (sent_word words n) ≡ true
  active-ok n = go (dec_lt n (length words))
    where
      go : Dec (n < length words) → active_right n (min n (length words)) (sent_word words n) ≡ true
      go (yes h) =
          rw (eq-eqb (bit 1 (sent_word words n)) 1 (omega (arith, sent-active words n h, (marks n).1, (marks n).2, clean n)))
          (eq-eqb n (min n (length words)) (omega arith))
      go (no h) =
          let z : sent_word words n ≡ 0 = sent-idle words n (omega arith) in
          rw z

  pub even-ok : (n : ℕ) → even_body (sent_word words n) ≡ true
  even-ok n = go (dec_lt n (length words))
    where
      go : Dec (n < length words) → even_body (sent_word words n) ≡ true
      go (yes h) =
          even-same (sent_word words n) (get_or words n 0) (omega (arith, sent-active words n h, (marks n).1, (marks n).2, clean n)) ∙ even n h
      go (no h) = ap even_body (sent-idle words n (omega arith)) ∙ even-zero

  -- with bits 0 and 1 cleared they are the given words, and zeros
  pub padded-at : (channels n : ℕ) → n < channels → get_or (padded channels words) n 0 ≡ cleared (sent_word words n)
  unfolding padded
  padded-at channels n h = go (dec_lt n (length words))
    where
      go : Dec (n < length words) → get_or (words ++ replicate (channels - length words) 0) n 0 ≡ cleared (sent_word words n)
      go (yes q) =
          get_or-append words (replicate (channels - length words) 0) 0 n q ∙ omega (arith, sent-active words n q, (marks n).1, (marks n).2, clean n)
      go (no q) =
          let e : length words + (n - length words) ≡ n = omega arith in
          ap (λ (i : ℕ). get_or (words ++ replicate (channels - length words) 0) i 0) (sym e)
          ∙ get_or-append-add words (replicate (channels - length words) 0) (n - length words) 0
          ∙ get_or-replicate (channels - length words) (n - length words) 0 0 (omega arith) ∙ sym (ap cleared (sent-idle words n (omega arith)))

pub length-padded : (channels : ℕ) (words : List ℕ) → length words ≤ channels → length (padded channels words) ≡ channels
unfolding padded
length-padded channels words h =
    length-append words (replicate (channels - length words) 0) ∙ omega (arith, length-replicate {A = ℕ} (channels - length words) 0)
