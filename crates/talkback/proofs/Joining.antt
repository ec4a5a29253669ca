-- Joining as code goes about it: three frames at a time from the start of the buffer. Assumes nothing.
use mathlib.Core.Path.{◌≡◌, sym, ap, ap₂, ◌∙◌}
use mathlib.Core.List.{List}
use Prim.Native.Nat.{ℕ, zero, suc, ◌+◌, ◌*◌, ◌/◌, ◌%◌, ◌^◌, ◌<◌}
use native.Mathlib.Omega.{arith}
use lib.IntN.{ℤ, pos}
use lib.ListN.{length, get_or, set}
use Rattle.bits.proofs.Filling.{over, over-next}
use Rattle.subframe.specs.Signed.{code_of}
use Rattle.talkback.specs.Talkback.{main, sample_with, part_of, voice_in, part_in, with_voice}
use Rattle.talkback.specs.Inner.{frame_set, three_set}
use Rattle.talkback.proofs.Blocks.{length-with, get_or-with}

-- four of the lowest 12 bits
of-twelve : (a j : ℕ) → j < 3 → a / 2 ^ (4 * j) % 2 ^ 4 ≡ a % 2 ^ 12 / 2 ^ (4 * j) % 2 ^ 4
of-twelve a zero h = omega arith
of-twelve a (suc zero) h = omega arith
of-twelve a (suc (suc zero)) h = omega arith
of-twelve a (suc (suc (suc j))) h = absurd (omega arith)

module _ (program voice old : List ℤ) (n : length old ≡ 384) where
  abbrev new : List ℤ
  new = with_voice program voice

  -- what subframe i has of a voice sample whose 12 bits end a number
  has : (i k j a : ℕ) → voice_in i ≡ k → part_in i ≡ j → j < 3 → a % 2 ^ 12 ≡ code_of 12 (get_or voice k (pos 0))
      → a / 2 ^ (4 * j) % 2 ^ 4 ≡ part_of (get_or voice (voice_in i) (pos 0)) (part_in i)
  has i k j a ek ej h e =
      of-twelve a j h ∙ ap (λ (x : ℕ). x / 2 ^ (4 * j) % 2 ^ 4) e
      ∙ ap₂ (λ (x y : ℕ). part_of (get_or voice x (pos 0)) y) (sym ek) (sym ej)

  frame-next : (i a b to : ℕ) → i + 1 < 384 → to ≡ i + 1 + 1 → a ≡ part_of (get_or voice (voice_in i) (pos 0)) (part_in i)
      → b ≡ part_of (get_or voice (voice_in (i + 1)) (pos 0)) (part_in (i + 1)) → frame_set program a b i (over i new old) ≡ over to new old
  unfolding frame_set
  frame-next i a b to h t ea eb =
      ap₂ (λ (x y : ℤ). set (set (over i new old) i x) (i + 1) y)
      (ap (sample_with (main (get_or program i (pos 0)))) ea ∙ sym (get_or-with program voice i (omega arith)))
      (ap (sample_with (main (get_or program (i + 1) (pos 0)))) eb ∙ sym (get_or-with program voice (i + 1) h))
      ∙ ap (λ (l : List ℤ). set l (i + 1) (get_or new (i + 1) (pos 0)))
      (over-next i new old (pos 0) (omega (arith, length-with program voice)) (omega arith))
      ∙ over-next (i + 1) new old (pos 0) (omega (arith, length-with program voice)) (omega arith)
      ∙ ap (λ (m : ℕ). over m new old) (sym t)

  module _ (k a b : ℕ) (h : k < 64) (ea : a % 2 ^ 12 ≡ code_of 12 (get_or voice (2 * k) (pos 0)))
      (eb : b % 2 ^ 12 ≡ code_of 12 (get_or voice (2 * k + 1) (pos 0))) where
    -- frame 3 k + j
    frame : (j : ℕ) → j < 3
        → frame_set program (a / 2 ^ (4 * j) % 2 ^ 4) (b / 2 ^ (4 * j) % 2 ^ 4) (6 * k + 2 * j) (over (6 * k + 2 * j) new old)
        ≡ over (6 * k + 2 * (j + 1)) new old
    frame j l =
        frame-next (6 * k + 2 * j) (a / 2 ^ (4 * j) % 2 ^ 4) (b / 2 ^ (4 * j) % 2 ^ 4) (6 * k + 2 * (j + 1)) (omega arith) (omega arith)
        (has (6 * k + 2 * j) (2 * k) j a (omega arith) (omega arith) l ea)
        (has (6 * k + 2 * j + 1) (2 * k + 1) j b (omega arith) (omega arith) l eb)

    pub three-next : three_set program a b (6 * k) (over (6 * k) new old) ≡ over (6 * (k + 1)) new old
    unfolding three_set
    three-next =
        let za : a % 2 ^ 4 ≡ a / 2 ^ (4 * 0) % 2 ^ 4 = omega arith in
        let zb : b % 2 ^ 4 ≡ b / 2 ^ (4 * 0) % 2 ^ 4 = omega arith in
        let i : 6 * k ≡ 6 * k + 2 * 0 = omega arith in
        let e : 6 * k + 2 * 3 ≡ 6 * (k + 1) = omega arith in
        let first : frame_set program (a % 2 ^ 4) (b % 2 ^ 4) (6 * k) (over (6 * k) new old) ≡ over (6 * k + 2) new old =
        ap₂ (λ (x y : ℕ). frame_set program x y (6 * k) (over (6 * k) new old)) za zb
        ∙ ap (λ (m : ℕ). frame_set program (a / 2 ^ (4 * 0) % 2 ^ 4) (b / 2 ^ (4 * 0) % 2 ^ 4) m (over m new old)) i ∙ frame 0 (omega arith) in
        ap (λ (l : List ℤ). frame_set program (a / 2 ^ 8 % 2 ^ 4) (b / 2 ^ 8 % 2 ^ 4) (6 * k + 4) (frame_set program (a / 2 ^ 4 % 2 ^ 4) (b / 2 ^ 4 % 2 ^ 4) (6 * k + 2) l)) first
        ∙ ap (frame_set program (a / 2 ^ 8 % 2 ^ 4) (b / 2 ^ 8 % 2 ^ 4) (6 * k + 4)) (frame 1 (omega arith))
        ∙ frame 2 (omega arith) ∙ ap (λ (m : ℕ). over m new old) e
