-- A whole block: its elements; joined and separated, separated and joined. Assumes nothing.
use mathlib.Core.Path.{◌≡◌, sym, ap, ap₂, ◌∙◌}
use mathlib.Core.List.{List}
use Prim.Native.Nat.{ℕ, ◌+◌, ◌*◌, ◌/◌, ◌%◌, ◌^◌, ◌<◌}
use native.Mathlib.Omega.{arith}
use lib.IntN.{ℤ, pos}
use lib.ListN.{length, get_or}
use Rattle.bits.proofs.Lists.{length-listed, get_or-listed, listed-all}
use Rattle.subframe.specs.Signed.{in_range, signed_of}
use Rattle.talkback.specs.Talkback.{auxiliary, main, sample_with, part_of, voice_with, subframe_with, voice_in, part_in, with_voice, program_of, voice_of}
use Rattle.talkback.specs.Inner.{Programs, AllIn}
use Rattle.talkback.proofs.Samples.{kept_in, kept-main, new-auxiliary, with-own, part-lt, parts_whole, voice-in, parts-back}

-- ---- the elements

-- sample i of a list
abbrev at : List ℤ → ℕ → ℤ
at l i = get_or l i (pos 0)

-- what samples have of voice sample k
abbrev pub parts_at : List ℤ → ℕ → ℕ → ℕ
parts_at samples k part = auxiliary (get_or samples (subframe_with k part) (pos 0))

module _ (program voice : List ℤ) where
  abbrev joined_at : ℕ → ℤ
  joined_at i = sample_with (main (at program i)) (part_of (at voice (voice_in i)) (part_in i))

  pub length-with : length (with_voice program voice) ≡ 384
  unfolding with_voice
  length-with = length-listed 0 384 joined_at

  pub get_or-with : (i : ℕ) → i < 384
      → get_or (with_voice program voice) i (pos 0)
      ≡ sample_with (main (get_or program i (pos 0))) (part_of (get_or voice (voice_in i) (pos 0)) (part_in i))
  unfolding with_voice
  get_or-with i h = get_or-listed 384 joined_at i (pos 0) h

module _ (samples : List ℤ) where
  pub length-program : length (program_of samples) ≡ 384
  unfolding program_of
  length-program = length-listed 0 384 (λ i. sample_with (main (at samples i)) 0)

  pub get_or-program : (i : ℕ) → i < 384 → get_or (program_of samples) i (pos 0) ≡ sample_with (main (get_or samples i (pos 0))) 0
  unfolding program_of
  get_or-program i h = get_or-listed 384 (λ i. sample_with (main (at samples i)) 0) i (pos 0) h

  pub length-voice : length (voice_of samples) ≡ 128
  unfolding voice_of
  length-voice = length-listed 0 128 (λ k. voice_with (parts_at samples k))

  pub get_or-voice : (k : ℕ) → k < 128 → get_or (voice_of samples) k (pos 0) ≡ voice_with (parts_at samples k)
  unfolding voice_of
  get_or-voice k h = get_or-listed 128 (λ k. voice_with (parts_at samples k)) k (pos 0) h

  -- counted from its first subframe, two subframes to a frame
  pub from-subframe : (k : ℕ)
      → voice_with (λ part. auxiliary (get_or samples (6 * (k / 2) + k % 2 + 2 * part) (pos 0))) ≡ voice_with (parts_at samples k)
  from-subframe k =
      let a : 6 * (k / 2) + k % 2 + 2 * 0 ≡ subframe_with k 0 = omega arith in
      let b : 6 * (k / 2) + k % 2 + 2 * 1 ≡ subframe_with k 1 = omega arith in
      let c : 6 * (k / 2) + k % 2 + 2 * 2 ≡ subframe_with k 2 = omega arith in
      ap (λ (x : ℕ). signed_of 12 (auxiliary (at samples x) + auxiliary (at samples (6 * (k / 2) + k % 2 + 2 * 1)) * 2 ^ 4 + auxiliary (at samples (6 * (k / 2) + k % 2 + 2 * 2)) * 2 ^ 8)) a
      ∙ ap₂ (λ (x y : ℕ). signed_of 12 (parts_at samples k 0 + auxiliary (at samples x) * 2 ^ 4 + auxiliary (at samples y) * 2 ^ 8)) b c

-- ---- joined, and then separated

module _ (program voice : List ℤ) (fit : Programs program) (ranges : AllIn 12 128 voice) where
  abbrev samples : List ℤ
  samples = with_voice program voice

  pub joined_in : AllIn 24 384 samples
  joined_in i h =
      ap (in_range 24) (get_or-with program voice i h)
      ∙ kept_in (at program i) (fit i h).0 (part_of (at voice (voice_in i)) (part_in i)) (part-lt (at voice (voice_in i)) (part_in i))

  -- the 20 bits in slots 8 to 27 are those of the program
  pub joined-main : (i : ℕ) → i < 384 → main (get_or samples i (pos 0)) ≡ main (get_or program i (pos 0))
  joined-main i h =
      ap main (get_or-with program voice i h)
      ∙ kept-main (at program i) (fit i h).0 (part_of (at voice (voice_in i)) (part_in i)) (part-lt (at voice (voice_in i)) (part_in i))

  -- and the four in slots 4 to 7 those of the voice
  pub joined-auxiliary : (i : ℕ) → i < 384
      → auxiliary (get_or samples i (pos 0)) ≡ part_of (get_or voice (voice_in i) (pos 0)) (part_in i)
  joined-auxiliary i h =
      ap auxiliary (get_or-with program voice i h)
      ∙ new-auxiliary (at program i) (fit i h).0 (part_of (at voice (voice_in i)) (part_in i)) (part-lt (at voice (voice_in i)) (part_in i))

  pub program-back : length program ≡ 384 → program_of samples ≡ program
  unfolding program_of
  program-back n =
      listed-all 384 (λ i. sample_with (main (at samples i)) 0) program (pos 0) n
      (λ i h. ap (λ (m : ℕ). sample_with m 0) (joined-main i h) ∙ ap (sample_with (main (at program i))) (sym (fit i h).1)
      ∙ with-own (at program i) (fit i h).0)

  part-of : (k j : ℕ) → k < 128 → j < 3 → parts_at samples k j ≡ part_of (at voice k) j
  part-of k j hk hj =
      let v : voice_in (subframe_with k j) ≡ k = omega arith in
      let p : part_in (subframe_with k j) ≡ j = omega arith in
      joined-auxiliary (subframe_with k j) (omega arith) ∙ ap₂ (λ (x y : ℕ). part_of (at voice x) y) v p

  pub voice-back : length voice ≡ 128 → voice_of samples ≡ voice
  unfolding voice_of
  voice-back n =
      listed-all 128 (λ k. voice_with (parts_at samples k)) voice (pos 0) n
      (λ k h. same k (part-of k 0 h (omega arith)) (part-of k 1 h (omega arith)) (part-of k 2 h (omega arith)) ∙ parts_whole (at voice k) (ranges k h))
    where
      same : (k : ℕ) → parts_at samples k 0 ≡ part_of (at voice k) 0 → parts_at samples k 1 ≡ part_of (at voice k) 1
          → parts_at samples k 2 ≡ part_of (at voice k) 2 → voice_with (parts_at samples k) ≡ voice_with (part_of (at voice k))
      same k e f g =
          let sum : parts_at samples k 0 + parts_at samples k 1 * 2 ^ 4 + parts_at samples k 2 * 2 ^ 8
          ≡ part_of (at voice k) 0 + part_of (at voice k) 1 * 2 ^ 4 + part_of (at voice k) 2 * 2 ^ 8 = omega arith in
          ap (signed_of 12) sum

-- ---- separated, and then joined

module _ (samples : List ℤ) (ranges : AllIn 24 384 samples) where
  pub separated-programs : Programs (program_of samples)
  separated-programs i h = (
    ap (in_range 24) (get_or-program samples i h) ∙ kept_in (at samples i) (ranges i h) 0 (omega arith),
    ap auxiliary (get_or-program samples i h) ∙ new-auxiliary (at samples i) (ranges i h) 0 (omega arith),
  )

  pub separated-voice : AllIn 12 128 (voice_of samples)
  separated-voice k h = ap (in_range 12) (get_or-voice samples k h) ∙ voice-in (parts_at samples k) (λ j. omega arith)

  pub joined_back : length samples ≡ 384 → with_voice (program_of samples) (voice_of samples) ≡ samples
  unfolding with_voice
  joined_back n = listed-all 384 (joined_at (program_of samples) (voice_of samples)) samples (pos 0) n same
    where
      same : (i : ℕ) → i < 384 → joined_at (program_of samples) (voice_of samples) i ≡ at samples i
      same i h =
          let k : voice_in i < 128 = omega arith in
          let here : subframe_with (voice_in i) (part_in i) ≡ i = omega arith in
          let m : main (at (program_of samples) i) ≡ main (at samples i) =
          ap main (get_or-program samples i h) ∙ kept-main (at samples i) (ranges i h) 0 (omega arith) in
          let p : part_of (at (voice_of samples) (voice_in i)) (part_in i) ≡ auxiliary (at samples i) =
          ap (λ (v : ℤ). part_of v (part_in i)) (get_or-voice samples (voice_in i) k)
          ∙ parts-back (parts_at samples (voice_in i)) (λ j. omega arith) (part_in i) (omega arith)
          ∙ ap (λ (j : ℕ). auxiliary (at samples j)) here in
          ap₂ sample_with m p ∙ with-own (at samples i) (ranges i h)
