-- The promises: what was joined is separated again, what was separated is joined again, and joining changes no bit of
-- slots 8 to 27. Assumes nothing.
use mathlib.Core.Path.{◌≡◌, refl, sym, ap, ap₂, ◌∙◌}
use mathlib.Core.Bool.{true}
use mathlib.Core.List.{List}
use Prim.Native.Nat.{ℕ, ◌*◌, ◌/◌, ◌%◌, ◌^◌, ◌<◌}
use native.Mathlib.Omega.{arith}
use lib.IntN.{ℤ, pos, ◌*ℤ◌}
use lib.ListN.{length, get_or}
use Rattle.answer.specs.Answer.{Answer.accepted, verdict, after, rewritten}
use Rattle.answer.proofs.Residues.{whole}
use Rattle.subframe.specs.Signed.{in_range, code_of}
use Rattle.subframe.specs.Body.{body_of}
use Rattle.subframe.proofs.SignedLaws.{code_lt, moved_up}
use Rattle.subframe.proofs.BodyLaws.{body-sample}
use Rattle.block.specs.Block.{side_at, subframe_body}
use Rattle.block.proofs.BlockLaws.{body-in, side-digit}
use Rattle.talkback.specs.Talkback.{auxiliary, main, with_voice, program_of, voice_of, voice_join_answer, separate_answer}
use Rattle.talkback.proofs.Blocks.{length-with, length-program, length-voice, joined_in, joined-main, program-back, voice-back, separated-programs, separated-voice, joined_back}
use Rattle.talkback.proofs.Demands.{Joins, joins, separates, separating, joining}

-- ---- what joining accepts

module _ (program voice : List ℤ) (side : List ℕ) (old samples : List ℤ)
    (e : voice_join_answer program voice side (length old) ≡ accepted samples) where
  -- what the buffer then holds
  abbrev pub joined : List ℤ
  joined = rewritten (voice_join_answer program voice side (length old)) old

  j : Joins program voice side (length old) samples
  j = joins program voice side (length old) samples e

  is-with : joined ≡ with_voice program voice
  is-with = rw (e, ← j.is) (whole (λ new. new) (with_voice program voice) old (length-with program voice ∙ sym j.room-long))

  separated : (p v : ℕ) → p ≡ 384 → v ≡ 128 → separate_answer joined side p v ≡ accepted (with_voice program voice)
  separated p v np nv =
      ap (λ (s : List ℤ). separate_answer s side p v) is-with
      ∙ separating (with_voice program voice) side p v
      (record {
        program-room = np;
        voice-room = nv;
        side-long = j.side-long;
        samples-long = length-with program voice;
        declared = j.declared;
        ranges = joined_in program voice j.programs j.voices;
      })

  -- separating it gives back program and voice
  pub joined-separates : (p v : List ℤ) → length p ≡ 384 → length v ≡ 128
      → (verdict (separate_answer joined side (length p) (length v)) ≡ accepted tt)
      × (after program_of (separate_answer joined side (length p) (length v)) p ≡ program)
      × (after voice_of (separate_answer joined side (length p) (length v)) v ≡ voice)
  joined-separates p v np nv =
      let s = with_voice program voice in
      rw (separated (length p) (length v) np nv) (
        refl,
        whole program_of s p (length-program s ∙ sym np) ∙ program-back program voice j.programs j.voices j.program-long,
        whole voice_of s v (length-voice s ∙ sym nv) ∙ voice-back program voice j.programs j.voices j.voice-long,
      )

  -- slots 8 to 27 of every body are those of the program's body
  pub slots_kept : (i : ℕ) → i < 384 → subframe_body joined side i / 2 ^ 8 % 2 ^ 20 ≡ subframe_body program side i / 2 ^ 8 % 2 ^ 20
  slots_kept i h =
      ap (λ (s : List ℤ). subframe_body s side i / 2 ^ 8 % 2 ^ 20) is-with
      ∙ slots (with_voice program voice) (joined_in program voice j.programs j.voices i h)
      ∙ joined-main program voice j.programs j.voices i h
      ∙ sym (slots program (j.programs i h).0)
    where
      slots : (s : List ℤ) → in_range 24 (get_or s i (pos 0)) ≡ true → subframe_body s side i / 2 ^ 8 % 2 ^ 20 ≡ main (get_or s i (pos 0))
      slots s r =
          let z = code_of 24 (get_or s i (pos 0)) in
          let b = body_of z (side_at side 0 i) (side_at side 1 i) (side_at side 2 i) in
          let l : z < 2 ^ 24 = code_lt 24 (omega arith) (get_or s i (pos 0)) r in
          let q : b / 2 ^ 4 % 2 ^ 24 ≡ z =
          body-sample z (side_at side 0 i) (side_at side 1 i) (side_at side 2 i) l (side-digit side 0 i) (side-digit side 1 i) (side-digit side 2 i) in
          ap (λ (x : ℕ). x / 2 ^ 8 % 2 ^ 20) (body-in s side i r) ∙ omega arith

-- ---- what separating accepts

module _ (samples : List ℤ) (side : List ℕ) (p v s : List ℤ)
    (e : separate_answer samples side (length p) (length v) ≡ accepted s) where
  -- what the buffers then hold
  abbrev pub program-separated : List ℤ
  program-separated = after program_of (separate_answer samples side (length p) (length v)) p

  abbrev pub voice-separated : List ℤ
  voice-separated = after voice_of (separate_answer samples side (length p) (length v)) v

  -- joining them gives back the samples
  pub separated-joins : voice_join_answer program-separated voice-separated side 384 ≡ accepted samples
  separated-joins =
      let f = separates samples side (length p) (length v) s e in
      let d = f.0 in
      let a : separate_answer samples side (length p) (length v) ≡ accepted samples = e ∙ ap accepted (sym f.1) in
      let ep : program-separated ≡ program_of samples = rw a (whole program_of samples p (length-program samples ∙ sym d.program-room)) in
      let ev : voice-separated ≡ voice_of samples = rw a (whole voice_of samples v (length-voice samples ∙ sym d.voice-room)) in
      ap₂ (λ (x y : List ℤ). voice_join_answer x y side 384) ep ev
      ∙ joining (program_of samples) (voice_of samples) side 384 (length-program samples) (length-voice samples) d.side-long refl d.declared
      (separated-programs samples d.ranges) (separated-voice samples d.ranges)
      ∙ ap accepted (joined_back samples d.ranges d.samples-long)

-- ---- the program's 20 bits

-- 16 times any sample of 20 bits is a program sample, and slots 8 to 27 hold its 20 bits
pub twenty-bits : (z : ℤ) → in_range 20 z ≡ true
    → (in_range 24 (z *ℤ pos (2 ^ 4)) ≡ true) × (auxiliary (z *ℤ pos (2 ^ 4)) ≡ 0) × (main (z *ℤ pos (2 ^ 4)) ≡ code_of 20 z)
twenty-bits z h =
    let m = moved_up 20 4 (omega arith) z h in
    let e : code_of 24 (z *ℤ pos (2 ^ 4)) ≡ code_of 20 z * 2 ^ 4 = m.1 in
    (m.0, omega arith, omega arith)
