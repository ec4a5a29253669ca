-- Joining leaves no residue in the 384 samples, and separating none in the 384 of the program and none in the 128 of
-- the voice. Assumes nothing.
use mathlib.Core.List.{List}
use Prim.Native.Nat.{ℕ}
use lib.IntN.{ℤ}
use lib.ListN.{length}
use Rattle.answer.specs.Answer.{after, rewritten}
use Rattle.answer.specs.Residue.{NoResidue}
use Rattle.answer.proofs.Residues.{no-residue, no-residue-in}
use Rattle.talkback.specs.Talkback.{with_voice, program_of, voice_of, voice_join_demands, voice_join_answer, separate_answer}
use Rattle.talkback.proofs.Blocks.{length-with, length-program, length-voice}

pub join-leaves-none : (program voice : List ℤ) (side : List ℕ)
    → NoResidue 384 (λ samples. voice_join_answer program voice side (length samples))
    (λ samples. rewritten (voice_join_answer program voice side (length samples)) samples)
unfolding voice_join_answer
join-leaves-none program voice side =
    no-residue-in (λ new. new) 384 (voice_join_demands program voice side) (with_voice program voice) (λ room m. length-with program voice)

-- of each buffer, whatever the length of the other
module _ (samples : List ℤ) (side : List ℕ) (other : ℕ) where
  pub separate-leaves-none-in-program : NoResidue 384 (λ program. separate_answer samples side (length program) other)
      (λ program. after program_of (separate_answer samples side (length program) other) program)
  separate-leaves-none-in-program = no-residue program_of 384 (λ n. separate_answer samples side n other) (λ room v e. length-program v)

  pub separate-leaves-none-in-voice : NoResidue 128 (λ voice. separate_answer samples side other (length voice))
      (λ voice. after voice_of (separate_answer samples side other (length voice)) voice)
  separate-leaves-none-in-voice = no-residue voice_of 128 (λ n. separate_answer samples side other n) (λ room v e. length-voice v)
