-- Patching leaves no residue, neither in the frame out nor in the verdicts, each as long as the channel count. Assumes nothing.
use Prim.Native.Nat.{ℕ}
use lib.ListN.{length}
use Rattle.answer.specs.Answer.{after}
use Rattle.answer.specs.Residue.{NoResidue}
use Rattle.answer.proofs.Residues.{no-residue-in}
use Rattle.madi_patch.specs.Slot.{Panel}
use Rattle.madi_patch.specs.Patch.{patched, frame_of, verdicts_of, patch_demands, patch_answer}
use Rattle.madi_patch.proofs.PatchLaws.{length-made-frame, length-verdicts}

-- of each list, whatever the length of the other
module _ (channels : ℕ) (p : Panel) (other : ℕ) where
  pub patch-leaves-none-in-frame : NoResidue channels (λ out. patch_answer channels p (length out) other)
      (λ out. after frame_of (patch_answer channels p (length out) other) out)
  unfolding patch_answer
  patch-leaves-none-in-frame =
      no-residue-in frame_of channels (λ n. patch_demands channels p n other) (patched channels p) (λ room m. length-made-frame channels p)

  pub patch-leaves-none-in-verdicts : NoResidue channels (λ verdicts. patch_answer channels p other (length verdicts))
      (λ verdicts. after verdicts_of (patch_answer channels p other (length verdicts)) verdicts)
  unfolding patch_answer
  patch-leaves-none-in-verdicts =
      no-residue-in verdicts_of channels (λ n. patch_demands channels p other n) (patched channels p) (λ room m. length-verdicts channels p)
