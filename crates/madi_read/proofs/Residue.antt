-- Reading a frame leaves no residue in the words, as many as there are channels, nor in the list of 255 commands. Assumes nothing.
use mathlib.Core.Path.{◌≡◌}
use mathlib.Core.List.{List}
use Prim.Native.Nat.{ℕ, ◌≤◌}
use lib.ListN.{length}
use Rattle.answer.specs.Answer.{Answer.accepted, after}
use Rattle.answer.specs.Residue.{NoResidue}
use Rattle.answer.proofs.Residues.{no-residue}
use Rattle.madi_read.specs.Reader.{Frame, carried, frame_read, words_of, commands_of}
use Rattle.madi_read.proofs.Walking.{frame-sizes}
use Rattle.madi_read.proofs.Copying.{length-list}
use Rattle.madi_read.proofs.Accepting.{accepting}

module _ (channels level bits : ℕ) (line : List ℕ) where
  sizes : (room places : ℕ) (f : Frame) → frame_read channels level bits line room places ≡ accepted f
      → (length f.words ≡ channels) × (length f.commands ≤ 255)
  sizes room places f e = frame-sizes (carried level bits line) channels f (accepting channels level bits line room places f e).read

  -- with a list of so many places
  pub madi-read-leaves-none : (places : ℕ)
      → NoResidue channels (λ words. frame_read channels level bits line (length words) places)
      (λ words. after words_of (frame_read channels level bits line (length words) places) words)
  madi-read-leaves-none places =
      no-residue words_of channels (λ room. frame_read channels level bits line room places)
      (λ room f e. (sizes room places f e).0)

  -- with a buffer for so many words
  pub madi-commands-leave-none : (room : ℕ)
      → NoResidue 255 (λ commands. frame_read channels level bits line room (length commands))
      (λ commands. after commands_of (frame_read channels level bits line room (length commands)) commands)
  madi-commands-leave-none room =
      no-residue commands_of 255 (frame_read channels level bits line room) (λ places f e. length-list f.commands (sizes room places f e).1)
