-- Reading what was aligned at a start that the hunt found is reading the line there. Assumes nothing.
use mathlib.Core.Path.{◌≡◌, refl, sym, ap, ◌∙◌}
use mathlib.Core.Bool.{Bool, true, false, not}
use mathlib.Core.List.{List}
use Prim.Native.Nat.{ℕ, ◌-◌}
use native.Mathlib.Nat.{add-zero}
use native.Mathlib.Omega.{arith}
use lib.ListN.{length, get_or}
use Rattle.bits.specs.Row.{Row, big_bits}
use Rattle.bits.specs.Pack.{symbols}
use Rattle.bits.proofs.Windows.{get_d_part}
use Rattle.answer.specs.Answer.{Answer.accepted, rewritten}
use Rattle.line.specs.Preamble.{preamble_z, after_level}
use Rattle.line.proofs.PreambleLaws.{after-0, after-1}
use Rattle.block.specs.Side.{side_length}
use Rattle.aes3_line.specs.Position.{bodies_at}
use Rattle.aes3_line.proofs.Position.{block-read-at}
use Rattle.aes3_read.specs.Reader.{read_answer}
use Rattle.aes3_read.proofs.BlockReading.{by-line}
use Rattle.aes3_hunt.specs.Hunt.{hunted}
use Rattle.aes3_hunt.specs.Align.{block_from, aligned}
use Rattle.aes3_hunt.proofs.Meaning.{found-fits}
use Rattle.aes3_hunt.proofs.AlignLaws.{length_from, symbols-from, holds-block}

module _ (line : List ℕ) (p : ℕ) where
  abbrev r : Row
  r = symbols line

  -- whatever the position: the reader's answer of the block is that of the subframes that stand in the line from there on
  block-from : read_answer (block_from line p) 384 side_length ≡ bodies_at 384 0 (not (get_or r p false)) r p
  block-from =
      by-line (block_from line p) 384 side_length (length_from line p) refl refl
      ∙ block-read-at (block_from line p) r p (length_from line p)
      (λ k h. ap (λ (s : Row). get_or s k false) (symbols-from line p) ∙ get_d_part r p 24576 k h)

  -- Z after a level begins with its opposite
  z-opens : (l : Bool) → get_or (after_level l preamble_z) 0 false ≡ not l
  unfolding big_bits
  z-opens false = rw (after-0 preamble_z)
  z-opens true = rw (after-1 preamble_z)

  -- at a start, the level that the reader takes is the symbol that stands before it
  found-level : hunted line ≡ accepted p → not (get_or r p false) ≡ get_or r (p - 1) false
  found-level e =
      let l = get_or r (p - 1) false in
      let z = (found-fits line p e).z in
      let first : get_or r p false ≡ not l =
      rw (add-zero) at (sym (get_d_part r p 8 0 (omega arith)) ∙ ap (λ (s : Row). get_or s 0 false) z ∙ z-opens l) in
      ap not first ∙ twice l
    where
      twice : (b : Bool) → not (not b) ≡ b
      twice true = refl
      twice false = refl

  -- what was aligned at a found start is read as the line is there: 384 subframes from that symbol on, after the one before it
  pub read-where-found : (old block : List ℕ) → hunted line ≡ accepted p → aligned line p (length old) ≡ accepted block
      → read_answer (rewritten (aligned line p (length old)) old) 384 side_length ≡ bodies_at 384 0 (get_or r (p - 1) false) r p
  read-where-found old block e f =
      ap (λ (b : List ℕ). read_answer b 384 side_length) (holds-block line p old f)
      ∙ block-from
      ∙ ap (λ (l : Bool). bodies_at 384 0 l r p) (found-level e)
