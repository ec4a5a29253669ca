-- The block from a position on: its symbols are the line's. And what an accepted answer says. Assumes nothing.
use mathlib.Core.Path.{◌≡◌, sym, ap, ◌∙◌}
use mathlib.Core.Bool.{false}
use mathlib.Core.List.{List}
use Prim.Native.Nat.{ℕ, ◌+◌, ◌*◌, ◌<◌}
use native.Mathlib.Nat.{add_assoc}
use native.Mathlib.Omega.{arith}
use borrow.Author.Tests.{eqb-true}
use lib.ListN.{length, get_or, set}
use Rattle.bits.specs.Row.{big}
use Rattle.bits.specs.Window.{part, window}
use Rattle.bits.specs.Pack.{symbols}
use Rattle.bits.proofs.Windows.{length_part, get_d_part, part_same, part-all, window-lt}
use Rattle.bits.proofs.Packing.{length-pack, get_or-pack, symbols-octets}
use Rattle.bits.proofs.Filling.{over, over-next}
use Rattle.answer.specs.Answer.{Answer.accepted, rewritten}
use Rattle.answer.proofs.Chains.{met}
use Rattle.answer.specs.Residue.{NoResidue}
use Rattle.answer.proofs.Residues.{whole, no-residue-in}
use Rattle.line.specs.Load.{loaded}
use Rattle.line.proofs.LoadLaws.{load-window}
use Rattle.aes3_hunt.specs.Align.{align_demands, block_from, aligned}

-- eight symbols that are loaded are an octet
pub octet-fits : (line : List ℕ) (at : ℕ) {v : ℕ} → v ≡ loaded line at 8 → v < 256
octet-fits line at e = rw (e, load-window line at 8 (omega arith)) (window-lt (symbols line) at 8)

module _ (line : List ℕ) (position : ℕ) where
  pub length_from : length (block_from line position) ≡ 3072
  unfolding block_from
  length_from = length-pack big 8 3072 (part (symbols line) position 24576)

  -- its symbols are those of the line from the position on
  pub symbols-from : symbols (block_from line position) ≡ part (symbols line) position 24576
  unfolding block_from
  symbols-from =
      symbols-octets 3072 (part (symbols line) position 24576)
      ∙ part-all (part (symbols line) position 24576) 24576 (length_part (symbols line) position 24576)

  -- an octet is the eight symbols from its place on
  octet-from : (j : ℕ) → j < 3072 → get_or (block_from line position) j 0 ≡ window (symbols line) (position + j * 8) 8
  unfolding block_from window
  octet-from j h =
      let row = part (symbols line) position 24576 in
      get_or-pack big 8 3072 row j h
      ∙ ap big (part_same row (symbols line) (j * 8) (position + j * 8) 8
      (λ k l. get_d_part (symbols line) position 24576 (j * 8 + k) (omega arith)
      ∙ ap (λ (i : ℕ). get_or (symbols line) i false) (sym (add_assoc position (j * 8) k))))

  -- one octet more
  pub octet-more : (old : List ℕ) (j : ℕ) {block : List ℕ} {v : ℕ} → length old ≡ 3072 → j < 3072
      → block ≡ over j (block_from line position) old → v ≡ loaded line (position + j * 8) 8
      → set block j v ≡ over (j + 1) (block_from line position) old
  octet-more old j n h done e =
      let f = e ∙ load-window line (position + j * 8) 8 (omega arith) ∙ sym (octet-from j h) in
      rw (done, f) (over-next j (block_from line position) old 0 (omega (arith, length_from)) (omega arith))

  -- what the buffer holds after an accepted answer
  pub holds-block : (old : List ℕ) {block : List ℕ} → aligned line position (length old) ≡ accepted block
      → rewritten (aligned line position (length old)) old ≡ block_from line position
  unfolding aligned
  holds-block old e =
      let m = met (block_from line position) (align_demands line position (length old)) e in
      let room : length old ≡ 3072 = eqb-true _ 3072 m.0.0 in
      rw (e, ← m.1) (whole (λ new. new) (block_from line position) old (length_from ∙ sym room))

-- whatever stood in the 3,072 octets of the block leaves no trace, and nothing outside it changes
pub align-leaves-none : (line : List ℕ) (position : ℕ)
    → NoResidue 3072 (λ old. aligned line position (length old)) (λ old. rewritten (aligned line position (length old)) old)
unfolding aligned
align-leaves-none line position =
    no-residue-in (λ new. new) 3072 (align_demands line position) (block_from line position) (λ room m. length_from line position)
