-- `block::under_mask::mask_under` meets its contract: by bytes 0 to 2 of the channel's status. Assumes nothing.
use mathlib.Core.Path.{◌≡◌, ◌∙◌}
use Prim.Native.Nat.{ℕ}
use Rattle.status.specs.Meaning.{meaning_of}
use Rattle.block.specs.Check.{meaning_in}
use Rattle.block.specs.Inner.{mask_under}
use Rattle.block.proofs.under_mask.mask_under.Goals as goal

three : {a b c x y z : ℕ} → a ≡ x → b ≡ y → c ≡ z → mask_under (meaning_of a b c) ≡ mask_under (meaning_of x y z)
three e f g = rw (e, f, g)

pub returns : goal.returns
unfolding meaning_in
returns c =
    c.mask_of.ensures
    ∙ three c.status_byte-byte0.ensures c.status_byte-byte1.ensures c.status_byte-byte2.ensures
