-- The table of the four bits that an octet's slots hold, by one test that antt computes over its entries. Assumes nothing.
use mathlib.Core.Path.{◌≡◌, refl, sym, ap, ◌∙◌}
use mathlib.Core.Bool.{xor}
use mathlib.Core.List.{List}
use Prim.Native.Nat.{ℕ, ◌<◌}
use lib.ListN.{get_or}
use Rattle.bits.specs.Row.{little}
use Rattle.bits.specs.Listed.{listed}
use Rattle.bits.proofs.Lists.{get_or-listed, listed-all}
use Rattle.line.proofs.BiphaseOctets.{nibble, by_slots, slots-held, nibble-lt}
use Rattle.aes3_read.specs.Inner.{held_table}
use Rattle.aes3_read.specs.declared.tables.TheConstants.{HELD}

entries-right : HELD ≡ listed 0 256 by_slots
unfolding listed little xor
entries-right = refl

module _ (o : ℕ) (h : o < 256) where
  pub held_at : get_or HELD o 0 ≡ nibble o
  held_at = ap (λ (xs : List ℕ). get_or xs o 0) entries-right ∙ get_or-listed 256 by_slots o 0 h ∙ sym (slots-held o)

  pub held-lt : get_or HELD o 0 < 16
  held-lt = rw held_at (nibble-lt o)

pub table-right : HELD ≡ held_table
unfolding held_table
table-right = sym (listed-all 256 nibble HELD 0 refl (λ o h. sym (held_at o h)))
