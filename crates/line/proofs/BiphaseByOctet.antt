-- The table of biphase codings by octet: what an entry is after level 0, and after level 1, where it is inverted.
-- Assumes nothing.
use mathlib.Core.Path.{◌≡◌, sym, ap, ◌∙◌}
use mathlib.Core.Bool.{Bool, true, false, not}
use mathlib.Core.List.{map}
use Prim.Native.Nat.{ℕ, ◌+◌, ◌-◌, ◌/◌, ◌^◌, ◌<◌}
use native.Mathlib.Omega.{arith}
use lib.Bits.{bit_xor, xor_zero_r, xor_add_and, and_mask}
use lib.ListN.{length, get_or}
use Rattle.bits.specs.Pick.{pick}
use Rattle.bits.specs.Row.{bits, big}
use Rattle.bits.proofs.Lists.{length-listed, get_or-listed}
use Rattle.bits.proofs.Rows.{length-bits, big_lt}
use Rattle.bits.proofs.Inverting.{big-not}
use Rattle.line.specs.Biphase.{biphase, biphase_table}
use Rattle.line.proofs.BiphaseLaws.{length-biphase, biphase-not}
use Rattle.line.proofs.BiphaseOctets.{eight-first}

pub length-table : length biphase_table ≡ 256
unfolding biphase_table
length-table = length-listed 0 256 (λ octet. big (biphase false (bits 8 octet)))

-- an entry is its octet's symbols after level 0
pub entry-after-0 : (d : ℕ) → d < 256 → get_or biphase_table d 0 ≡ big (biphase false (bits 8 d))
unfolding biphase_table
entry-after-0 d h = get_or-listed 256 (λ octet. big (biphase false (bits 8 octet))) d 0 h

-- eight slots are sixteen symbols
sixteen-long : (l : Bool) (d : ℕ) → length (biphase l (bits 8 d)) ≡ 16
sixteen-long l d = rw (length-biphase l (bits 8 d), length-bits 8 d)

pub sixteen-lt : (l : Bool) (d : ℕ) → big (biphase l (bits 8 d)) < 2 ^ 16
sixteen-lt l d = rw (sixteen-long l d) at (big_lt (biphase l (bits 8 d)))

pub entry_lt : (d : ℕ) → d < 256 → get_or biphase_table d 0 < 2 ^ 16
entry_lt d h = rw (entry-after-0 d h) (sixteen-lt false d)

-- an exclusive or with sixteen ones takes from them
against-ones : (s : ℕ) → s < 65536 → bit_xor s 65535 ≡ 65535 - s
against-ones s h = omega (arith, xor_add_and s 65535, and_mask s 16)

-- the inversion: after a level an entry, for level 1 with all sixteen symbols inverted, is its octet's symbols
pub entry-after : (l : Bool) (d : ℕ) → d < 256 → bit_xor (get_or biphase_table d 0) (pick l (2 ^ 16 - 1) 0) ≡ big (biphase l (bits 8 d))
entry-after false d h = xor_zero_r (get_or biphase_table d 0) ∙ entry-after-0 d h
entry-after true d h =
    let e : big (map not (biphase false (bits 8 d))) + big (biphase false (bits 8 d)) + 1 ≡ 2 ^ 16 = rw (sixteen-long false d) at (big-not (biphase false (bits 8 d))) in
    let m : 65535 - get_or biphase_table d 0 ≡ big (map not (biphase false (bits 8 d))) = omega (arith, entry-after-0 d h) in
    against-ones (get_or biphase_table d 0) (entry_lt d h) ∙ m ∙ ap big (sym (biphase-not false (bits 8 d)))

-- its first eight symbols are those of the octet's four lowest bits
pub entry_first : (d : ℕ) → d < 256 → get_or biphase_table d 0 / 256 ≡ big (biphase false (bits 4 d))
entry_first d h = ap (λ (s : ℕ). s / 256) (entry-after-0 d h) ∙ eight-first false d
