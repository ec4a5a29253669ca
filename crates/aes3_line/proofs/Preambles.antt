-- The preamble that is due, and a subframe behind it. Assumes nothing.
use mathlib.Core.Path.{◌≡◌, refl, sym, ap, ◌∙◌}
use mathlib.Core.Bool.{Bool, true, false, not}
use mathlib.Core.List.{◌++◌, append_assoc, map}
use Prim.Native.Nat.{ℕ, ◌%◌, ◌<◌}
use native.Mathlib.Omega.{arith}
use borrow.Author.Tests.{ne_eqb}
use lib.Dec.{eqb}
use lib.ListN.{length, get_or, length-append}
use Rattle.bits.specs.Pick.{pick}
use Rattle.bits.specs.Row.{Row, odd, big_bits, big}
use Rattle.bits.proofs.Tests.{pick-cases}
use Rattle.bits.proofs.Rows.{length-bits, big_lt, big_bits-big}
use Rattle.line.specs.Preamble.{preamble_x, preamble_y, preamble_z, after_level}
use Rattle.line.specs.Biphase.{biphase, left}
use Rattle.line.proofs.BiphaseLaws.{length-biphase}
use Rattle.line.proofs.PreambleLaws.{Opening, opening-X, opening-Y, opening-Z, after-0, after-not, length-after, after-append, biphase-after}
use Rattle.subframe.specs.Body.{slots}
use Rattle.subframe.proofs.BodyLaws.{slots-bits}
use Rattle.aes3_line.specs.Subframe.{due, preamble, subframe}

-- ---- the preambles

-- what holds of the three holds of the one that is due
pub due-opens : (i : ℕ) → Opening (due i)
unfolding due
due-opens i =
    pick-cases Opening (eqb i 0) preamble_z (pick (odd i) preamble_y preamble_x) (λ _. opening-Z)
    (λ _. pick-cases Opening (odd i) preamble_y preamble_x (λ _. opening-Y) (λ _. opening-X))

pub due-lt : (i : ℕ) → big (due i) < 256
due-lt i = rw (due-opens i).long at (big_lt (due i))

-- its octet as a row again
pub due-row : (i : ℕ) → big_bits 8 (big (due i)) ≡ due i
due-row i = rw (due-opens i).long at (big_bits-big (due i))

pub length-preamble : (i : ℕ) (l : Bool) → length (preamble i l) ≡ 8
unfolding preamble
length-preamble i l = length-after l (due i) ∙ (due-opens i).long

-- a preamble leaves the level as it was
pub left-preamble : (i : ℕ) (l : Bool) → left l (preamble i l) ≡ l
unfolding preamble
left-preamble i l = (due-opens i).keeps l

pub preamble-0 : (i : ℕ) → preamble i false ≡ due i
unfolding preamble
preamble-0 i = after-0 (due i)

pub preamble-not : (i : ℕ) (l : Bool) → preamble i (not l) ≡ map not (preamble i l)
unfolding preamble
preamble-not i l = after-not l (due i)

-- X opens an even subframe that is not the first, Y an odd one
pub due-first : 0b11101000 ≡ big (due 0)
unfolding due big_bits big
due-first = refl

pub due-even : (i : ℕ) → 0 < i → i % 2 ≡ 0 → 0b11100010 ≡ big (due i)
unfolding due big_bits big
due-even i h e = rw (ne_eqb i 0 (λ z. omega arith), e)

pub due-odd : (i : ℕ) → i % 2 ≡ 1 → 0b11100100 ≡ big (due i)
unfolding due big_bits big
due-odd i e = rw (ne_eqb i 0 (λ z. omega arith), e)

-- ---- a subframe

pub length-subframe : (i : ℕ) (l : Bool) (b : ℕ) → length (subframe i l b) ≡ 64
unfolding subframe
length-subframe i l b = rw (length-append, length-preamble, length-biphase, slots-bits, length-bits)

-- it begins with a change of level
pub subframe-begins : (i : ℕ) (l : Bool) (b : ℕ) (r : Row) → get_or (subframe i l b ++ r) 0 true ≡ not l
unfolding subframe preamble
subframe-begins i l b r =
    ap (λ (s : Row). get_or s 0 true) (append_assoc (after_level l (due i)) (biphase (left l (after_level l (due i))) (slots b)) r)
    ∙ (due-opens i).begins l (biphase (left l (after_level l (due i))) (slots b) ++ r)

-- after a level it is what is sent after level 0, after that level
pub subframe-after : (i : ℕ) (l : Bool) (b : ℕ) → after_level l (due i ++ biphase false (slots b)) ≡ subframe i l b
unfolding subframe preamble
subframe-after i l b =
    after-append l (due i) (biphase false (slots b))
    ∙ ap (λ (s : Row). after_level l (due i) ++ s) (sym (ap (λ (k : Bool). biphase k (slots b)) ((due-opens i).keeps l) ∙ biphase-after l (slots b)))
