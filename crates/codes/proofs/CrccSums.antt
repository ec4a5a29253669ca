-- The exclusive or of blocks with a right CRCC: of three it is right, of two never. Assumes nothing.
use mathlib.Core.Path.{◌≡◌, refl, sym, ap₂, ◌∙◌}
use mathlib.Core.Bool.{true, false}
use mathlib.Core.List.{List}
use Prim.Native.Nat.{ℕ}
use native.Mathlib.Omega.{arith}
use lib.Dec.{lit<}
use lib.ListN.{length, get_or}
use lib.Bits.{bit_xor, xor_lt}
use Rattle.codes.specs.Crcc.{crcc_generator, sent, stages_after, crcc_right}
use Rattle.codes.specs.Differences.{xored}
use Rattle.codes.proofs.Emptied.{same_start}
use Rattle.codes.proofs.Xored.{length-xored, get_or-xored}
use Rattle.codes.proofs.CrccBlocks.{right-is-whole, right-octet, right-leaves-nothing, nothing-left-is-right, stages-xored, says-no, same_length, two-leave-nothing}

module _ (a b : List ℕ) (ra : crcc_right a ≡ true) (rb : crcc_right b ≡ true) where
  -- of two right blocks it is never right: from stages all 1 it would leave the same as from empty ones
  pub two-are-never-right : crcc_right (xored a b) ≡ false
  unfolding stages_after
  two-are-never-right =
      says-no (crcc_right (xored a b)) (λ e. let z : 255 ≡ 0 =
      same_start 8 crcc_generator refl refl 255 0 (sent (xored a b)) (lit< tt) (lit< tt)
      (right-leaves-nothing (xored a b) e ∙ sym (two-leave-nothing a b ra rb)) in omega arith)

pub three-are-right : (a b c : List ℕ) → crcc_right a ≡ true → crcc_right b ≡ true → crcc_right c ≡ true
    → crcc_right (xored (xored a b) c) ≡ true
unfolding stages_after
three-are-right a b c ra rb rc =
    let ab : length a ≡ length b = same_length a b ra rb in
    let abc : length (xored a b) ≡ length c = length-xored a b ab ∙ same_length b c rb rc in
    let two = xor_lt 8 (get_or a 23 0) (get_or b 23 0) (right-octet a ra) (right-octet b rb) in
    nothing-left-is-right (xored (xored a b) c) (length-xored (xored a b) c abc ∙ right-is-whole c rc)
    (rw (get_or-xored (xored a b) c 23 abc, get_or-xored a b 23 ab)
    (xor_lt 8 (bit_xor (get_or a 23 0) (get_or b 23 0)) (get_or c 23 0) two (right-octet c rc)))
    (stages-xored 0 255 (xored a b) c (lit< tt) (lit< tt) abc ∙ ap₂ bit_xor (two-leave-nothing a b ra rb) (right-leaves-nothing c rc))
