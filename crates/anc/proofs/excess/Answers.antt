-- `anc::excess` meets its contract: b8 and above are those of the octet's word exactly if they do not differ. Assumes nothing.
use mathlib.Core.Path.{◌≡◌, ap, ◌∙◌}
use Prim.Native.Nat.{ℕ, ◌+◌, ◌-◌, ◌*◌, ◌/◌, ◌%◌, ◌^◌, ◌<◌}
use native.Mathlib.Omega.{arith}
use lib.Dec.{eqb}
use lib.Count.{ones}
use lib.Bits.{bit_xor, xor_self}
use Rattle.bits.proofs.Tests.{eqb_same}
use Rattle.bits.proofs.Xor.{xor-eq}
use Rattle.anc.specs.Word.{word_of}
use Rattle.anc.specs.Inner.{coded}
use Rattle.anc.proofs.WordLaws.{b8-ones}
use Rattle.anc.proofs.excess.Goals as goal

-- b8 and above of a word whose b8 is p
above : (w p : ℕ) → p < 2 → w / 256 ≡ 2 - p → w ≡ w % 2 ^ 8 + p * 2 ^ 8 + (1 - p) * 2 ^ 9
above w p h e = omega arith

below : (w p : ℕ) → p < 2 → w ≡ w % 2 ^ 8 + p * 2 ^ 8 + (1 - p) * 2 ^ 9 → w / 256 ≡ 2 - p
below w p h e = omega arith

differs : (w : ℕ) → eqb (bit_xor (w / 256) (2 - ones (w % 256) % 2)) 0 ≡ coded w
unfolding coded word_of
differs w =
    let p = ones (w % 256) % 2 in
    rw (b8-ones (w % 2 ^ 8) (omega arith))
    (eqb_same (bit_xor (w / 256) (2 - p)) 0 w (w % 2 ^ 8 + p * 2 ^ 8 + (1 - p) * 2 ^ 9)
    (λ e. above w p (omega arith) (xor-eq (w / 256) (2 - p) e))
    (λ e. ap (λ (x : ℕ). bit_xor x (2 - p)) (below w p (omega arith) e) ∙ xor_self (2 - p)))

pub returns : goal.returns
returns c = differs c.args.w
