-- Two blocks that differ in one octet: in one bit where a bit of it is inverted, and within eight consecutive positions
-- in any case. So a byte that is written and not sealed is caught. Assumes nothing.
use mathlib.Core.Path.{◌≡◌, sym, ap, ap₂, ◌∙◌}
use mathlib.Core.Bool.{true, false}
use mathlib.Core.List.{List, ◌∷◌, ◌++◌}
use Prim.Native.Nat.{ℕ, suc, ◌+◌, ◌-◌, ◌*◌, ◌^◌, ◌≤◌, ◌<◌}
use native.Mathlib.Omega.{arith}
use lib.ListN.{length, get_or, set, replicate, length-replicate, get_or-append}
use lib.Seq.{get_or-append-add}
use lib.Pow.{pow-lt}
use lib.Bits.{bit_xor, xor_lt}
use Rattle.bits.specs.Row.{Row, bits, count}
use Rattle.bits.specs.Pack.{chain}
use Rattle.bits.proofs.Rows.{length-bits}
use Rattle.bits.proofs.Counts.{count-append, count_zeros, count_ones, ones-pow, ones_none}
use Rattle.bits.proofs.Xor.{xor-twice, xor-eq}
use Rattle.bits.proofs.Packing.{chain-append}
use Rattle.codes.specs.Crcc.{sent, crcc_right}
use Rattle.codes.specs.Differences.{differences, InOneBit}
use Rattle.codes.proofs.Xored.{zeros, none-there, sent-zeros, xored-set}
use Rattle.codes.proofs.CrccCatch.{one-bit-is-caught, eight-in-a-row-are-caught}

-- byte k written anew
module _ (status : List ℕ) (k v : ℕ) (there : k < length status) where
  abbrev difference : ℕ
  difference = bit_xor (get_or status k 0) v

  abbrev rest : ℕ
  rest = (length status - suc k) * 8

  spot : differences status (set status k v) ≡ zeros (k * 8) ++ (bits 8 difference ++ zeros rest)
  unfolding differences sent chain
  spot =
      ap sent (xored-set status k v there) ∙ chain-append (bits 8) (replicate k 0) (difference ∷ replicate (length status - suc k) 0)
      ∙ ap₂ (λ (r s : Row). r ++ (bits 8 difference ++ s)) (sent-zeros k) (sent-zeros (length status - suc k))

  count-spot : count (differences status (set status k v)) ≡ count (bits 8 difference)
  count-spot =
      ap count spot ∙ count-append (zeros (k * 8)) (bits 8 difference ++ zeros rest)
      ∙ ap₂ ◌+◌ (count_zeros (zeros (k * 8)) (none-there (k * 8)))
      (count-append (bits 8 difference) (zeros rest)
      ∙ ap (λ (n : ℕ). count (bits 8 difference) + n) (count_zeros (zeros rest) (none-there rest)))
      ∙ omega arith

  before-spot : (i : ℕ) → i < k * 8 → get_or (differences status (set status k v)) i false ≡ false
  before-spot i h =
      rw spot (get_or-append (zeros (k * 8)) (bits 8 difference ++ zeros rest) false i (rw length-replicate h)) ∙ none-there (k * 8) i

  past-spot : (i : ℕ) → k * 8 + 8 ≤ i → get_or (differences status (set status k v)) i false ≡ false
  past-spot i h =
      let m = i - (k * 8 + 8) in
      let e : i ≡ length (zeros (k * 8)) + (length (bits 8 difference) + m) =
      omega (arith, length-replicate (k * 8) false, length-bits 8 difference) in
      ap₂ (λ (r : Row) (n : ℕ). get_or r n false) spot e
      ∙ get_or-append-add (zeros (k * 8)) (bits 8 difference ++ zeros rest) (length (bits 8 difference) + m) false
      ∙ get_or-append-add (bits 8 difference) (zeros rest) m false ∙ none-there rest m

  -- another octet
  pub written-octet-is-caught : crcc_right status ≡ true → get_or status k 0 < 256 → v < 256 → (v ≡ get_or status k 0 → ⊥)
      → crcc_right (set status k v) ≡ false
  written-octet-is-caught right ho hv other =
      eight-in-a-row-are-caught status (set status k v) right record {
        some = λ z. other (sym (xor-eq (get_or status k 0) v
            (ones_none difference (sym (count_ones 8 difference (xor_lt 8 (get_or status k 0) v ho hv)) ∙ sym count-spot ∙ z))));
        from = k * 8;
        none_before = before-spot;
        none-past = λ i h. past-spot i (omega arith);
      }

-- bit j of byte k inverted
pub inverted-bit-is-caught : (status : List ℕ) (k j : ℕ) → crcc_right status ≡ true → k < length status → j < 8
    → crcc_right (set status k (bit_xor (get_or status k 0) (2 ^ j))) ≡ false
inverted-bit-is-caught status k j right there h =
    let o = get_or status k 0 in
    let one : InOneBit status (set status k (bit_xor o (2 ^ j))) =
    count-spot status k (bit_xor o (2 ^ j)) there ∙ ap (λ (d : ℕ). count (bits 8 d)) (xor-twice o (2 ^ j))
    ∙ count_ones 8 (2 ^ j) (pow-lt h) ∙ ones-pow j in
    one-bit-is-caught status (set status k (bit_xor o (2 ^ j))) right one
