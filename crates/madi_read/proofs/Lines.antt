-- A row on a line and back: what octets of levels carry, and octets of what a line carries. Assumes nothing.
use mathlib.Core.Path.{◌≡◌, sym, ap, ◌∙◌}
use mathlib.Core.Logic.{⊎_elim}
use mathlib.Core.Bool.{false}
use mathlib.Core.List.{List}
use Prim.Native.Nat.{ℕ, suc, ◌+◌, ◌*◌, ◌-◌, ◌^◌, ◌≤◌, ◌<◌}
use native.Mathlib.Nat.{zero-add, zero-div}
use native.Mathlib.Omega.{arith}
use lib.ListN.{length, get_or, get_or-eq_default}
use lib.Seq.{ext_get_or}
use Rattle.bits.specs.Row.{Row, odd, big, big_bits, Below}
use Rattle.bits.specs.Window.{part, window}
use Rattle.bits.specs.Pack.{octets, symbols}
use Rattle.bits.proofs.Tests.{order}
use Rattle.bits.proofs.Rows.{big_bits-big, get_or-big_bits}
use Rattle.bits.proofs.Windows.{length_part, get_d_part, part_same, part-all, window_same, window-past}
use Rattle.bits.proofs.Packing.{length-chain, highest, length-pack, get_or-pack, symbols-octets, octets-symbols}
use Rattle.line.specs.Nrzi.{levels, changes}
use Rattle.line.proofs.NrziLaws.{length-levels, changes-levels, levels-changes}
use Rattle.madi_read.specs.Reader.{carried}

-- past its end a part has zeros, and so has a row
part-bit : (r : Row) (n k : ℕ) → k < n → get_or (part r 0 n) k false ≡ get_or r k false
part-bit r n k h = get_d_part r 0 n k h ∙ ap (λ i. get_or r i false) (zero-add k)

part-part : (r : Row) (m n : ℕ) → n ≤ m → part (part r 0 m) 0 n ≡ part r 0 n
part-part r m n h = part_same (part r 0 m) r 0 0 n (λ k l. part-bit r m (0 + k) (omega arith))

-- ---- what was written

module _ (level : ℕ) (r : Row) (n : ℕ) (fits : length r ≤ n * 8) where
  -- the line of a row carries the row
  pub line-carries : carried level (length r) (octets n (levels (odd level) r)) ≡ r
  unfolding carried
  line-carries =
      ap (λ (s : Row). changes (odd level) (part s 0 (length r))) (symbols-octets n (levels (odd level) r))
      ∙ ap (changes (odd level)) (part-part (levels (odd level) r) (n * 8) (length r) fits ∙ part-all (levels (odd level) r) (length r) (length-levels (odd level) r))
      ∙ changes-levels (odd level) r

  -- and its unused bits are 0
  pub line-spare : (m : ℕ) → length r + m ≤ n * 8 → window (symbols (octets n (levels (odd level) r))) (length r) m ≡ 0
  line-spare m h =
      ap (λ (s : Row). window s (length r) m) (symbols-octets n (levels (odd level) r))
      ∙ window_same (part (levels (odd level) r) 0 (n * 8)) (levels (odd level) r) (length r) (length r) m
      (λ k l. part-bit (levels (odd level) r) (n * 8) (length r + k) (omega arith))
      ∙ window-past (levels (odd level) r) (length r) m (omega (arith, length-levels (odd level) r))

-- ---- what was read

zero_bits : (r : Row) (at m k : ℕ) → window r at m ≡ 0 → k < m → get_or r (at + k) false ≡ false
unfolding window
zero_bits r at m k e h =
    sym (get_d_part r at m k h)
    ∙ ap (λ (s : Row). get_or s k false) (sym (rw (length_part r at m) at (big_bits-big (part r at m))) ∙ ap (big_bits m) e)
    ∙ get_or-big_bits m 0 k h ∙ rw (zero-div (2 ^ (m - suc k)))

module _ (level bits : ℕ) (line : List ℕ) (octal : Below 256 line) (fits : bits ≤ length line * 8)
    (spare : window (symbols line) bits (length line * 8 - bits) ≡ 0) where
  same_bit : (k : ℕ) → get_or (part (symbols line) 0 bits) k false ≡ get_or (symbols line) k false
  same_bit k = ⊎_elim past inside (order bits k)
    where
      inside : k < bits → get_or (part (symbols line) 0 bits) k false ≡ get_or (symbols line) k false
      inside h = part-bit (symbols line) bits k h

      past : bits ≤ k → get_or (part (symbols line) 0 bits) k false ≡ get_or (symbols line) k false
      past h =
          get_or-eq_default (part (symbols line) 0 bits) false {n = k} (omega (arith, length_part (symbols line) 0 bits))
          ∙ sym (⊎_elim out spare-bit (order (length line * 8) k))
        where
          out : length line * 8 ≤ k → get_or (symbols line) k false ≡ false
          out l = get_or-eq_default (symbols line) false {n = k} (omega (arith, length-chain (highest 8) line))

          spare-bit : k < length line * 8 → get_or (symbols line) k false ≡ false
          spare-bit l =
              let e : bits + (k - bits) ≡ k = omega arith in
              ap (λ i. get_or (symbols line) i false) (sym e) ∙ zero_bits (symbols line) bits (length line * 8 - bits) (k - bits) spare (omega arith)

  -- the row that a line carries, written again on as many octets, is the line
  pub line-again : octets (length line) (levels (odd level) (carried level bits line)) ≡ line
  unfolding carried
  line-again =
      ap (octets (length line)) (levels-changes (odd level) (part (symbols line) 0 bits)) ∙ same-octets ∙ octets-symbols line octal
    where
      same-octets : octets (length line) (part (symbols line) 0 bits) ≡ octets (length line) (symbols line)
      same-octets =
          ext_get_or 0 (octets (length line) (part (symbols line) 0 bits)) (octets (length line) (symbols line))
          (length-pack big 8 (length line) (part (symbols line) 0 bits) ∙ sym (length-pack big 8 (length line) (symbols line)))
          (λ j l. let h : j < length line = omega (arith, length-pack big 8 (length line) (part (symbols line) 0 bits)) in
          get_or-pack big 8 (length line) (part (symbols line) 0 bits) j h
          ∙ ap big (part_same (part (symbols line) 0 bits) (symbols line) (j * 8) (j * 8) 8 (λ k _. same_bit (j * 8 + k)))
          ∙ sym (get_or-pack big 8 (length line) (symbols line) j h))
