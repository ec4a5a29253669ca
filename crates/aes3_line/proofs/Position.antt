-- Octets whose symbols stand in a line from a position on are read as the line is there. Assumes nothing.
use mathlib.Core.Path.{◌≡◌, refl, sym, ap, ◌∙◌}
use mathlib.Core.Bool.{Bool, true, false, not}
use mathlib.Core.List.{List, [], ◌∷◌, ◌++◌}
use Prim.Native.Nat.{ℕ, zero, suc, ◌+◌, ◌*◌, ◌≤◌, ◌<◌}
use native.Mathlib.Nat.{zero-add, add-zero, add_assoc}
use native.Mathlib.Omega.{arith}
use lib.ListN.{length, take, drop, get_or, length-drop, take-append-drop, get_or-append}
use lib.Seq.{length-take-le, get_or-append-add}
use Rattle.bits.specs.Row.{Row, big_bits}
use Rattle.bits.specs.Window.{part}
use Rattle.bits.specs.Pack.{symbols}
use Rattle.bits.proofs.Windows.{part_same, part-all}
use Rattle.bits.proofs.Packing.{highest, chain-append, length-chain}
use Rattle.line.specs.Biphase.{left}
use Rattle.aes3_line.specs.Subframe.{subframe_read}
use Rattle.aes3_line.specs.Line.{leading, bodies_from, level_before, bodies_on}
use Rattle.aes3_line.specs.Position.{bodies_at}

-- n symbols of octets are those of a row from a position on
abbrev pub StandsAt : ℕ → List ℕ → Row → ℕ → Type 0
StandsAt n line r p = (k : ℕ) → k < n → get_or (symbols line) k false ≡ get_or r (p + k) false

module _ (line : List ℕ) (h : 8 ≤ length line) where
  abbrev front : Row
  front = symbols (take 8 line)

  abbrev back : Row
  back = symbols (drop 8 line)

  split : symbols line ≡ front ++ back
  split = ap symbols (sym (take-append-drop 8 line)) ∙ chain-append (big_bits 8) (take 8 line) (drop 8 line)

  long : length front ≡ 64
  long = length-chain (highest 8) (take 8 line) ∙ ap (λ (n : ℕ). n * 8) (length-take-le 8 line h)

  module _ (r : Row) (p n : ℕ) (stands : StandsAt (64 + n) line r p) where
    -- the first subframe's symbols
    first-stands : front ≡ part r p 64
    first-stands =
        sym (part-all front 64 long)
        ∙ part_same front r 0 p 64
        (λ k l. rw zero-add
        (sym (ap (λ (s : Row). get_or s k false) split ∙ get_or-append front back false k (omega (arith, long))) ∙ stands k (omega arith)))

    -- and those after it
    rest-stands : StandsAt n (drop 8 line) r (p + 64)
    rest-stands k l =
        let e : get_or (front ++ back) (64 + k) false ≡ get_or back k false = rw long at (get_or-append-add front back k false) in
        sym (ap (λ (s : Row). get_or s (64 + k) false) split ∙ e) ∙ stands (64 + k) (omega arith)
        ∙ ap (λ (i : ℕ). get_or r i false) (sym (add_assoc p 64 k))

pub read_at : (n i : ℕ) (l : Bool) (line : List ℕ) (r : Row) (p : ℕ) → n * 8 ≤ length line → StandsAt (n * 64) line r p
    → bodies_from n i l line ≡ bodies_at n i l r p
unfolding bodies_from bodies_at
read_at zero i l line r p h stands = refl
read_at (suc n) i l line r p h stands =
    let m : 8 ≤ length line = omega arith in
    let s : StandsAt (64 + n * 64) line r p = λ k q. stands k (omega arith) in
    rw (first-stands line m r p (n * 64) s)
    (ap (leading (subframe_read i l (part r p 64)))
    (read_at n (suc i) (left l (part r p 64)) (drop 8 line) r (p + 64) (rw (length-drop 8 line) (omega arith)) (rest-stands line m r p (n * 64) s)))

-- a whole block: after the opposite of the symbol at that position
pub block-read-at : (line : List ℕ) (r : Row) (p : ℕ) → length line ≡ 3072 → StandsAt 24576 line r p
    → bodies_on line ≡ bodies_at 384 0 (not (get_or r p false)) r p
unfolding bodies_on level_before
block-read-at line r p h stands =
    rw (first-symbol (symbols line) (omega (arith, length-chain (highest 8) line)) ∙ stands 0 (omega arith), add-zero p)
    (read_at 384 0 (not (get_or r p false)) line r p (omega arith) stands)
  where
    first-symbol : (s : Row) → 0 < length s → get_or s 0 true ≡ get_or s 0 false
    first-symbol [] l = absurd (omega arith)
    first-symbol (b ∷ s) l = refl
