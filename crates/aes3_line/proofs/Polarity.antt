-- A line with every symbol inverted is read as the same bodies, or refused for the same number and place. Assumes
-- nothing.
use mathlib.Core.Path.{◌≡◌, refl, sym, ap, ◌∙◌}
use mathlib.Core.Bool.{Bool, true, false, not}
use mathlib.Core.List.{List, [], ◌∷◌, map}
use Prim.Native.Nat.{ℕ, zero, suc, ◌-◌, ◌*◌, ◌≤◌, ◌<◌}
use native.Mathlib.Omega.{arith}
use lib.Dec.{eqb}
use lib.ListN.{length, take, drop, get_or, length-drop}
use lib.Seq.{length-take-le}
use Rattle.bits.specs.Row.{Row, big, Below}
use Rattle.bits.specs.Window.{window}
use Rattle.bits.specs.Pack.{symbols}
use Rattle.bits.proofs.Tests.{eqb_same}
use Rattle.bits.proofs.Windows.{part_in}
use Rattle.bits.proofs.Packing.{highest, length-chain}
use Rattle.bits.proofs.Bounds.{below-take, below-drop}
use Rattle.bits.proofs.Inverting.{length-map, take-map, drop-map, not-twice, big-same, symbols-inverted}
use Rattle.line.specs.Biphase.{left}
use Rattle.line.proofs.BiphaseLaws.{held-not, changing-not, left_not}
use Rattle.aes3_line.specs.Subframe.{preamble, body_held, subframe_read}
use Rattle.line.specs.Preamble.{after_level}
use Rattle.line.specs.Polarity.{inverted}
use Rattle.line.proofs.PreambleLaws.{after-0, after-1}
use Rattle.line.proofs.Inverted.{inverted-octets}
use Rattle.aes3_line.specs.Line.{bodies_from, level_before, bodies_on}
use Rattle.aes3_line.proofs.Preambles.{length-preamble, preamble-not}

-- ---- a subframe

window-take : (s : Row) → 8 ≤ length s → window s 0 8 ≡ big (take 8 s)
unfolding window
window-take s h = ap big (part_in s 0 8 (omega arith))

-- two rows of one length are the same exactly where they are inverted
same_not : (r s : Row) → length r ≡ length s → eqb (big (map not r)) (big (map not s)) ≡ eqb (big r) (big s)
same_not r s n =
    eqb_same (big (map not r)) (big (map not s)) (big r) (big s)
    (λ e. ap big (sym (not-twice r) ∙ ap (map not) (big-same (map not r) (map not s) (length-map not r ∙ n ∙ sym (length-map not s)) e) ∙ not-twice s))
    (λ e. ap (λ (t : Row). big (map not t)) (big-same r s n e))

pub read-not : (i : ℕ) (l : Bool) (s : Row) → 8 ≤ length s → subframe_read i (not l) (map not s) ≡ subframe_read i l s
unfolding subframe_read body_held
read-not i l s h =
    let n : length (take 8 s) ≡ length (preamble i l) = length-take-le 8 s h ∙ sym (length-preamble i l) in
    rw (
      window-take (map not s) (rw (length-map not s) h),
      window-take s h,
      take-map not 8 s,
      drop-map not 8 s,
      preamble-not i l,
      same_not (take 8 s) (preamble i l) n,
      left_not l (take 8 s),
      changing-not (left l (take 8 s)) (drop 8 s),
      held-not (drop 8 s),
    )

-- symbols are read after a level as what stands there after level 0
pub read-after : (i : ℕ) (l : Bool) (s : Row) → 8 ≤ length s → subframe_read i false (after_level l s) ≡ subframe_read i l s
read-after i true s h = rw after-1 (read-not i true s h)
read-after i false s h = rw after-0 refl

-- ---- a line

abbrev opposite : List ℕ → List ℕ
opposite os = map (λ o. 255 - o) os

from-not : (n i : ℕ) (l : Bool) (os : List ℕ) → length os ≡ n * 8 → Below 256 os → bodies_from n i (not l) (opposite os) ≡ bodies_from n i l os
unfolding bodies_from
from-not zero i l os len h = refl
from-not (suc n) i l os len h =
    let f = take 8 os in
    let k : length f ≡ 8 = length-take-le 8 os (omega arith) in
    let m : 8 ≤ length (symbols f) = omega (arith, length-chain (highest 8) f) in
    rw (
      take-map (λ (o : ℕ). 255 - o) 8 os,
      drop-map (λ (o : ℕ). 255 - o) 8 os,
      symbols-inverted f (below-take 256 8 os h),
      read-not i l (symbols f) m,
      left_not l (symbols f),
      from-not n (suc i) (left l (symbols f)) (drop 8 os) (rw length-drop (omega arith)) (below-drop 256 8 os h),
    )

first-not : (r : Row) → 0 < length r → get_or (map not r) 0 true ≡ not (get_or r 0 true)
first-not [] h = absurd (omega arith)
first-not (b ∷ r) h = refl

pub line-not : (os : List ℕ) → length os ≡ 3072 → Below 256 os → bodies_on (inverted os) ≡ bodies_on os
unfolding bodies_on level_before
line-not os n h =
    rw (inverted-octets os h)
    (ap (λ (l : Bool). bodies_from 384 0 (not l) (opposite os))
    (ap (λ (r : Row). get_or r 0 true) (symbols-inverted os h) ∙ first-not (symbols os) (omega (arith, length-chain (highest 8) os)))
    ∙ from-not 384 0 (not (get_or (symbols os) 0 true)) os n h)
