-- A line written frame by frame: the turn of the loop, and its end. Assumes nothing.
use mathlib.Core.Path.{◌≡◌, sym, ap, ap₂, ◌∙◌}
use mathlib.Core.Bool.{Bool}
use mathlib.Core.List.{List, ◌++◌, append_assoc, append-nil}
use Prim.Native.Nat.{ℕ, suc, ◌+◌, ◌≤◌, ◌<◌}
use native.Mathlib.Omega.{arith}
use native.Mathlib.Numerals.{add-one}
use lib.ListN.{length, take, drop, get_or, length-append, length-drop, drop_of_length-le}
use lib.Seq.{take_at, drop_at}
use Rattle.bits.specs.Row.{big}
use Rattle.bits.specs.Pack.{octets}
use Rattle.bits.proofs.Packing.{length-pack}
use Rattle.bits.proofs.Filling.{filled-part, filled-all}
use Rattle.subframe.specs.Body.{Proper}
use Rattle.aes3_line.specs.Subframe.{subframe}
use Rattle.aes3_line.specs.Line.{line_from}
use Rattle.aes3_line.proofs.Turns.{next-written, none_written}

-- two halves of sixteen octets, laid one after the other
pub halves-laid : (part o p : List ℕ) → length part ≡ 16 → length o ≡ 8
    → take 8 (o ++ drop 8 part) ++ (p ++ drop 8 (drop 8 (o ++ drop 8 part))) ≡ o ++ p
halves-laid part o p n m =
    let e : length (drop 8 part) ≤ 8 = rw (length-drop 8 part) (omega arith) in
    rw (take_at o (drop 8 part) 8 m, drop_at o (drop 8 part) 8 m, drop_of_length-le (drop 8 part) {i = 8} e, append-nil)

-- bodies i and i + 1 came back from the frame's writer as the octets o
module _ (bodies o : List ℕ) (i a b : ℕ) (l : Bool) (h : i + 1 < length bodies) (ea : a ≡ get_or bodies i 0) (eb : b ≡ get_or bodies (i + 1) 0)
    (pa : Proper a) (pb : Proper b) (e : o ≡ octets 8 (subframe i l a) ++ octets 8 (subframe (suc i) l b)) where
  next : line_from i l (drop i bodies) ≡ o ++ line_from (i + 2) l (drop (i + 2) bodies)
  next =
      let s : i + 2 ≡ suc (suc i) = omega arith in
      next-written bodies i a l (omega arith) ea pa
      ∙ ap (λ (r : List ℕ). octets 8 (subframe i l a) ++ r) (next-written bodies (suc i) b l (omega arith) (rw add-one at eb) pb)
      ∙ rw (s, e) (sym (append_assoc (octets 8 (subframe i l a)) (octets 8 (subframe (suc i) l b)) (line_from (suc (suc i)) l (drop (suc (suc i)) bodies))))

  frame-long : length o ≡ 16
  frame-long =
      ap length e ∙ length-append (octets 8 (subframe i l a)) (octets 8 (subframe (suc i) l b))
      ∙ ap₂ ◌+◌ (length-pack big 8 8 (subframe i l a)) (length-pack big 8 8 (subframe (suc i) l b))

  pub frame-turn : (part post whole : List ℕ) (n : ℕ) → n ≤ length part → take n part ++ line_from i l (drop i bodies) ≡ whole
      → take (n + 16) (take n part ++ (o ++ post)) ++ line_from (i + 2) l (drop (i + 2) bodies) ≡ whole
  frame-turn part post whole n m q = filled-part part o post (line_from (i + 2) l (drop (i + 2) bodies)) whole n 16 m frame-long (rw next at q)

pub all-written : (line bodies whole : List ℕ) (i n : ℕ) (l : Bool) → length bodies ≤ i → length line ≤ n
    → take n line ++ line_from i l (drop i bodies) ≡ whole → line ≡ whole
all-written line bodies whole i n l h g q = filled-all line whole n g (rw (none_written bodies i l h) at q)
