-- Whole lines there and back, over bodies, and the level that a line leaves. Assumes nothing.
use mathlib.Core.Path.{◌≡◌, refl, sym, ap, ◌∙◌, subst}
use mathlib.Core.Bool.{Bool, true, not}
use mathlib.Core.List.{List, [], ◌∷◌, ◌++◌}
use Prim.Native.Nat.{ℕ, zero, suc, ◌*◌}
use native.Mathlib.Omega.{arith}
use lib.ListN.{length, take, drop, get_or, length-append, length-drop, take-append-drop}
use lib.Seq.{take_at, drop_at, length-take-le}
use Rattle.bits.specs.Row.{Row, big_bits, big, Below}
use Rattle.bits.specs.Pack.{chain, octets, symbols}
use Rattle.bits.proofs.Windows.{part-all}
use Rattle.bits.proofs.Packing.{highest, chain-append, length-chain, length-pack, octets-symbols, symbols-octets}
use Rattle.bits.proofs.Bounds.{below-take, below-drop}
use Rattle.bits.proofs.Inverting.{not-not}
use Rattle.answer.specs.Answer.{Answer, Answer.accepted, Answer.refused}
use Rattle.answer.proofs.Chains.{not-both}
use Rattle.line.specs.Biphase.{left}
use Rattle.line.proofs.BiphaseLaws.{left-none, left-append}
use Rattle.subframe.specs.Body.{IsBody, Proper}
use Rattle.subframe.proofs.BodyTrips.{proper-zero, proper-body}
use Rattle.aes3_line.specs.Subframe.{subframe, subframe_read}
use Rattle.aes3_line.specs.Line.{line_from, leading, bodies_from, level_before, bodies_on}
use Rattle.aes3_line.proofs.Preambles.{length-subframe, subframe-begins}
use Rattle.aes3_line.proofs.LineLaws.{read-written, read-body, written_read, level-returns}

-- every number of a list is a body
abbrev pub Each : List ℕ → Type 0
Each bodies = (i : ℕ) → IsBody (get_or bodies i 0)

pub length-line : (i : ℕ) (l : Bool) (bs : List ℕ) → length (line_from i l bs) ≡ length bs * 8
unfolding line_from
length-line i l [] = refl
length-line i l (b ∷ bs) =
    let s = subframe i l b in
    rw (length-append (octets 8 s) (line_from (suc i) (left l s) bs), length-pack big 8 8 s, length-line (suc i) (left l s) bs) (omega arith)

-- the symbols of a line are those of its first subframe, and of the others
symbols-line : (i : ℕ) (l : Bool) (b : ℕ) (rest : List ℕ) → symbols (octets 8 (subframe i l b) ++ rest) ≡ subframe i l b ++ symbols rest
symbols-line i l b rest =
    chain-append (big_bits 8) (octets 8 (subframe i l b)) rest
    ∙ ap (λ (r : Row). r ++ symbols rest) (symbols-octets 8 (subframe i l b) ∙ part-all (subframe i l b) 64 (length-subframe i l b))

-- a line of even bodies leaves the level as it was
pub line-level : (i : ℕ) (l : Bool) (bs : List ℕ) → ((j : ℕ) → Proper (get_or bs j 0)) → left l (symbols (line_from i l bs)) ≡ l
unfolding line_from chain
line-level i l [] p = left-none l
line-level i l (b ∷ bs) p =
    let s = subframe i l b in
    rw (
      symbols-line i l b (line_from (suc i) (left l s) bs),
      left-append l s (symbols (line_from (suc i) (left l s) bs)),
      level-returns i l b (p 0),
    )
    (line-level (suc i) l bs (λ j. p (suc j)))

-- ---- reading what was written, from bodies even or odd

read-from : (i : ℕ) (l : Bool) (bs : List ℕ) → Each bs → bodies_from (length bs) i l (line_from i l bs) ≡ accepted bs
unfolding bodies_from line_from leading
read-from i l [] p = refl
read-from i l (b ∷ bs) p =
    let s = subframe i l b in
    let r = line_from (suc i) (left l s) bs in
    let n = length-pack big 8 8 s in
    let e : symbols (octets 8 s) ≡ s = symbols-octets 8 s ∙ part-all s 64 (length-subframe i l b) in
    rw (
      take_at (octets 8 s) r 8 n,
      drop_at (octets 8 s) r 8 n,
      e,
      read-written i l b (p 0),
      read-from (suc i) (left l s) bs (λ j. p (suc j)),
    )

-- the level before a line is the opposite of its first symbol
first-symbol : (l : Bool) (b : ℕ) (bs : List ℕ) → level_before (line_from 0 l (b ∷ bs)) ≡ l
unfolding level_before line_from
first-symbol l b bs =
    let rest = line_from 1 (left l (subframe 0 l b)) bs in
    ap (λ (r : Row). not (get_or r 0 true)) (symbols-line 0 l b rest) ∙ ap not (subframe-begins 0 l b (symbols rest)) ∙ not-not l

pub read_back : (l : Bool) (bs : List ℕ) → length bs ≡ 384 → Each bs → bodies_on (line_from 0 l bs) ≡ accepted bs
unfolding bodies_on
read_back l [] n p = absurd (omega arith)
read_back l (b ∷ bs) n p = rw (first-symbol l b bs, ← n) (read-from 0 l (b ∷ bs) p)

-- ---- writing what was read

-- where a subframe and those after it are accepted, each was
pub led : (a : Answer ℕ) (g : Answer (List ℕ)) (bs : List ℕ) → leading a g ≡ accepted bs
    → (b : ℕ) × (t : List ℕ) × (a ≡ accepted b) × (g ≡ accepted t) × (b ∷ t ≡ bs)
unfolding leading
led (accepted b) (accepted t) bs e = (b, t, refl, refl, cc)
led (accepted b) (refused n p) bs e = not-both e
led (refused n p) g bs e = not-both e

-- what was read of n subframes: n bodies, of which this line is written
pub record WasRead (n i : ℕ) (l : Bool) (os bs : List ℕ) : Type 0 where
  pub many : length bs ≡ n
  pub bodies : Each bs
  pub line : line_from i l bs ≡ os

each_more : (b : ℕ) (t : List ℕ) → IsBody b → Each t → Each (b ∷ t)
each_more b t p q zero = p
each_more b t p q (suc i) = q i

was_read : (n i : ℕ) (l : Bool) (os bs : List ℕ) → length os ≡ n * 8 → Below 256 os → bodies_from n i l os ≡ accepted bs → WasRead n i l os bs
unfolding bodies_from line_from
was_read zero i l [] bs len h e =
    let z : ◌≡◌ {A = List ℕ} [] bs = cc in
    subst (λ (t : List ℕ). WasRead 0 i l [] t) z (record { many = refl; bodies = λ j. proper-body 0 proper-zero; line = refl })
was_read zero i l (o ∷ os) bs len h e = absurd (omega arith)
was_read (suc m) i l os bs len h e =
    let f = take 8 os in
    let k : length f ≡ 8 = length-take-le 8 os (omega arith) in
    let j = led (subframe_read i l (symbols f)) (bodies_from m (suc i) (left l (symbols f)) (drop 8 os)) bs e in
    let n : length (symbols f) ≡ 64 = length-chain (highest 8) f ∙ ap (λ (x : ℕ). x * 8) k in
    let w : subframe i l j.0 ≡ symbols f = written_read i l (symbols f) j.0 n j.2 in
    let o : octets 8 (symbols f) ≡ f = rw k at (octets-symbols f (below-take 256 8 os h)) in
    let r : WasRead m (suc i) (left l (symbols f)) (drop 8 os) j.1 =
    was_read m (suc i) (left l (symbols f)) (drop 8 os) j.1 (rw length-drop (omega arith)) (below-drop 256 8 os h) j.3 in
    record {
      many = ap length (sym j.4) ∙ ap suc r.many;
      bodies = subst Each j.4 (each_more j.0 j.1 (read-body i l (symbols f) j.0 n j.2) r.bodies);
      line = rw (← j.4, w, o, r.line) (take-append-drop 8 os);
    }

-- what the reader of a block accepts: 384 bodies, of which this line is written after the level that the reader takes
pub write-back : (os bs : List ℕ) → length os ≡ 3072 → Below 256 os → bodies_on os ≡ accepted bs → WasRead 384 0 (level_before os) os bs
unfolding bodies_on
write-back os bs n h e = was_read 384 0 (level_before os) os bs n h e
