-- A line written and read subframe by subframe: the next one, and the end. Assumes nothing.
use mathlib.Core.Path.{◌≡◌, refl, sym, ap, ◌∙◌}
use mathlib.Core.Bool.{Bool, not}
use mathlib.Core.List.{List, [], ◌∷◌, ◌++◌, append_assoc, append-nil}
use Prim.Native.Nat.{ℕ, zero, suc, ◌+◌, ◌-◌, ◌*◌, ◌/◌, ◌≤◌, ◌<◌}
use native.Mathlib.Omega.{arith}
use native.Mathlib.Numerals.{add-one}
use lib.ListN.{length, take, drop, set, get_or, length-take, length-drop, drop_of_length-le}
use lib.Seq.{drop-cons, drop-drop, take-suc-set, take_all}
use Rattle.bits.specs.Row.{Row, odd, big_bits, big}
use Rattle.bits.specs.Pack.{chain, octets, symbols}
use Rattle.bits.proofs.Rows.{big_bits-big}
use Rattle.bits.proofs.Packing.{highest, length-chain}
use Rattle.answer.specs.Answer.{Answer, Answer.accepted, Answer.refused}
use Rattle.line.specs.Biphase.{left}
use Rattle.line.proofs.BiphaseLaws.{left-big}
use Rattle.subframe.specs.Body.{Proper}
use Rattle.aes3_line.specs.Subframe.{subframe, subframe_read}
use Rattle.aes3_line.specs.Line.{line_from, leading, bodies_from, level_before, bodies_on}
use Rattle.aes3_line.proofs.LineLaws.{level-returns}

-- ---- writing

-- a proper body leaves the level as it was
pub next-written : (bodies : List ℕ) (i b : ℕ) (l : Bool) → i < length bodies → b ≡ get_or bodies i 0 → Proper b
    → line_from i l (drop i bodies) ≡ octets 8 (subframe i l b) ++ line_from (suc i) l (drop (suc i) bodies)
unfolding line_from
next-written bodies i b l h e p = rw (drop-cons bodies i 0 h, ← e, level-returns i l b p)

pub none_written : (bodies : List ℕ) (i : ℕ) (l : Bool) → length bodies ≤ i → line_from i l (drop i bodies) ≡ []
unfolding line_from
none_written bodies i l h = rw (drop_of_length-le bodies {i = i} h)

-- ---- the level at the start, and after a subframe

first-level : (line : List ℕ) → 0 < length line → level_before line ≡ not (odd (get_or line 0 0 / 128))
unfolding level_before chain big_bits
first-level [] h = absurd (omega arith)
first-level (o ∷ line) h = refl

opposite : (y : ℕ) → y < 2 → odd (1 - y) ≡ not (odd y)
opposite zero h = refl
opposite (suc zero) h = refl
opposite (suc (suc y)) h = absurd (omega arith)

pub level-start : (line : List ℕ) → 0 < length line → get_or line 0 0 < 256 → odd (1 - get_or line 0 0 / 128) ≡ level_before line
level-start line h o = opposite (get_or line 0 0 / 128) (omega arith) ∙ sym (first-level line h)

-- the level that symbols leave is the lowest bit of their number
left-whole : (l : Bool) (r : Row) → 0 < length r → left l r ≡ odd (big r)
left-whole l [] h = absurd (omega arith)
left-whole l (a ∷ s) h = left-big l a s

-- ---- bodies that were read already, in front of what reading the rest gives

abbrev pub front : List ℕ → Answer (List ℕ) → Answer (List ℕ)
front xs (Answer.accepted bs) = accepted (xs ++ bs)
front xs (Answer.refused n p) = refused n p

front-none : (g : Answer (List ℕ)) → front [] g ≡ g
front-none (accepted bs) = refl
front-none (refused n p) = refl

pub read-start : (line : List ℕ) (l : Bool) → l ≡ level_before line → front [] (bodies_from 384 0 l line) ≡ bodies_on line
unfolding bodies_on
read-start line l e = front-none (bodies_from 384 0 l line) ∙ ap (λ k. bodies_from 384 0 k line) e

front-more : (xs : List ℕ) (i b : ℕ) (g : Answer (List ℕ)) → i < length xs
    → front (take (i + 1) (set xs i b)) g ≡ front (take i xs) (leading (accepted b) g)
unfolding leading
front-more xs i b (accepted bs) h = rw (add-one i, take-suc-set xs i b h, append_assoc)
front-more xs i b (refused n p) h = refl

module _ (line : List ℕ) (i level : ℕ) (h : i < 384) (len : length line ≡ 3072) where
  abbrev lent : List ℕ
  lent = take (i * 8 + 8 - i * 8) (drop (i * 8) line)

  eight : i * 8 + 8 - i * 8 ≡ 8
  eight = omega arith

  pub length-lent : length lent ≡ 8
  length-lent = rw (eight, length-take, length-drop) (omega arith)

  -- the subframes after it, after a level
  abbrev later : Bool → Answer (List ℕ)
  later l = bodies_from (384 - (i + 1)) (i + 1) l (drop ((i + 1) * 8) line)

  next-read : bodies_from (384 - i) i (odd level) (drop (i * 8) line)
      ≡ leading (subframe_read i (odd level) (symbols lent)) (later (left (odd level) (symbols lent)))
  unfolding bodies_from
  next-read =
      let m : 384 - i ≡ suc (384 - (i + 1)) = omega arith in
      let d : (i + 1) * 8 ≡ i * 8 + 8 = omega arith in
      rw (eight, m, d, add-one i, ← drop-drop 8 (i * 8) line)

  -- its 64 symbols, as a number and back
  module _ (w : ℕ) (is : w ≡ big (symbols lent)) where
    long : length (symbols lent) ≡ 64
    long = length-chain (highest 8) lent ∙ rw length-lent

    pub lent-symbols : big_bits 64 w ≡ symbols lent
    lent-symbols = ap (big_bits 64) is ∙ rw long at (big_bits-big (symbols lent))

    -- the next one is read after the level that stands on the line
    pub read-turn : (bodies : List ℕ) (b : ℕ) (whole : Answer (List ℕ)) → i < length bodies → subframe_read i (odd level) (symbols lent) ≡ accepted b
        → front (take i bodies) (bodies_from (384 - i) i (odd level) (drop (i * 8) line)) ≡ whole
        → front (take (i + 1) (set bodies i b)) (later (odd w)) ≡ whole
    read-turn bodies b whole m e q =
        let left-lent : left (odd level) (symbols lent) ≡ odd w = left-whole (odd level) (symbols lent) (omega (arith, long)) ∙ ap odd (sym is) in
        front-more bodies i b (later (odd w)) m ∙ rw (next-read, left-lent, e) at q

  pub read-stop : (bodies : List ℕ) (n p : ℕ) (whole : Answer (List ℕ)) → subframe_read i (odd level) (symbols lent) ≡ refused n p
      → front (take i bodies) (bodies_from (384 - i) i (odd level) (drop (i * 8) line)) ≡ whole → refused n p ≡ whole
  unfolding leading
  read-stop bodies n p whole e q = rw (next-read, e) at q

pub read_done : (line bodies : List ℕ) (i level : ℕ) (whole : Answer (List ℕ)) → i ≡ 384 → length bodies ≡ 384
    → front (take i bodies) (bodies_from (384 - i) i (odd level) (drop (i * 8) line)) ≡ whole → accepted bodies ≡ whole
unfolding bodies_from
read_done line bodies i level whole e n q =
    ap accepted (sym (append-nil (take 384 bodies) ∙ take_all 384 bodies (omega arith))) ∙ rw e at q
