-- Levels and the lines that tell them: they are accepted together. Assumes nothing.
use mathlib.Core.Path.{◌≡◌, refl, sym, ap, ◌∙◌}
use mathlib.Core.Bool.{Bool, true, false, not, cond}
use mathlib.Core.Logic.{◌⊎◌, inl, inr, ⊎_elim}
use mathlib.Core.List.{List, [], ◌∷◌}
use Prim.Native.Nat.{ℕ, zero, suc, ◌*◌, ◌≤◌, ◌<◌, ◌^◌}
use native.Mathlib.Omega.{arith}
use borrow.Author.Tests.{ltb-true, leb-true, le-leb, lt-leb, lt-ltb, le-ltb, ne_eqb, eqb-true}
use lib.Dec.{eqb}
use lib.IntN.{ℤ, pos, negsuc, nat_abs, neg_ℤ, ◌+ℤ◌, ◌*ℤ◌}
use lib.ListN.{length}
use lib.Signed.{mag, le_z}
use mir.Syntax.{w64}
use mir.Val.{SFits, to_z, of_z, bool_byte}
use mir.Facts.{to_z-of_z}
use Rattle.std.specs.Prelude.{int_lt}
use Rattle.std.specs.Int.{int_min, int_max}
use Rattle.std.specs.Prelude.{Option, Some, None}
use Rattle.std.proofs.lemmas.Int.{fits_signed_mul}
use Rattle.bits.specs.Pick.{pick, first}
use Rattle.bits.specs.Row.{digit}
use Rattle.bits.specs.Listed.{listed}
use Rattle.bits.proofs.Lists.{listed-all}
use Rattle.bits.proofs.Tests.{order, both_true, no-yes}
use Rattle.levels.specs.Lines.{least, most, inside, low_of, high_of, mark_right, line_sound, line_at, joined_line, both}
use Rattle.levels.specs.Inner.{channel_lines, channel_sound, channel_joined, from_to, extremes_sound, counts_sound, levels_sound, levels_joined, Small}
use Rattle.levels.specs.declared.channel.Levels.{Levels}
use Rattle.levels.proofs.Accepted.{line_small, line-parts, head-parts, tail-reach}
use Rattle.levels.proofs.Wholes.{mag_sum}
use Rattle.levels.proofs.Channels.{iff, and, line-sound, lines-sound}

-- ---- a bound by two distances from 0, and by two numbers

kept : (b : Bool) → pick b true false ≡ b
kept true = refl
kept false = refl

natural : (h : ℕ) (x : ℤ) → inside 0 h x ≡ from_to (pos 0) (pos h) x
natural h (pos n) = rw (le-leb 0 n (omega arith))
natural h (negsuc n) = iff _ _ (λ e. absurd (omega (arith, ltb-true n 0 e))) (λ e. no-yes false refl e)

whole : (l h : ℕ) (x : ℤ) → inside (suc l) h x ≡ from_to (negsuc l) (pos h) x
whole l h (pos n) = refl
whole l h (negsuc n) =
    iff _ _ (λ e. and (le-leb n l (omega (arith, ltb-true n (suc l) e))) refl)
    (λ e. lt-ltb n (suc l) (omega (arith, leb-true n l (both_true _ _ e).0)))

either : (k : ℕ) → 0 < k → (x : ℤ) → inside k k x ≡ from_to (neg_ℤ (pos k)) (pos k) x
either zero h x = absurd (omega arith)
either (suc t) h x = whole t (suc t) x

-- ---- a line of a channel with n samples, of which there are some

module _ (n : ℕ) (some : 0 < n) (x : ℤ) where
  has : eqb n 0 ≡ false
  has = ne_eqb n 0 (λ e. omega arith)

  unmarked : line_sound 1 n x ≡ inside 0 0 x
  unfolding line_sound low_of high_of mark_right
  unmarked = rw (has, kept)

  extreme : (j : ℕ) → (j ≡ 2) ⊎ (j ≡ 3) → line_sound j n x ≡ from_to (negsuc 8388607) (pos 8388607) x
  unfolding line_sound low_of high_of mark_right
  extreme j o =
      ⊎_elim (λ (e : j ≡ 2). rw e (rw has (kept _ ∙ whole 8388607 8388607 x)))
      (λ (e : j ≡ 3). rw e (rw has (kept _ ∙ whole 8388607 8388607 x))) o

  size : line_sound 4 n x ≡ from_to (pos 0) (pos 8388608) x
  unfolding line_sound low_of high_of mark_right
  size = rw has (kept _ ∙ natural 8388608 x)

  total : line_sound 5 n x ≡ from_to (negsuc 8388607 *ℤ pos n) (pos 8388608 *ℤ pos n) x
  unfolding line_sound low_of high_of mark_right
  total = kept _ ∙ either (8388608 * n) (omega arith) x

  counted : (j : ℕ) → 6 ≤ j → j < 10 → line_sound j n x ≡ from_to (pos 0) (pos n) x
  unfolding line_sound low_of high_of mark_right
  counted j h l =
      rw (
        ne_eqb j 0 (λ e. omega arith),
        ne_eqb j 1 (λ e. omega arith),
        ne_eqb j 2 (λ e. omega arith),
        ne_eqb j 3 (λ e. omega arith),
        ne_eqb j 4 (λ e. omega arith),
        ne_eqb j 5 (λ e. omega arith),
      )
      (kept _ ∙ natural n x)

-- ---- levels

-- the samples of levels that are accepted
head : (x : ℤ) → from_to (pos 1) (pos 4294967296) x ≡ true → (x ≡ pos (nat_abs x)) × (0 < nat_abs x) × (nat_abs x ≤ 4294967296)
head (pos n) e = let p = both_true _ _ e in (refl, omega (arith, leb-true 1 n p.0), leb-true n 4294967296 p.1)
head (negsuc n) e = no-yes false refl e

first-line : (n : ℕ) → n ≤ 4294967296 → line_sound 0 n (pos n) ≡ true
unfolding line_sound low_of high_of mark_right
first-line n h = rw (le-leb n 4294967296 h)

pub none-sound : channel_sound (channel_lines None) ≡ true
unfolding channel_sound first line_sound low_of high_of mark_right
none-sound = refl

pub some-sound : (l : Levels) → levels_sound l ≡ true → channel_sound (channel_lines (Some l)) ≡ true
some-sound l e = lines-sound (channel_lines (Some l)) each
  where
    p : ((from_to (pos 1) (pos 4294967296) l.samples ≡ true) × (from_to (negsuc 8388607 *ℤ l.samples) (pos 8388608 *ℤ l.samples) l.total ≡ true))
        × (extremes_sound l ≡ true) × (counts_sound l ≡ true)
    p =
        let a = both_true _ (counts_sound l) e in
        let b = both_true _ (extremes_sound l) a.0 in
        (both_true _ _ b.0, b.1, a.1)

    q : (l.samples ≡ pos (nat_abs l.samples)) × (0 < nat_abs l.samples) × (nat_abs l.samples ≤ 4294967296)
    q = head l.samples p.0.0

    ext : ((from_to (negsuc 8388607) (pos 8388607) l.smallest ≡ true) × (from_to (negsuc 8388607) (pos 8388607) l.largest ≡ true))
        × (from_to (pos 0) (pos 8388608) l.magnitude ≡ true)
    ext = let a = both_true _ (from_to (pos 0) (pos 8388608) l.magnitude) p.1 in (both_true _ _ a.0, a.1)

    cnt : ((from_to (pos 0) l.samples l.ends ≡ true) × (from_to (pos 0) l.samples l.v_frames ≡ true)) × (from_to (pos 0) l.samples l.e_frames ≡ true)
        × (from_to (pos 0) l.samples l.right ≡ true)
    cnt =
        let a = both_true _ (from_to (pos 0) l.samples l.right) p.2 in
        let b = both_true _ (from_to (pos 0) l.samples l.e_frames) a.0 in
        (both_true _ _ b.0, b.1, a.1)

    count : (j : ℕ) (x : ℤ) → 6 ≤ j → j < 10 → from_to (pos 0) l.samples x ≡ true → line_sound j (nat_abs l.samples) x ≡ true
    count j x h i t = counted (nat_abs l.samples) q.1 x j h i ∙ ap (λ (z : ℤ). from_to (pos 0) z x) (sym q.0) ∙ t

    each : (j : ℕ) → j < 10 → line_sound j (nat_abs l.samples) (line_at (channel_lines (Some l)) j) ≡ true
    each zero h = ap (λ (z : ℤ). line_sound 0 (nat_abs l.samples) z) q.0 ∙ first-line (nat_abs l.samples) q.2
    each (suc zero) h = unmarked (nat_abs l.samples) q.1 (pos 0)
    each (suc (suc zero)) h = extreme (nat_abs l.samples) q.1 l.smallest 2 (inl refl) ∙ ext.0.0
    each (suc (suc (suc zero))) h = extreme (nat_abs l.samples) q.1 l.largest 3 (inr refl) ∙ ext.0.1
    each (suc (suc (suc (suc zero)))) h = size (nat_abs l.samples) q.1 l.magnitude ∙ ext.1
    each (suc (suc (suc (suc (suc zero))))) h =
        total (nat_abs l.samples) q.1 l.total
        ∙ ap (λ (z : ℤ). from_to (negsuc 8388607 *ℤ z) (pos 8388608 *ℤ z) l.total) (sym q.0) ∙ p.0.1
    each (suc (suc (suc (suc (suc (suc zero)))))) h = count 6 l.ends (omega arith) (omega arith) cnt.0.0
    each (suc (suc (suc (suc (suc (suc (suc zero))))))) h = count 7 l.v_frames (omega arith) (omega arith) cnt.0.1
    each (suc (suc (suc (suc (suc (suc (suc (suc zero)))))))) h = count 8 l.e_frames (omega arith) (omega arith) cnt.1
    each (suc (suc (suc (suc (suc (suc (suc (suc (suc zero))))))))) h = count 9 l.right (omega arith) (omega arith) cnt.2
    each (suc (suc (suc (suc (suc (suc (suc (suc (suc (suc j)))))))))) h = absurd (omega arith)

-- ---- ten lines, told apart

-- the levels that they tell, if they tell some
abbrev pub levels_in : List ℤ → Levels
levels_in s =
    record {
      samples = line_at s 0;
      smallest = line_at s 2;
      largest = line_at s 3;
      magnitude = line_at s 4;
      total = line_at s 5;
      ends = line_at s 6;
      v_frames = line_at s 7;
      e_frames = line_at s 8;
      right = line_at s 9;
    }

pub spread : (s : List ℤ) → length s ≡ 10
    → line_at s 0 ∷ line_at s 1 ∷ line_at s 2 ∷ line_at s 3 ∷ line_at s 4 ∷ line_at s 5 ∷ line_at s 6 ∷ line_at s 7 ∷ line_at s 8 ∷ line_at s 9 ∷ [] ≡ s
unfolding listed
spread s n = listed-all 10 (line_at s) s (pos 0) n (λ i h. refl)

nothing : (x : ℤ) → inside 0 0 x ≡ true → x ≡ pos 0
nothing (pos n) e = ap pos (omega (arith, leb-true n 0 e))
nothing (negsuc n) e = absurd (omega (arith, ltb-true n 0 e))

module _ (s : List ℤ) (n : length s ≡ 10) (e : channel_sound s ≡ true) where
  abbrev m : ℕ
  m = nat_abs (line_at s 0)

  at : (j : ℕ) → j < 10 → line_sound j m (line_at s j) ≡ true
  at j h = line-sound s e j h

  first-is : (m ≤ 4294967296) × (line_at s 0 ≡ pos m)
  first-is = head-parts m (line_at s 0) (at 0 (omega arith))

  marked-one : (x : ℤ) → line_sound 1 0 x ≡ true → x ≡ pos 1
  unfolding line_sound low_of high_of mark_right
  marked-one (pos k) t = ap pos (eqb-true k 1 (line-parts 1 0 (pos k) t).1)
  marked-one (negsuc k) t = absurd (omega (arith, ltb-true k 0 (line-parts 1 0 (negsuc k) t).0))

  empty-line : (j : ℕ) → 2 ≤ j → j < 10 → (x : ℤ) → line_sound j 0 x ≡ true → x ≡ pos 0
  unfolding line_sound low_of high_of mark_right
  empty-line zero h l x t = absurd (omega arith)
  empty-line (suc zero) h l x t = absurd (omega arith)
  empty-line (suc (suc zero)) h l x t = nothing x (line-parts 2 0 x t).0
  empty-line (suc (suc (suc zero))) h l x t = nothing x (line-parts 3 0 x t).0
  empty-line (suc (suc (suc (suc zero)))) h l x t = nothing x (line-parts 4 0 x t).0
  empty-line (suc (suc (suc (suc (suc zero))))) h l x t = nothing x (line-parts 5 0 x t).0
  empty-line (suc (suc (suc (suc (suc (suc j)))))) h l x t =
      let r = tail-reach (suc (suc (suc (suc (suc (suc j)))))) 0 (omega arith) in
      nothing x (rw (r.0, r.1) at (line-parts (suc (suc (suc (suc (suc (suc j)))))) 0 x t).0)

  -- with no samples
  module _ (z : m ≡ 0) where
    blank : (j : ℕ) → 2 ≤ j → j < 10 → line_at s j ≡ pos 0
    blank j h l = empty-line j h l (line_at s j) (ap (λ (i : ℕ). line_sound j i (line_at s j)) (sym z) ∙ at j l)

    pub is-none : channel_lines None ≡ s
    is-none =
        let a : line_at s 0 ≡ pos 0 = first-is.1 ∙ ap pos z in
        let b : line_at s 1 ≡ pos 1 = marked-one (line_at s 1) (ap (λ (i : ℕ). line_sound 1 i (line_at s 1)) (sym z) ∙ at 1 (omega arith)) in
        let c2 = blank 2 (omega arith) (omega arith) in
        let c3 = blank 3 (omega arith) (omega arith) in
        let c4 = blank 4 (omega arith) (omega arith) in
        let c5 = blank 5 (omega arith) (omega arith) in
        let c6 = blank 6 (omega arith) (omega arith) in
        let c7 = blank 7 (omega arith) (omega arith) in
        let c8 = blank 8 (omega arith) (omega arith) in
        let c9 = blank 9 (omega arith) (omega arith) in
        let w = spread s n in
        cc

  -- with some
  module _ (z : 0 < m) where
    pub is-unmarked : line_at s 1 ≡ pos 0
    is-unmarked = nothing (line_at s 1) (sym (unmarked m z (line_at s 1)) ∙ at 1 (omega arith))

    tail : (j : ℕ) → 6 ≤ j → (h : j < 10) → from_to (pos 0) (line_at s 0) (line_at s j) ≡ true
    tail j l h =
        ap (λ (y : ℤ). from_to (pos 0) y (line_at s j)) first-is.1 ∙ sym (counted m z (line_at s j) j l h) ∙ at j h

    few : (k : ℕ) → 0 < k → k ≤ 4294967296 → from_to (pos 1) (pos 4294967296) (pos k) ≡ true
    few k l h = and (le-leb 1 k l) (le-leb k 4294967296 h)

    pub is-sound : levels_sound (levels_in s) ≡ true
    is-sound =
        and
        (and
        (and (ap (from_to (pos 1) (pos 4294967296)) first-is.1 ∙ few m z first-is.0)
        (ap (λ (y : ℤ). from_to (negsuc 8388607 *ℤ y) (pos 8388608 *ℤ y) (line_at s 5)) first-is.1
        ∙ sym (total m z (line_at s 5)) ∙ at 5 (omega arith)))
        (and
        (and (sym (extreme m z (line_at s 2) 2 (inl refl)) ∙ at 2 (omega arith)) (sym (extreme m z (line_at s 3) 3 (inr refl)) ∙ at 3 (omega arith)))
        (sym (size m z (line_at s 4)) ∙ at 4 (omega arith))))
        (and (and (and (tail 6 (omega arith) (omega arith)) (tail 7 (omega arith) (omega arith))) (tail 8 (omega arith) (omega arith)))
        (tail 9 (omega arith) (omega arith)))

  pub told-apart : (channel_lines None ≡ s) ⊎ ((line_at s 1 ≡ pos 0) × (levels_sound (levels_in s) ≡ true))
  told-apart =
      ⊎_elim (λ (z : 1 ≤ m). inr (is-unmarked (omega arith), is-sound (omega arith))) (λ (z : m < 1). inl (is-none (omega arith))) (order 1 m)

pub told-some : (s : List ℤ) → length s ≡ 10 → line_at s 1 ≡ pos 0 → levels_sound (levels_in s) ≡ true
    → (channel_sound s ≡ true) × (channel_lines (Some (levels_in s)) ≡ s)
told-some s n z t =
    let w : channel_lines (Some (levels_in s)) ≡ s = rw z at (spread s n) in
    (ap channel_sound (sym w) ∙ some-sound (levels_in s) t, w)

-- ---- a channel that is accepted

pub length-lines : (c : Option Levels) → length (channel_lines c) ≡ 10
length-lines None = refl
length-lines (Some l) = refl

-- its samples
pub head-few : (c : Option Levels) → channel_sound (channel_lines c) ≡ true
    → (line_at (channel_lines c) 0 ≡ pos (nat_abs (line_at (channel_lines c) 0))) × (nat_abs (line_at (channel_lines c) 0) ≤ 4294967296)
head-few c e = let r = first-is (channel_lines c) (length-lines c) e in (r.1, r.0)

module _ (l : Levels) (e : channel_sound (channel_lines (Some l)) ≡ true) where
  pub has-some : 0 < nat_abs l.samples
  has-some =
      ⊎_elim (λ (z : 1 ≤ nat_abs l.samples). omega arith)
      (λ (z : nat_abs l.samples < 1).
      let w = ap (λ s. line_at s 1) (is-none (channel_lines (Some l)) refl e (omega arith)) in
      let b : ◌≡◌ {A = ℤ} (pos 1) (pos 0) = w in
      absurd cc) (order 1 (nat_abs l.samples))

  small : (j : ℕ) → j < 10 → mag (line_at (channel_lines (Some l)) j) < 2 ^ 60
  small j h = line_small j (nat_abs l.samples) _ (head-few (Some l) e).1 (line-sound (channel_lines (Some l)) e j h)

  pub all-small : Small l
  all-small = (
    small 0 (omega arith),
    small 5 (omega arith),
    small 6 (omega arith),
    small 7 (omega arith),
    small 8 (omega arith),
    small 9 (omega arith),
  )

-- ---- two stretches

pub joined-none : (c : Option Levels) → channel_lines c ≡ channel_joined (channel_lines None) (channel_lines c)
unfolding channel_joined listed joined_line
joined-none None = refl
joined-none (Some l) = refl

pub joined-some : (x : Levels) → 0 < nat_abs x.samples → channel_lines (Some x) ≡ channel_joined (channel_lines (Some x)) (channel_lines None)
unfolding channel_joined listed joined_line
joined-some x h = rw (ne_eqb (nat_abs x.samples) 0 (λ e. omega arith))

pub joined-both : (x y : Levels) → 0 < nat_abs x.samples → 0 < nat_abs y.samples
    → channel_lines (Some (levels_joined x y)) ≡ channel_joined (channel_lines (Some x)) (channel_lines (Some y))
unfolding channel_joined listed joined_line both
joined-both x y h k = rw (ne_eqb (nat_abs x.samples) 0 (λ e. omega arith), ne_eqb (nat_abs y.samples) 0 (λ e. omega arith))

-- ---- numbers as the code has them

pub back : (z : ℤ) → mag z < 2 ^ 63 → to_z w64 (of_z w64 z) ≡ z
back z h = to_z-of_z {w = w64} {z = z} (record { sfits = h })

pub sum-fits : (x y : ℤ) → mag x < 2 ^ 60 → mag y < 2 ^ 60 → SFits w64 (x +ℤ y)
sum-fits x y h k = record { sfits = omega (arith, mag_sum x y) }

pub sum-back : (x y : ℤ) → mag x < 2 ^ 60 → mag y < 2 ^ 60 → to_z w64 (of_z w64 (to_z w64 (of_z w64 x) +ℤ to_z w64 (of_z w64 y))) ≡ x +ℤ y
sum-back x y h k = rw (back x (omega arith), back y (omega arith)) (to_z-of_z (sum-fits x y h k))

order-is : (x y : ℤ) → int_lt y x ≡ not (le_z x y)
order-is (pos a) (pos b) = ⊎_elim (λ (h : a ≤ b). rw (le-leb a b h) (le-ltb b a h)) (λ (h : b < a). rw (lt-leb a b h) (lt-ltb b a h)) (order a b)
order-is (pos a) (negsuc b) = refl
order-is (negsuc a) (pos b) = refl
order-is (negsuc a) (negsuc b) = ⊎_elim (λ (h : b ≤ a). rw (le-leb b a h) (le-ltb a b h)) (λ (h : a < b). rw (lt-leb b a h) (lt-ltb a b h)) (order b a)

chosen : {A : Type 0} (t : Bool) (x y : A) → cond (not t) y x ≡ pick t x y
chosen true x y = refl
chosen false x y = refl

turned-over : {A : Type 0} (t : Bool) (x y : A) → cond (not t) x y ≡ pick t y x
turned-over true x y = refl
turned-over false x y = refl

pub least-is : (x y : ℤ) → int_min x y ≡ least x y
least-is x y = rw (order-is x y) (chosen (le_z x y) x y)

pub most-is : (x y : ℤ) → int_max x y ≡ most x y
most-is x y = rw (order-is x y) (turned-over (le_z x y) x y)

pub low-back : (r a b : ℤ) → mag r < 2 ^ 63 → mag a < 2 ^ 63 → mag b < 2 ^ 63
    → r ≡ int_min (to_z w64 (of_z w64 a)) (to_z w64 (of_z w64 b)) → to_z w64 (of_z w64 r) ≡ least a b
low-back r a b f g h e = back r f ∙ e ∙ rw (back a g, back b h) (least-is a b)

pub high-back : (r a b : ℤ) → mag r < 2 ^ 63 → mag a < 2 ^ 63 → mag b < 2 ^ 63
    → r ≡ int_max (to_z w64 (of_z w64 a)) (to_z w64 (of_z w64 b)) → to_z w64 (of_z w64 r) ≡ most a b
high-back r a b f g h e = back r f ∙ e ∙ rw (back a g, back b h) (most-is a b)

pub reach-fits : (x : ℤ) → from_to (pos 1) (pos 4294967296) x ≡ true → SFits w64 (negsuc 8388607 *ℤ x) × SFits w64 (pos 8388608 *ℤ x)
reach-fits x e =
    let r = head x e in (
      fits_signed_mul w64 (negsuc 8388607) x 8388608 4294967296 (omega arith) r.2 (omega arith),
      fits_signed_mul w64 (pos 8388608) x 8388608 4294967296 (omega arith) r.2 (omega arith),
    )

pub byte-digit : (b : Bool) → bool_byte b ≡ digit b
byte-digit true = refl
byte-digit false = refl
