-- What start and join leave is accepted again. Assumes nothing.
use mathlib.Core.Path.{◌≡◌, refl, sym, ap}
use mathlib.Core.Bool.{true, false, not}
use mathlib.Core.Logic.{⊎_elim}
use mathlib.Core.List.{List}
use Prim.Native.Nat.{ℕ, zero, suc, ◌+◌, ◌*◌, ◌-◌, ◌/◌, ◌%◌, ◌≤◌, ◌<◌}
use native.Mathlib.Nat.{zero-add, add-zero}
use native.Mathlib.Omega.{arith}
use borrow.Author.Tests.{lt-ltb, ltb-true, leb-true, le-leb, ne_eqb}
use lib.Dec.{eqb}
use lib.IntN.{ℤ, pos, negsuc, nat_abs, sub_ℕ, ◌+ℤ◌}
use lib.ListN.{length}
use lib.Signed.{le_z}
use Rattle.bits.specs.Pick.{first}
use Rattle.bits.specs.Listed.{listed}
use Rattle.bits.proofs.Tests.{order, pick-cases}
use Rattle.answer.specs.Answer.{Answer.accepted}
use Rattle.answer.proofs.Chains.{met}
use Rattle.levels.specs.Lines.{least, most, both, joined_line, inside, low_of, high_of}
use Rattle.levels.specs.Lines.{mark_right, line_sound, line_at, samples_on, sheet_sound, sheet_joined, empty_sheet}
use Rattle.levels.specs.Calls.{has_room, join_demands, join_answer, start_answer}
use Rattle.levels.proofs.Wholes.{sub-above, sub-below}
use Rattle.levels.proofs.Accepted.{sound-at, all_sound, line-parts, line_made, head-parts, head-sound, tail-reach}
use Rattle.levels.proofs.Joining.{none_left, none_right, some-both, head-joined}
use Rattle.levels.proofs.Places.{length-joined, at_joined, length-empty}

-- ---- values between two bounds

inside-sub : (l h a b : ℕ) → a ≤ h → b < l → inside l h (sub_ℕ a (suc b)) ≡ true
inside-sub l h a b p q =
    ⊎_elim (λ (o : suc b ≤ a). rw (sub-above a (suc b) o) (le-leb (a - suc b) h (omega arith)))
    (λ (o : a < suc b). rw (sub-below a (suc b) o) (lt-ltb (suc b - suc a) l (omega arith))) (order (suc b) a)

inside-sum : (l h m k : ℕ) (x y : ℤ) → inside l h x ≡ true → inside m k y ≡ true → inside (l + m) (h + k) (x +ℤ y) ≡ true
inside-sum l h m k (pos a) (pos b) e f = le-leb (a + b) (h + k) (omega (arith, leb-true a h e, leb-true b k f))
inside-sum l h m k (pos a) (negsuc b) e f =
    inside-sub (l + m) (h + k) a b (omega (arith, leb-true a h e)) (omega (arith, ltb-true b m f))
inside-sum l h m k (negsuc a) (pos b) e f =
    inside-sub (l + m) (h + k) b a (omega (arith, leb-true b k f)) (omega (arith, ltb-true a l e))
inside-sum l h m k (negsuc a) (negsuc b) e f =
    lt-ltb (suc (a + b)) (l + m) (omega (arith, ltb-true a l e, ltb-true b m f))

inside-least : (l h : ℕ) (x y : ℤ) → inside l h x ≡ true → inside l h y ≡ true → inside l h (least x y) ≡ true
inside-least l h x y e f = pick-cases (λ (z : ℤ). inside l h z ≡ true) (le_z x y) x y (λ t. e) (λ t. f)

inside-most : (l h : ℕ) (x y : ℤ) → inside l h x ≡ true → inside l h y ≡ true → inside l h (most x y) ≡ true
inside-most l h x y e f = pick-cases (λ (z : ℤ). inside l h z ≡ true) (le_z x y) y x (λ t. f) (λ t. e)

-- ---- a line of two stretches that have samples

module _ (m n : ℕ) (hm : 0 < m) (hn : 0 < n) (x y : ℤ) where
  m-some : eqb m 0 ≡ false
  m-some = ne_eqb m 0 (λ e. omega arith)

  n-some : eqb n 0 ≡ false
  n-some = ne_eqb n 0 (λ e. omega arith)

  some : eqb (m + n) 0 ≡ false
  some = ne_eqb (m + n) 0 (λ e. omega arith)

  zero-kept : m + n ≤ 4294967296 → x ≡ pos m → y ≡ pos n → line_sound 0 (m + n) (both 0 x y) ≡ true
  unfolding both low_of high_of mark_right
  zero-kept h e f = rw (e, f) (line_made 0 (m + n) (pos (m + n)) (le-leb (m + n) 4294967296 h) refl)

  one_kept : line_sound 1 m x ≡ true → line_sound 1 n y ≡ true → line_sound 1 (m + n) (both 1 x y) ≡ true
  unfolding both low_of high_of mark_right
  one_kept e f =
      line_made 1 (m + n) (x +ℤ y)
      (rw some (inside-sum 0 0 0 0 x y (rw m-some at (line-parts 1 m x e).0) (rw n-some at (line-parts 1 n y f).0))) (rw some)

  two-kept : line_sound 2 m x ≡ true → line_sound 2 n y ≡ true → line_sound 2 (m + n) (both 2 x y) ≡ true
  unfolding both low_of high_of mark_right
  two-kept e f =
      line_made 2 (m + n) (least x y)
      (rw some (inside-least 8388608 8388607 x y (rw m-some at (line-parts 2 m x e).0) (rw n-some at (line-parts 2 n y f).0))) refl

  three-kept : line_sound 3 m x ≡ true → line_sound 3 n y ≡ true → line_sound 3 (m + n) (both 3 x y) ≡ true
  unfolding both low_of high_of mark_right
  three-kept e f =
      line_made 3 (m + n) (most x y)
      (rw some (inside-most 8388608 8388607 x y (rw m-some at (line-parts 3 m x e).0) (rw n-some at (line-parts 3 n y f).0))) refl

  four-kept : line_sound 4 m x ≡ true → line_sound 4 n y ≡ true → line_sound 4 (m + n) (both 4 x y) ≡ true
  unfolding both low_of high_of mark_right
  four-kept e f =
      line_made 4 (m + n) (most x y)
      (rw some (inside-most 0 8388608 x y (rw m-some at (line-parts 4 m x e).0) (rw n-some at (line-parts 4 n y f).0))) refl

  five-kept : line_sound 5 m x ≡ true → line_sound 5 n y ≡ true → line_sound 5 (m + n) (both 5 x y) ≡ true
  unfolding both low_of high_of mark_right
  five-kept e f =
      let d : 8388608 * (m + n) ≡ 8388608 * m + 8388608 * n = omega arith in
      line_made 5 (m + n) (x +ℤ y)
      (rw d (inside-sum (8388608 * m) (8388608 * m) (8388608 * n) (8388608 * n) x y (line-parts 5 m x e).0 (line-parts 5 n y f).0)) refl

  rest-kept : (j : ℕ) → 6 ≤ j → line_sound j m x ≡ true → line_sound j n y ≡ true → line_sound j (m + n) (both j x y) ≡ true
  unfolding both mark_right
  rest-kept j h e f =
      let a = tail-reach j m h in
      let b = tail-reach j n h in
      let c = tail-reach j (m + n) h in
      line_made j (m + n) _
      (rw (c.0, c.1, ne_eqb j 2 (λ q. omega arith), ne_eqb j 3 (λ q. omega arith), ne_eqb j 4 (λ q. omega arith))
      (inside-sum 0 m 0 n x y (rw (a.0, a.1) at (line-parts j m x e).0) (rw (b.0, b.1) at (line-parts j n y f).0)))
      (rw (ne_eqb j 1 (λ q. omega arith)))

  pub both-kept : (j : ℕ) → m + n ≤ 4294967296 → (j ≡ 0 → x ≡ pos m) → (j ≡ 0 → y ≡ pos n) → line_sound j m x ≡ true
      → line_sound j n y ≡ true
      → line_sound j (m + n) (both j x y) ≡ true
  both-kept zero h p q e f = zero-kept h (p refl) (q refl)
  both-kept (suc zero) h p q e f = one_kept e f
  both-kept (suc (suc zero)) h p q e f = two-kept e f
  both-kept (suc (suc (suc zero))) h p q e f = three-kept e f
  both-kept (suc (suc (suc (suc zero)))) h p q e f = four-kept e f
  both-kept (suc (suc (suc (suc (suc zero))))) h p q e f = five-kept e f
  both-kept (suc (suc (suc (suc (suc (suc j)))))) h p q e f = rest-kept (suc (suc (suc (suc (suc (suc j)))))) (omega arith) e f

line_kept : (j m n : ℕ) (x y : ℤ) → m + n ≤ 4294967296 → (j ≡ 0 → x ≡ pos m) → (j ≡ 0 → y ≡ pos n)
    → line_sound j m x ≡ true → line_sound j n y ≡ true → line_sound j (m + n) (joined_line j m n x y) ≡ true
line_kept j zero n x y h p q e f = rw (zero-add, none_left) f
line_kept j (suc m) zero x y h p q e f = rw (add-zero, none_right j (suc m) x y (omega arith)) e
line_kept j (suc m) (suc n) x y h p q e f =
    rw (some-both j (suc m) (suc n) x y (omega arith) (omega arith)) (both-kept (suc m) (suc n) (omega arith)
    (omega arith) x y j h p q e f)

-- ---- a sheet

module _ (a : List ℤ) (s : sheet_sound a ≡ true) (k : ℕ) (h : k < 20) where
  first-line : k % 10 ≡ 0 → line_at a k ≡ pos (samples_on a k)
  first-line z =
      let w : k / 10 * 10 ≡ k = omega arith in
      rw w (rw w at (head-parts (samples_on a k) (line_at a (k / 10 * 10)) (head-sound a s k h)).1)

room_at : (a b : List ℤ) → has_room a 0 (nat_abs (line_at b 0)) ≡ true → has_room a 10 (nat_abs (line_at b 10)) ≡ true → (k : ℕ) → k < 20
    → samples_on a k + samples_on b k ≤ 4294967296
room_at a b r t k h =
    ⊎_elim (λ (l : 10 ≤ k). let w : k / 10 * 10 ≡ 10 = omega arith in rw w (leb-true _ _ t))
    (λ (l : k < 10). let w : k / 10 * 10 ≡ 0 = omega arith in rw w (leb-true _ _ r)) (order 10 k)

pub joined-sound : (a b : List ℤ) → sheet_sound a ≡ true → sheet_sound b ≡ true → has_room a 0 (nat_abs (line_at b 0)) ≡ true → has_room a 10 (nat_abs
    (line_at b 10)) ≡ true
    → sheet_sound (sheet_joined a b) ≡ true
joined-sound a b sa sb r t = all_sound (sheet_joined a b) (λ k h. ap not (kept k h))
  where
    kept : (k : ℕ) → k < 20 → line_sound (k % 10) (samples_on (sheet_joined a b) k) (line_at (sheet_joined a b) k) ≡ true
    kept k h =
        rw (head-joined a b sa sb k h, at_joined a b k h)
        (line_kept (k % 10) (samples_on a k) (samples_on b k) (line_at a k) (line_at b k) (room_at a b r t k h) (first-line a sa k h) (first-line b sb k h)
        (sound-at a sa k h) (sound-at b sb k h))

-- ---- as the calls answer

pub starting-leaves : (a v : List ℤ) → start_answer a ≡ accepted v → (length v ≡ 20) × (v ≡ empty_sheet)
unfolding start_answer
starting-leaves a v e = let m = met empty_sheet _ e in (rw (← m.1) length-empty, sym m.1)

pub empty-sound : sheet_sound empty_sheet ≡ true
unfolding sheet_sound empty_sheet line_sound low_of high_of mark_right first listed
empty-sound = refl

pub joining-leaves : (a b v : List ℤ) → join_answer a b ≡ accepted v → (length v ≡ 20) × (sheet_sound v ≡ true)
unfolding join_answer
joining-leaves a b v e =
    let m = met (sheet_joined a b) (join_demands a b) e in (
      rw (← m.1) (length-joined a b),
      rw (← m.1) (joined-sound a b m.0.1.1.0 m.0.1.1.1.0 m.0.1.1.1.1.0 m.0.1.1.1.1.1.0),
    )
