-- Joining: the empty sheet is the unit, and joining is associative. Assumes nothing.
use mathlib.Core.Path.{◌≡◌, refl, sym, ap, ◌∙◌}
use mathlib.Core.Bool.{Bool, true, false}
use mathlib.Core.List.{List}
use Prim.Native.Nat.{ℕ, zero, suc, ◌+◌, ◌*◌, ◌/◌, ◌%◌, ◌≤◌, ◌<◌}
use native.Mathlib.Nat.{zero-add, add-zero}
use native.Mathlib.Omega.{arith}
use borrow.Author.Tests.{ltb-true, leb-true, ne_eqb, eqb-true}
use lib.Dec.{eqb}
use lib.IntN.{ℤ, pos, negsuc, nat_abs, ◌+ℤ◌, +ℤ_assoc}
use lib.ListN.{length}
use Rattle.bits.specs.Pick.{pick}
use Rattle.bits.specs.Listed.{listed}
use Rattle.bits.proofs.Lists.{listed-all, length-listed, get_or-listed}
use Rattle.answer.specs.Answer.{Answer.accepted}
use Rattle.answer.proofs.Chains.{met}
use Rattle.levels.specs.Lines.{least, most, both, joined_line, inside, low_of, high_of, mark_right}
use Rattle.levels.specs.Lines.{line_sound, line_at, samples_on, sheet_sound, sheet_joined, joined_at, empty_sheet, empty_line}
use Rattle.levels.specs.Calls.{join_demands, join_answer}
use Rattle.levels.proofs.Wholes.{least-assoc, most-assoc}
use Rattle.levels.proofs.Accepted.{sound-at, line-parts, head-parts, head-sound, tail-reach}
use Rattle.levels.proofs.Places.{at_joined, at-empty}

-- ---- one line

abbrev made : (t u v : Bool) → ℤ → ℤ → ℤ
made t u v a b = pick t (least a b) (pick u (most a b) (pick v (most a b) (a +ℤ b)))

assoc-by : (t u v : Bool) (x y z : ℤ) → made t u v (made t u v x y) z ≡ made t u v x (made t u v y z)
assoc-by true u v x y z = least-assoc x y z
assoc-by false true v x y z = most-assoc x y z
assoc-by false false true x y z = most-assoc x y z
assoc-by false false false x y z = +ℤ_assoc x y z

pub both-assoc : (j : ℕ) (x y z : ℤ) → both j (both j x y) z ≡ both j x (both j y z)
unfolding both
both-assoc j x y z = assoc-by (eqb j 2) (eqb j 3) (eqb j 4) x y z

pub none_left : (j n : ℕ) (x y : ℤ) → joined_line j 0 n x y ≡ y
unfolding joined_line
none_left j n x y = refl

pub none_right : (j m : ℕ) (x y : ℤ) → 0 < m → joined_line j m 0 x y ≡ x
unfolding joined_line
none_right j m x y h = rw (ne_eqb m 0 (λ e. omega arith))

pub some-both : (j m n : ℕ) (x y : ℤ) → 0 < m → 0 < n → joined_line j m n x y ≡ both j x y
unfolding joined_line
some-both j m n x y h k = rw (ne_eqb m 0 (λ e. omega arith), ne_eqb n 0 (λ e. omega arith))

line-assoc : (j m n p : ℕ) (x y z : ℤ) → joined_line j (m + n) p (joined_line j m n x y) z ≡ joined_line j m (n + p) x (joined_line j n p y z)
line-assoc j zero n p x y z = rw (zero-add, none_left, none_left)
line-assoc j (suc m) zero p x y z = rw (add-zero, zero-add, none_right j (suc m) x y (omega arith), none_left)
line-assoc j (suc m) (suc n) zero x y z =
    rw (add-zero, none_right j (suc n) y z (omega arith)) (none_right j (suc m + suc n) _ z (omega arith))
line-assoc j (suc m) (suc n) (suc p) x y z =
    rw (some-both j (suc m) (suc n) x y (omega arith) (omega arith), some-both j (suc n) (suc p) y z (omega arith) (omega arith))
    (some-both j (suc m + suc n) (suc p) _ z (omega arith) (omega arith) ∙ both-assoc j x y z
    ∙ sym (some-both j (suc m) (suc n + suc p) x _ (omega arith) (omega arith)))

-- the samples add up
head-line : (m n : ℕ) → nat_abs (joined_line 0 m n (pos m) (pos n)) ≡ m + n
unfolding both
head-line zero n = rw (none_left, zero-add)
head-line (suc m) zero = rw (none_right 0 (suc m) (pos (suc m)) (pos 0) (omega arith), add-zero)
head-line (suc m) (suc n) = rw (some-both 0 (suc m) (suc n) (pos (suc m)) (pos (suc n)) (omega arith) (omega arith))

-- ---- sheets

pub listed_same : (f g : ℕ → ℤ) → ((k : ℕ) → k < 20 → f k ≡ g k) → listed 0 20 f ≡ listed 0 20 g
listed_same f g same =
    listed-all 20 f (listed 0 20 g) (pos 0) (length-listed 0 20 g) (λ i h. same i h ∙ sym (get_or-listed 20 g i (pos 0) h))

module _ (a b : List ℤ) (sa : sheet_sound a ≡ true) (sb : sheet_sound b ≡ true) where
  pub head-joined : (k : ℕ) → k < 20 → samples_on (sheet_joined a b) k ≡ samples_on a k + samples_on b k
  head-joined k h =
      let q : k / 10 * 10 / 10 * 10 ≡ k / 10 * 10 = omega arith in
      let z : k / 10 * 10 % 10 ≡ 0 = omega arith in
      ap nat_abs (at_joined a b (k / 10 * 10) (omega arith))
      ∙ rw (
        z,
        q,
        (head-parts (samples_on a k) (line_at a (k / 10 * 10)) (head-sound a sa k h)).1,
        (head-parts (samples_on b k) (line_at b (k / 10 * 10))
            (head-sound b sb k h)).1,
      )
      (head-line (samples_on a k) (samples_on b k))

pub joined-assoc : (a b c : List ℤ) → sheet_sound a ≡ true → sheet_sound b ≡ true → sheet_sound c ≡ true → sheet_joined (sheet_joined a b) c ≡ sheet_joined a (sheet_joined b c)
unfolding sheet_joined
joined-assoc a b c sa sb sc =
    listed_same (joined_at (sheet_joined a b) c) (joined_at a (sheet_joined b c))
    (λ k h. rw (head-joined a b sa sb k h, head-joined b c sb sc k h, at_joined a b k h, at_joined b c k h)
    (line-assoc (k % 10) (samples_on a k) (samples_on b k) (samples_on c k) (line_at a k) (line_at b k) (line_at c k)))

-- ---- the empty sheet is the unit

head-empty : (k : ℕ) → k < 20 → samples_on empty_sheet k ≡ 0
head-empty k h =
    let z : k / 10 * 10 % 10 ≡ 0 = omega arith in
    ap nat_abs (at-empty (k / 10 * 10) (omega arith)) ∙ rw z

pub empty_left : (b : List ℤ) → length b ≡ 20 → sheet_joined empty_sheet b ≡ b
unfolding sheet_joined
empty_left b e =
    listed-all 20 (joined_at empty_sheet b) b (pos 0) e (λ k h. rw (head-empty k h) (none_left (k % 10) (samples_on b k) (line_at empty_sheet k) (line_at b k)))

inside-none : (x : ℤ) → inside 0 0 x ≡ true → x ≡ pos 0
inside-none (pos n) e = ap pos (omega (arith, leb-true n 0 e))
inside-none (negsuc n) e = absurd (omega (arith, ltb-true n 0 e))

inside_one : (x : ℤ) → inside 0 1 x ≡ true → eqb (nat_abs x) 1 ≡ true → x ≡ pos 1
inside_one (pos n) e f = ap pos (eqb-true n 1 f)
inside_one (negsuc n) e f = absurd (omega (arith, ltb-true n 0 e))

-- a line of a channel without samples; the first is the samples themselves
none-line : (j : ℕ) (x : ℤ) → line_sound j 0 x ≡ true → (j ≡ 0 → x ≡ pos 0) → x ≡ empty_line j
unfolding low_of high_of mark_right
none-line zero x e z = z refl
none-line (suc zero) x e z = inside_one x (line-parts 1 0 x e).0 (line-parts 1 0 x e).1
none-line (suc (suc zero)) x e z = inside-none x (line-parts 2 0 x e).0
none-line (suc (suc (suc zero))) x e z = inside-none x (line-parts 3 0 x e).0
none-line (suc (suc (suc (suc zero)))) x e z = inside-none x (line-parts 4 0 x e).0
none-line (suc (suc (suc (suc (suc zero))))) x e z = inside-none x (line-parts 5 0 x e).0
none-line (suc (suc (suc (suc (suc (suc i)))))) x e z = rest (suc (suc (suc (suc (suc (suc i)))))) (omega arith) e
  where
    rest : (j : ℕ) → 6 ≤ j → line_sound j 0 x ≡ true → x ≡ empty_line j
    rest j h f =
        let p = tail-reach j 0 h in
        inside-none x (rw (p.0, p.1) at (line-parts j 0 x f).0) ∙ sym (rw (ne_eqb j 1 (λ q. omega arith)))

pub empty_right : (a : List ℤ) → length a ≡ 20 → sheet_sound a ≡ true → sheet_joined a empty_sheet ≡ a
unfolding sheet_joined
empty_right a e s = listed-all 20 (joined_at a empty_sheet) a (pos 0) e (λ k h. rw (head-empty k h) (go k h (samples_on a k) refl))
  where
    go : (k : ℕ) → k < 20 → (m : ℕ) → samples_on a k ≡ m → joined_line (k % 10) m 0 (line_at a k) (line_at empty_sheet k) ≡ line_at a k
    go k h zero f =
        none_left (k % 10) 0 (line_at a k) (line_at empty_sheet k) ∙ at-empty k h
        ∙ sym (none-line (k % 10) (line_at a k) (rw f at (sound-at a s k h))
        (λ z. let w : k / 10 * 10 ≡ k = omega arith in
        rw (f, w) at (head-parts (samples_on a k) (line_at a (k / 10 * 10)) (head-sound a s k h)).1))
    go k h (suc m) f = none_right (k % 10) (suc m) (line_at a k) (line_at empty_sheet k) (omega arith)

-- ---- as the calls answer

pub joining : (a b v : List ℤ) → join_answer a b ≡ accepted v
    → (length a ≡ 20) × (length b ≡ 20) × (sheet_sound a ≡ true) × (sheet_sound b ≡ true) × (v ≡ sheet_joined a b)
unfolding join_answer
joining a b v e =
    let m = met (sheet_joined a b) (join_demands a b) e in
    (eqb-true _ _ m.0.0, eqb-true _ _ m.0.1.0, m.0.1.1.0, m.0.1.1.1.0, sym m.1)

pub joining-associates : (a b c ab bc v w : List ℤ) → join_answer a b ≡ accepted ab → join_answer ab c ≡ accepted v
    → join_answer b c ≡ accepted bc → join_answer a bc ≡ accepted w → v ≡ w
joining-associates a b c ab bc v w e f g h =
    let p = joining a b ab e in
    let q = joining b c bc g in
    (joining ab c v f).4 ∙ ap (λ (l : List ℤ). sheet_joined l c) p.4 ∙ joined-assoc a b c p.2 p.3 q.3
    ∙ sym ((joining a bc w h).4 ∙ ap (λ (l : List ℤ). sheet_joined a l) q.4)
