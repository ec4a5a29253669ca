-- A sheet by its two channels: it is accepted where both are, and joined channel by channel. Assumes nothing.
use mathlib.Core.Path.{◌≡◌, refl, sym, ap, ◌∙◌}
use mathlib.Core.Bool.{Bool, true, false, not, ◌&&◌}
use mathlib.Core.Logic.{⊎_elim}
use mathlib.Core.List.{List, ◌++◌}
use Prim.Native.Nat.{ℕ, ◌+◌, ◌*◌, ◌-◌, ◌/◌, ◌%◌, ◌≤◌, ◌<◌}
use native.Mathlib.Omega.{arith}
use borrow.Author.Tests.{not-false}
use lib.IntN.{ℤ, pos, nat_abs}
use lib.ListN.{length, length-append, get_or-append}
use lib.Seq.{get_or-append-add}
use Rattle.bits.proofs.Lists.{length-listed, get_or-listed, listed-all}
use Rattle.bits.proofs.Tests.{order, both_true, no-yes}
use Rattle.answer.proofs.Chains.{search-cases}
use Rattle.levels.specs.Lines.{joined_line, line_sound, line_at, samples_on, unsound_at, sheet_sound, sheet_joined, joined_at}
use Rattle.levels.specs.Inner.{unsound_in, channel_sound, channel_joined}
use Rattle.levels.proofs.Accepted.{sound-at, all_sound}

pub iff : (a b : Bool) → (a ≡ true → b ≡ true) → (b ≡ true → a ≡ true) → a ≡ b
iff true b f g = sym (f refl)
iff false true f g = g refl
iff false false f g = refl

pub and : {a b : Bool} → a ≡ true → b ≡ true → (a && b) ≡ true
and p q = rw (p, q)

-- ---- ten lines

module _ (s : List ℤ) where
  pub line-sound : channel_sound s ≡ true → (j : ℕ) → j < 10 → line_sound j (nat_abs (line_at s 0)) (line_at s j) ≡ true
  unfolding channel_sound
  line-sound e j h =
      search-cases (unsound_in s) (λ i. false) true 0 10 (λ x. x ≡ true → line_sound j (nat_abs (line_at s 0)) (line_at s j) ≡ true)
      (λ i l m t before q. no-yes false refl q) (λ none q. not-false _ (none j (omega arith) (omega arith))) e

  pub lines-sound : ((j : ℕ) → j < 10 → line_sound j (nat_abs (line_at s 0)) (line_at s j) ≡ true) → channel_sound s ≡ true
  unfolding channel_sound
  lines-sound all =
      search-cases (unsound_in s) (λ i. false) true 0 10 (λ x. x ≡ true)
      (λ i l m t before. no-yes (unsound_in s i) (ap not (all i (omega arith))) t) (λ none. refl)

-- ---- those of A, and then those of B

module _ (xs ys : List ℤ) (n : length xs ≡ 10) where
  left-at : (k : ℕ) → k < 10 → line_at (xs ++ ys) k ≡ line_at xs k
  left-at k h = get_or-append xs ys (pos 0) k (omega (arith, n))

  right-at : (j : ℕ) → line_at (xs ++ ys) (10 + j) ≡ line_at ys j
  right-at j = rw n at (get_or-append-add xs ys j (pos 0))

  pub head-left : (k : ℕ) → k < 10 → samples_on (xs ++ ys) k ≡ nat_abs (line_at xs 0)
  head-left k h =
      let z : k / 10 * 10 ≡ 0 = omega arith in
      ap (λ (i : ℕ). nat_abs (line_at (xs ++ ys) i)) z ∙ ap nat_abs (left-at 0 (omega arith))

  pub head-right : (j : ℕ) → j < 10 → samples_on (xs ++ ys) (10 + j) ≡ nat_abs (line_at ys 0)
  head-right j h =
      let z : (10 + j) / 10 * 10 ≡ 10 + 0 = omega arith in
      ap (λ (i : ℕ). nat_abs (line_at (xs ++ ys) i)) z ∙ ap nat_abs (right-at 0)

  sound-left : (k : ℕ) → k < 10 → line_sound (k % 10) (samples_on (xs ++ ys) k) (line_at (xs ++ ys) k)
      ≡ line_sound k (nat_abs (line_at xs 0)) (line_at xs k)
  sound-left k h =
      let z : k % 10 ≡ k = omega arith in
      let a = head-left k h in
      let b = left-at k h in
      cc

  sound-right : (j : ℕ) → j < 10 → line_sound ((10 + j) % 10) (samples_on (xs ++ ys) (10 + j)) (line_at (xs ++ ys) (10 + j))
      ≡ line_sound j (nat_abs (line_at ys 0)) (line_at ys j)
  sound-right j h =
      let z : (10 + j) % 10 ≡ j = omega arith in
      let a = head-right j h in
      let b = right-at j in
      cc

  pub sheet-sound : sheet_sound (xs ++ ys) ≡ (channel_sound xs && channel_sound ys)
  sheet-sound =
      iff _ _
      (λ e. and (lines-sound xs (λ k h. sym (sound-left k h) ∙ sound-at (xs ++ ys) e k (omega arith)))
      (lines-sound ys (λ j h. sym (sound-right j h) ∙ sound-at (xs ++ ys) e (10 + j) (omega arith))))
      (λ e. all_sound (xs ++ ys) (each (both_true _ _ e)))
    where
      each : (channel_sound xs ≡ true) × (channel_sound ys ≡ true) → (k : ℕ) → k < 20 → unsound_at (xs ++ ys) k ≡ false
      each p k h =
          ⊎_elim
          (λ (l : 10 ≤ k).
          let z : 10 + (k - 10) ≡ k = omega arith in
          rw z at (ap not (sound-right (k - 10) (omega arith) ∙ line-sound ys p.1 (k - 10) (omega arith))))
          (λ (l : k < 10). ap not (sound-left k l ∙ line-sound xs p.0 k l)) (order 10 k)

long : (xs us : List ℤ) → length (channel_joined xs us) ≡ 10
unfolding channel_joined
long xs us = length-listed 0 10 (λ j. joined_line j (nat_abs (line_at xs 0)) (nat_abs (line_at us 0)) (line_at xs j) (line_at us j))

module _ (xs ys us vs : List ℤ) (n : length xs ≡ 10) (m : length us ≡ 10) where
  joined-left : (k : ℕ) → k < 10 → joined_at (xs ++ ys) (us ++ vs) k ≡ line_at (channel_joined xs us) k
  unfolding channel_joined
  joined-left k h =
      let z : k % 10 ≡ k = omega arith in
      let a = head-left xs ys n k h in
      let b = left-at xs ys n k h in
      let c = head-left us vs m k h in
      let d = left-at us vs m k h in
      let e = get_or-listed 10 (λ j. joined_line j (nat_abs (line_at xs 0)) (nat_abs (line_at us 0)) (line_at xs j) (line_at us j)) k (pos 0) h in
      cc

  joined-right : (j : ℕ) → j < 10 → joined_at (xs ++ ys) (us ++ vs) (10 + j) ≡ line_at (channel_joined ys vs) j
  unfolding channel_joined
  joined-right j h =
      let z : (10 + j) % 10 ≡ j = omega arith in
      let a = head-right xs ys n j h in
      let b = right-at xs ys n j in
      let c = head-right us vs m j h in
      let d = right-at us vs m j in
      let e = get_or-listed 10 (λ j. joined_line j (nat_abs (line_at ys 0)) (nat_abs (line_at vs 0)) (line_at ys j) (line_at vs j)) j (pos 0) h in
      cc

  pub sheets-joined : sheet_joined (xs ++ ys) (us ++ vs) ≡ channel_joined xs us ++ channel_joined ys vs
  unfolding sheet_joined
  sheets-joined =
      listed-all 20 (joined_at (xs ++ ys) (us ++ vs)) (channel_joined xs us ++ channel_joined ys vs) (pos 0)
      (omega (arith, length-append (channel_joined xs us) (channel_joined ys vs), long xs us, long ys vs)) each
    where
      each : (k : ℕ) → k < 20 → joined_at (xs ++ ys) (us ++ vs) k ≡ line_at (channel_joined xs us ++ channel_joined ys vs) k
      each k h =
          ⊎_elim
          (λ (l : 10 ≤ k).
          let z : 10 + (k - 10) ≡ k = omega arith in
          rw z at (joined-right (k - 10) (omega arith) ∙ sym (right-at (channel_joined xs us) (channel_joined ys vs) (long xs us) (k - 10))))
          (λ (l : k < 10). joined-left k l ∙ sym (left-at (channel_joined xs us) (channel_joined ys vs) (long xs us) k l)) (order 10 k)
