-- A declared word length as a mask: a sample has a 1 below the length exactly if it has one where the mask has ones.
-- Assumes nothing.
use mathlib.Core.Path.{◌≡◌, refl, sym, ap, ◌∙◌}
use mathlib.Core.Logic.{⊎_elim}
use mathlib.Core.Bool.{not}
use mathlib.Core.List.{List}
use Prim.Native.Nat.{ℕ, ◌-◌, ◌*◌, ◌/◌, ◌%◌, ◌^◌, ◌<◌}
use native.Mathlib.Nat.{div-one, one-mul, zero-mul, zero-div}
use native.Mathlib.Omega.{arith}
use borrow.Author.Tests.{ne_eqb}
use lib.Bits.{bit_and, and_zero_r, and_high}
use lib.Dec.{eqb}
use lib.IntN.{ℤ, pos}
use lib.ListN.{get_or}
use lib.Pow.{shl_exact, shl-shr}
use Rattle.bits.specs.Pick.{pick}
use Rattle.bits.proofs.Beside.{same_or_not}
use Rattle.bits.proofs.Digits.{digit-cases}
use Rattle.subframe.specs.Signed.{code_of}
use Rattle.status.specs.declared.Auxiliary.{Auxiliary}
use Rattle.status.specs.declared.Auxiliary.TheVariants as auxiliary
use Rattle.status.specs.declared.WordLength.{WordLength}
use Rattle.status.specs.declared.WordLength.TheVariants as word
use Rattle.status.specs.declared.Audio.TheVariants.{LinearPcm, OtherPurpose}
use Rattle.status.specs.declared.Use.{Use}
use Rattle.status.specs.declared.Use.TheVariants.{Consumer, Professional}
use Rattle.status.specs.Meaning.{meaning_of}
use Rattle.status.proofs.Lengths.{undeclared}
use Rattle.block.specs.Length.{one_below, busy_with, busy_under}
use Rattle.block.specs.Check.{meaning_in, overlong}
use Rattle.block.specs.Inner.{mask_below, mask_with, mask_under, masked}

-- a number moved up is 0 exactly if it is
moved_up : (k y : ℕ) → eqb (y * 2 ^ k) 0 ≡ eqb y 0
moved_up k y =
    ⊎_elim (λ (z : y ≡ 0). rw (z, zero-mul))
    (λ (n : y ≡ 0 → ⊥). ne_eqb (y * 2 ^ k) 0 (λ e. n (sym (shl-shr y k) ∙ ap (λ (x : ℕ). x / 2 ^ k) e ∙ zero-div (2 ^ k))) ∙ sym (ne_eqb y 0 n))
    (same_or_not y 0)

below : (l : WordLength) (width free x : ℕ) → one_below l width (x / 2 ^ free) ≡ not (eqb (bit_and x (mask_below l width free)) 0)
unfolding one_below mask_below
below word.NotIndicated width free x = rw (and_zero_r x)
below (word.Bits n) width free x = rw (and_high x (width - n) free) (ap not (sym (moved_up free (x / 2 ^ free % 2 ^ (width - n)))))
below (word.Reserved y) width free x = rw (and_zero_r x)

with-use : (a : Auxiliary) (l : WordLength) (x : ℕ) → busy_with a l x ≡ not (eqb (bit_and x (mask_with a l)) 0)
unfolding busy_with mask_with
with-use auxiliary.MainAudio l x = rw (div-one x) at (below l 24 0 x)
with-use auxiliary.NotDefined l x = below l 20 4 x
with-use auxiliary.Coordination l x = below l 20 4 x
with-use auxiliary.UserDefined l x = rw (and_zero_r x)
with-use (auxiliary.Reserved y) l x = rw (and_zero_r x)

under : (u : Use) (x : ℕ) → busy_under u x ≡ not (eqb (bit_and x (mask_under u)) 0)
unfolding busy_under mask_under
under Consumer x = rw (and_zero_r x)
under (Professional (LinearPcm d)) x = with-use d.auxiliary d.word_length x
under (Professional (OtherPurpose d)) x = rw (and_zero_r x)

-- ---- as code computes the mask

not-indicated : (a : Auxiliary) → mask_with a word.NotIndicated ≡ 0
unfolding mask_with mask_below
not-indicated auxiliary.MainAudio = refl
not-indicated auxiliary.NotDefined = refl
not-indicated auxiliary.Coordination = refl
not-indicated auxiliary.UserDefined = refl
not-indicated (auxiliary.Reserved y) = refl

reserved : (a : Auxiliary) (x : ℕ) → mask_with a (word.Reserved x) ≡ 0
unfolding mask_with mask_below
reserved auxiliary.MainAudio x = refl
reserved auxiliary.NotDefined x = refl
reserved auxiliary.Coordination x = refl
reserved auxiliary.UserDefined x = refl
reserved (auxiliary.Reserved y) x = refl

-- where byte 2 declares no length the mask is empty
pub mask-undeclared : (byte0 byte1 byte2 : ℕ) → byte2 / 8 % 8 ≡ 0 → mask_under (meaning_of byte0 byte1 byte2) ≡ 0
unfolding mask_under
mask-undeclared byte0 byte1 byte2 e =
    undeclared (λ (u : Use). mask_under u ≡ 0) refl
    (λ d h. ⊎_elim (λ (n : d.word_length ≡ word.NotIndicated). ap (mask_with d.auxiliary) n ∙ not-indicated d.auxiliary)
    (λ (r : d.word_length ≡ word.Reserved 0). ap (mask_with d.auxiliary) r ∙ reserved d.auxiliary 0) h)
    (λ d. refl) byte0 byte1 byte2 e

pub one_shifted : (k : ℕ) → k < 32 → 1 * 2 ^ k % 2 ^ 32 ≡ 2 ^ k
one_shifted k h = shl_exact 1 k 32 (omega arith) (omega arith) ∙ one-mul (2 ^ k)

-- ---- two channels

module _ (samples : List ℤ) (a b i : ℕ) where
  abbrev code : ℕ
  code = code_of 24 (get_or samples i (pos 0))

  pub masked-A : i % 2 ≡ 0 → masked samples a b i ≡ not (eqb (bit_and code a) 0)
  unfolding masked
  masked-A e = rw e

  pub masked-B : i % 2 ≡ 1 → masked samples a b i ≡ not (eqb (bit_and code b) 0)
  unfolding masked
  masked-B e = rw e

  pub masked-at : masked samples a b i ≡ not (eqb (bit_and code (pick (eqb (i % 2) 0) a b)) 0)
  unfolding masked
  masked-at = refl

-- a sample is longer than its status declares exactly if the mask of its channel finds it
pub overlong-masked : (samples : List ℤ) (side : List ℕ) (i : ℕ)
    → overlong samples side i ≡ masked samples (mask_under (meaning_in side 0)) (mask_under (meaning_in side 1)) i
unfolding overlong masked
overlong-masked samples side i =
    digit-cases (λ (k : ℕ). busy_under (meaning_in side k) (code_of 24 (get_or samples i (pos 0)))
    ≡ not (eqb (bit_and (code_of 24 (get_or samples i (pos 0))) (pick (eqb k 0) (mask_under (meaning_in side 0)) (mask_under (meaning_in side 1)))) 0))
    (under (meaning_in side 0) _) (under (meaning_in side 1) _) (i % 2) (omega arith)

-- by the masks themselves
pub overlong-is : (samples : List ℤ) (side : List ℕ) (a b : ℕ) → a ≡ mask_under (meaning_in side 0) → b ≡ mask_under (meaning_in side 1)
    → (i : ℕ) → overlong samples side i ≡ masked samples a b i
overlong-is samples side a b ea eb i = rw (ea, eb) (overlong-masked samples side i)
