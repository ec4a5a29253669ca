-- One sample: its 24 bits as main and auxiliary bits, and back; a voice sample as three parts, and back; and what code
-- adds and takes away. Assumes nothing.
use mathlib.Core.Path.{◌≡◌, sym, ap, ◌∙◌}
use mathlib.Core.Bool.{true}
use Prim.Native.Nat.{ℕ, zero, suc, ◌+◌, ◌-◌, ◌*◌, ◌/◌, ◌%◌, ◌^◌, ◌<◌}
use native.Mathlib.Omega.{arith}
use borrow.Author.Tests.{lt-ltb, le-ltb, ltb-true}
use lib.IntN.{ℤ, pos, negsuc, ◌+ℤ◌, ◌-ℤ◌, +ℤ-neg_ℤ_cancel}
use Rattle.subframe.specs.Signed.{in_range, code_of, signed_of}
use Rattle.subframe.proofs.SignedLaws.{code_lt, signed-code, signed-in, code-signed}
use Rattle.talkback.specs.Talkback.{auxiliary, main, sample_with, part_of, voice_with}

-- ---- main and auxiliary bits

pub main-lt : (z : ℤ) → in_range 24 z ≡ true → main z < 2 ^ 20
main-lt z h = omega (arith, code_lt 24 (omega arith) z h)

module _ (m a : ℕ) (hm : m < 2 ^ 20) (ha : a < 2 ^ 4) where
  with_in : in_range 24 (sample_with m a) ≡ true
  with_in = signed-in 24 (omega arith) (m * 2 ^ 4 + a) (omega arith)

  with_code : code_of 24 (sample_with m a) ≡ m * 2 ^ 4 + a
  with_code = code-signed 24 (omega arith) (m * 2 ^ 4 + a) (omega arith)

  with-main : main (sample_with m a) ≡ m
  with-main = ap (λ (x : ℕ). x / 2 ^ 4) with_code ∙ omega arith

  with-auxiliary : auxiliary (sample_with m a) ≡ a
  with-auxiliary = ap (λ (x : ℕ). x % 2 ^ 4) with_code ∙ omega arith

-- the same of a sample whose main bits are kept
module _ (z : ℤ) (h : in_range 24 z ≡ true) (a : ℕ) (ha : a < 2 ^ 4) where
  pub kept_in : in_range 24 (sample_with (main z) a) ≡ true
  kept_in = with_in (main z) a (main-lt z h) ha

  pub kept-main : main (sample_with (main z) a) ≡ main z
  kept-main = with-main (main z) a (main-lt z h) ha

  pub new-auxiliary : auxiliary (sample_with (main z) a) ≡ a
  new-auxiliary = with-auxiliary (main z) a (main-lt z h) ha

pub with-own : (z : ℤ) → in_range 24 z ≡ true → sample_with (main z) (auxiliary z) ≡ z
with-own z h =
    let e : main z * 2 ^ 4 + auxiliary z ≡ code_of 24 z = omega arith in
    ap (signed_of 24) e ∙ signed-code 24 (omega arith) z h

-- ---- as code computes it

-- a sum that stays below the next multiple of 16 keeps the sign
pub added : (z : ℤ) → in_range 24 z ≡ true → auxiliary z ≡ 0 → (a : ℕ) → a < 2 ^ 4 → z +ℤ pos a ≡ sample_with (main z) a
added (pos n) h free a ha =
    let l : n < 8388608 = ltb-true n 8388608 h in
    rw (lt-ltb (n / 16 * 16 + a) 8388608 (omega arith)) (ap pos (omega arith))
added (negsuc n) h free a ha =
    let l : n < 8388608 = ltb-true n 8388608 h in
    rw (lt-ltb a (suc n) (omega arith), le-ltb ((16777216 - suc n) / 16 * 16 + a) 8388608 (omega arith)) (ap negsuc (omega arith))

pub removed : (z : ℤ) → in_range 24 z ≡ true → z -ℤ pos (auxiliary z) ≡ sample_with (main z) 0
removed z h =
    let p = sample_with (main z) 0 in
    let a = auxiliary z in
    let ha : a < 2 ^ 4 = omega arith in
    let back : p +ℤ pos a ≡ z =
    added p (kept_in z h 0 (omega arith)) (new-auxiliary z h 0 (omega arith)) a ha
    ∙ ap (λ (m : ℕ). sample_with m a) (kept-main z h 0 (omega arith)) ∙ with-own z h in
    ap (λ (y : ℤ). y -ℤ pos a) (sym back) ∙ +ℤ-neg_ℤ_cancel p (pos a)

-- ---- the three parts of a voice sample

pub part-lt : (v : ℤ) (j : ℕ) → part_of v j < 2 ^ 4
part-lt v j = omega arith

-- put together they are the sample
pub parts_whole : (v : ℤ) → in_range 12 v ≡ true → voice_with (part_of v) ≡ v
parts_whole v h =
    let l : code_of 12 v < 2 ^ 12 = code_lt 12 (omega arith) v h in
    let e : part_of v 0 + part_of v 1 * 2 ^ 4 + part_of v 2 * 2 ^ 8 ≡ code_of 12 v = omega arith in
    ap (signed_of 12) e ∙ signed-code 12 (omega arith) v h

-- and what is put together has these parts
module _ (parts : ℕ → ℕ) (small : (j : ℕ) → parts j < 2 ^ 4) where
  abbrev sum : ℕ
  sum = parts 0 + parts 1 * 2 ^ 4 + parts 2 * 2 ^ 8

  sum_lt : sum < 2 ^ 12
  sum_lt = omega (arith, small 0, small 1, small 2)

  pub voice-in : in_range 12 (voice_with parts) ≡ true
  voice-in = signed-in 12 (omega arith) sum sum_lt

  pub parts-back : (j : ℕ) → j < 3 → part_of (voice_with parts) j ≡ parts j
  parts-back j h = ap (λ (x : ℕ). x / 2 ^ (4 * j) % 2 ^ 4) (code-signed 12 (omega arith) sum sum_lt) ∙ part j h
    where
      part : (i : ℕ) → i < 3 → sum / 2 ^ (4 * i) % 2 ^ 4 ≡ parts i
      part zero l = omega (arith, small 0, small 1, small 2)
      part (suc zero) l = omega (arith, small 0, small 1, small 2)
      part (suc (suc zero)) l = omega (arith, small 0, small 1, small 2)
      part (suc (suc (suc i))) l = absurd (omega arith)
