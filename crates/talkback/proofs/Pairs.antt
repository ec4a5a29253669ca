-- Two samples side by side in 64 bits: their 32 bits each, and what becomes of them where four are added. Assumes nothing.
use mathlib.Core.Path.{◌≡◌, refl, sym, ap, ap₂, ◌∙◌}
use mathlib.Core.Bool.{true}
use Prim.Native.Nat.{ℕ, suc, ◌+◌, ◌-◌, ◌*◌, ◌/◌, ◌%◌, ◌^◌, ◌<◌}
use native.Mathlib.Omega.{arith}
use borrow.Author.Tests.{lt-ltb, le-ltb, ltb-true}
use lib.Bits.{bit_and, and_block, and_mask}
use lib.IntN.{ℤ, pos, negsuc}
use lib.Signed.{mag}
use mir.Syntax.{w32}
use mir.Val.{SFits, to_z, of_z}
use mir.Facts.{to_z-of_z}
use Rattle.subframe.specs.Signed.{in_range, code_of, signed_of}
use Rattle.subframe.proofs.SignedLaws.{signed-in, code-signed}
use Rattle.talkback.specs.Talkback.{auxiliary, main, sample_with}

-- ---- 32 bits of a sample

pub code-32-lt : (z : ℤ) → SFits w32 z → code_of 32 z < 2 ^ 32
code-32-lt z held = go z held.sfits
  where
    go : (z : ℤ) → mag z < 2 ^ 31 → code_of 32 z < 2 ^ 32
    go (pos n) l = omega arith
    go (negsuc n) l = omega arith

-- as casts have it
of_z-code : (z : ℤ) → of_z w32 z ≡ code_of 32 z
of_z-code (pos n) = refl
of_z-code (negsuc n) = refl

pub to_z-signed : (n : ℕ) → n < 2 ^ 32 → to_z w32 n ≡ signed_of 32 n
to_z-signed n h =
    let z = signed_of 32 n in
    let held : SFits w32 z = record { sfits = ltb-true (mag z) (2 ^ 31) (signed-in 32 (omega arith) n h) } in
    ap (to_z w32) (sym (of_z-code z ∙ code-signed 32 (omega arith) n h)) ∙ to_z-of_z held

-- ---- four bits added

module _ (z : ℤ) (h : in_range 24 z ≡ true) (free : auxiliary z ≡ 0) (a : ℕ) (ha : a < 2 ^ 4) where
  pub added-lt : code_of 32 z + a < 2 ^ 32
  added-lt = go z h free
    where
      go : (z : ℤ) → in_range 24 z ≡ true → auxiliary z ≡ 0 → code_of 32 z + a < 2 ^ 32
      go (pos n) h free = let l : n < 8388608 = ltb-true n 8388608 h in omega arith
      go (negsuc n) h free = let l : n < 8388608 = ltb-true n 8388608 h in omega arith

  pub added-32 : signed_of 32 (code_of 32 z + a) ≡ sample_with (main z) a
  added-32 = go z h free
    where
      go : (z : ℤ) → in_range 24 z ≡ true → auxiliary z ≡ 0 → signed_of 32 (code_of 32 z + a) ≡ sample_with (main z) a
      go (pos n) h free =
          let l : n < 8388608 = ltb-true n 8388608 h in
          rw (lt-ltb (n + a) (2 ^ 31) (omega arith), lt-ltb (n / 16 * 16 + a) 8388608 (omega arith)) (ap pos (omega arith))
      go (negsuc n) h free =
          let l : n < 8388608 = ltb-true n 8388608 h in
          rw (le-ltb (2 ^ 32 - suc n + a) (2 ^ 31) (omega arith), le-ltb ((16777216 - suc n) / 16 * 16 + a) 8388608 (omega arith)) (ap negsuc (omega arith))

-- the lowest four bits of two at once
pub fours : (x : ℕ) → bit_and x 0xF0000000F ≡ x % 2 ^ 4 + x / 2 ^ 32 % 2 ^ 4 * 2 ^ 32
fours x =
    let split : x ≡ x / 2 ^ 32 * 2 ^ 32 + x % 2 ^ 32 = omega arith in
    ap (λ (n : ℕ). bit_and n 0xF0000000F) split ∙ and_block 32 (x / 2 ^ 32) 15 (x % 2 ^ 32) 15 (omega arith) (omega arith)
    ∙ ap₂ (λ (m n : ℕ). m * 2 ^ 32 + n) (and_mask (x / 2 ^ 32) 4) (and_mask (x % 2 ^ 32) 4) ∙ omega arith
