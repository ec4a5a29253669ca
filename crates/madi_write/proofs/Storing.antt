-- Five octets stored at once, and the levels of a block after either level. Assumes nothing.
use mathlib.Core.Path.{◌≡◌, refl, sym, ap, ap₂, ◌∙◌}
use mathlib.Core.List.{List}
use Prim.Native.Nat.{ℕ, zero, suc, ◌+◌, ◌-◌, ◌*◌, ◌/◌, ◌%◌, ◌^◌, ◌≤◌, ◌<◌}
use native.Mathlib.Nat.{add-zero}
use native.Mathlib.Omega.{arith}
use lib.Bits.{bit_xor, xor_comm, xor_lt, xor_shifted}
use lib.ListN.{length, get_or, set}
use lib.Seq.{set_comm}
use Rattle.bits.proofs.Filling.{over, over-next}
use Rattle.bits.proofs.Xor.{xor-half, xor-four, xor-back, xor-twice}
use Rattle.madi_write.specs.Inner.{Levels, Stored}

-- ---- five octets, the first of them last

module _ (j y : ℕ) (new old : List ℕ) (hn : j + 5 ≤ length new) (ho : j + 5 ≤ length old)
    (same : (i : ℕ) → i < 5 → get_or new (j + i) 0 ≡ y / 2 ^ (32 - 8 * i) % 256) where
  -- octet i, where those before it are new
  next : (i v : ℕ) (l : List ℕ) → i < 5 → v ≡ y / 2 ^ (32 - 8 * i) % 256 → l ≡ over (j + i) new old → set l (j + i) v ≡ over (j + (i + 1)) new old
  next i v l h e q =
      let k : j + i + 1 ≡ j + (i + 1) = omega arith in
      ap₂ (λ (m : List ℕ) (x : ℕ). set m (j + i) x) q (e ∙ sym (same i h)) ∙ over-next (j + i) new old 0 (omega arith) (omega arith)
      ∙ ap (λ (m : ℕ). over m new old) k

  first : (v : ℕ) (l : List ℕ) → v ≡ y / 2 ^ 32 % 256 → l ≡ over j new old → set l j v ≡ over (j + 1) new old
  first v l e q =
      ap (λ (m : ℕ). set l m v) (sym (add-zero j)) ∙ next 0 v l (omega arith) e (q ∙ ap (λ (m : ℕ). over m new old) (sym (add-zero j)))

pub five-stored : (j y : ℕ) (l : List ℕ)
    → Stored j y 5 l (set (set (set (set (set l (j + 1) (y / 16777216 % 256)) (j + 2) (y / 65536 % 256)) (j + 3) (y / 256 % 256)) (j + 4) (y % 256)) j (y / 4294967296 % 256))
five-stored j y l new old hn ho same e =
    set_comm (set (set (set l (j + 1) b) (j + 2) c) (j + 3) d) (j + 4) j f a (λ q. absurd (omega arith))
    ∙ next j y new old hn ho same 4 f _ (omega arith) (omega arith)
    (set_comm (set (set l (j + 1) b) (j + 2) c) (j + 3) j d a (λ q. absurd (omega arith))
    ∙ next j y new old hn ho same 3 d _ (omega arith) refl
    (set_comm (set l (j + 1) b) (j + 2) j c a (λ q. absurd (omega arith))
    ∙ next j y new old hn ho same 2 c _ (omega arith) refl
    (set_comm l (j + 1) j b a (λ q. absurd (omega arith))
    ∙ next j y new old hn ho same 1 b _ (omega arith) refl (first j y new old hn ho same a l refl e))))
  where
    a : ℕ
    a = y / 4294967296 % 256

    b : ℕ
    b = y / 16777216 % 256

    c : ℕ
    c = y / 65536 % 256

    d : ℕ
    d = y / 256 % 256

    f : ℕ
    f = y % 256

-- ---- the levels of 40 bits after level 1 are those after level 0, each inverted, with level 1 before them

alternating : (last : ℕ) → last < 2 → bit_xor (last * (2 ^ 41 - 1)) (last * (2 ^ 41 - 1) / 2) ≡ last * 2 ^ 40
alternating zero h = refl
alternating (suc zero) h = refl
alternating (suc (suc n)) h = absurd (omega arith)

pub levels-inverted : (last x y : ℕ) → last < 2 → x < 2 ^ 40 → Levels x y → Levels (last * 2 ^ 40 + x) (bit_xor y (last * (2 ^ 41 - 1)))
levels-inverted last x y bit short f z h e =
    ap (λ (v : ℕ). bit_xor v m) (f (bit_xor z m) (xor_lt 64 z m h (omega arith)) changes) ∙ xor-back z m
  where
    m : ℕ
    m = last * (2 ^ 41 - 1)

    changes : bit_xor (bit_xor z m) (bit_xor z m / 2) ≡ x
    changes =
        ap (bit_xor (bit_xor z m)) (xor-half z m) ∙ xor-four z m (z / 2) (m / 2) ∙ ap₂ bit_xor (e ∙ sym (xor_shifted last 40 x short)) (alternating last bit)
        ∙ xor_comm (bit_xor (last * 2 ^ 40) x) (last * 2 ^ 40) ∙ xor-twice (last * 2 ^ 40) x
