-- Eight frames of all columns at a time: one frame more below those that are there, and the table of slots 28 to 31 of
-- even and of odd bodies. Assumes nothing.
use mathlib.Core.Path.{◌≡◌, refl, sym, ap, ◌∙◌}
use mathlib.Core.Bool.{false}
use mathlib.Core.List.{List, [], ◌∷◌}
use Prim.Native.Nat.{ℕ, suc, ◌+◌, ◌-◌, ◌*◌, ◌/◌, ◌%◌, ◌^◌, ◌≤◌, ◌<◌}
use native.Mathlib.Nat.{pow-suc}
use native.Mathlib.Numerals.{add-one}
use native.Mathlib.Omega.{arith}
use lib.Dec.{eqb}
use lib.ListN.{length, get_or}
use lib.Pow.{pow_mono}
use Rattle.bits.specs.Pick.{pick}
use Rattle.bits.specs.Row.{digit, bit, little}
use Rattle.bits.specs.Window.{part}
use Rattle.bits.specs.Listed.{listed}
use Rattle.bits.proofs.Tests.{pick-cases}
use Rattle.bits.proofs.Digits.{digit-odd}
use Rattle.bits.proofs.Lists.{length-listed, get_or-listed}
use Rattle.bits.proofs.Rows.{little-lt}
use Rattle.bits.proofs.Windows.{length_part}
use Rattle.subframe.specs.Body.{parity_of}
use Rattle.subframe.proofs.BodyLaws.{parity-lt}
use Rattle.block.specs.Side.{column_bits}
use Rattle.block.specs.Block.{row_from}
use Rattle.block.specs.Inner.{digits_of, apart_table, gathered}
use Rattle.block.proofs.BlockLaws.{get_or-channel-row}

-- ---- the table

unfoldable pub entries : List ℕ
entries =
    0 ∷ 1 ∷ 256 ∷ 257 ∷ 65536 ∷ 65537 ∷ 65792 ∷ 65793 ∷
    0 ∷ 1 ∷ 256 ∷ 257 ∷ 65536 ∷ 65537 ∷ 65792 ∷ 65793 ∷
    16777217 ∷ 16777217 ∷ 16777473 ∷ 16777473 ∷ 16842753 ∷ 16842753 ∷ 16843009 ∷ 16843009 ∷
    16777217 ∷ 16777217 ∷ 16777473 ∷ 16777473 ∷ 16842753 ∷ 16842753 ∷ 16843009 ∷ 16843009 ∷ []

pub entries-right : entries ≡ apart_table
unfolding entries apart_table listed
entries-right = refl

abbrev rule : ℕ → ℕ
rule x = pick (eqb (x / 16) 0) (bit 0 x) 1 + bit 1 x * 256 + bit 2 x * 256 ^ 2 + x / 16 * 256 ^ 3

pub length-apart : length apart_table ≡ 32
unfolding apart_table
length-apart = length-listed 0 32 rule

weighed : (v u c e : ℕ) → v < 2 → u < 2 → c < 2 → e < 2
    → v + u * 256 + c * 256 ^ 2 + e * 256 ^ 3 ≡ v % 2 + 256 * (u % 2 + 256 * (c % 2 + 256 * (e % 2 + 256 * 0)))
weighed v u c e hv hu hc he = omega arith

slot-29 : (b : ℕ) → b / 2 ^ 29 ≡ b / 2 ^ 28 / 2
slot-29 b = omega arith

slot-30 : (b : ℕ) → b / 2 ^ 30 ≡ b / 2 ^ 28 / 4
slot-30 b = omega arith

second : (d p : ℕ) → (d + p * 16) / 2 % 2 ≡ d / 2 % 2
second d p = omega arith

third : (d p : ℕ) → (d + p * 16) / 4 % 2 ≡ d / 4 % 2
third d p = omega arith

-- the columns hold of a body its slots 28 to 30 and whether it is odd
by-rule : (b p : ℕ) → b < 2 ^ 32 → p < 2 → parity_of b ≡ p → rule (b / 2 ^ 28 + p * 16) ≡ digits_of column_bits b
unfolding digits_of
by-rule b p h hp e =
    let x = b / 2 ^ 28 + p * 16 in
    let q : x / 16 ≡ p = omega arith in
    let v : bit 0 x ≡ bit 28 b = omega arith in
    let u : bit 1 x ≡ bit 29 b = rw slot-29 (second (b / 2 ^ 28) p) in
    let c : bit 2 x ≡ bit 30 b = rw slot-30 (third (b / 2 ^ 28) p) in
    rw (e, q, v, u, c)
    (weighed (pick (eqb p 0) (bit 28 b) 1) (bit 29 b) (bit 30 b) p
    (pick-cases (λ n. n < 2) (eqb p 0) (bit 28 b) 1 (λ t. omega arith) (λ t. omega arith)) (omega arith) (omega arith) hp)

pub entry : (table : List ℕ) (b p : ℕ) → table ≡ apart_table → b < 2 ^ 32 → p ≡ parity_of b
    → get_or table (b / 2 ^ 28 + p * 16) 0 ≡ digits_of column_bits b
unfolding apart_table
entry table b p e h q =
    let l : p < 2 = rw q (parity-lt b) in
    ap (λ (t : List ℕ). get_or t (b / 2 ^ 28 + p * 16) 0) e
    ∙ get_or-listed 32 rule (b / 2 ^ 28 + p * 16) 0 (omega arith)
    ∙ by-rule b p h l (sym q)

pub digits_lt : (gs : List (ℕ → ℕ)) (b : ℕ) → digits_of gs b < 256 ^ length gs
unfolding digits_of
digits_lt [] b = omega arith
digits_lt (g ∷ gs) b = rw pow-suc (omega (arith, digits_lt gs b))

-- ---- frames

-- of one column the last m of eight frames from frame f on; one frame more
row_more : (g : ℕ → ℕ) (bodies : List ℕ) (channel f m : ℕ) → f + 8 ≤ 192 → m < 8
    → little (part (row_from g bodies channel) (f + 8 - (m + 1)) (m + 1))
    ≡ little (part (row_from g bodies channel) (f + 8 - m) m) * 2 + g (get_or bodies (2 * (f + 7 - m) + channel) 0) % 2
unfolding little part
row_more g bodies channel f m hf h =
    let at = f + 7 - m in
    let p : f + 8 - (m + 1) ≡ at = omega arith in
    let q : f + 8 - m ≡ suc at = omega arith in
    let d : digit (get_or (row_from g bodies channel) at false) ≡ g (get_or bodies (2 * at + channel) 0) % 2 =
    ap digit (get_or-channel-row g bodies channel at (omega arith)) ∙ digit-odd (g (get_or bodies (2 * at + channel) 0)) in
    rw (p, q, add-one m) (omega arith)

module _ (bodies : List ℕ) (channel f m : ℕ) where
  pub more : (gs : List (ℕ → ℕ)) → f + 8 ≤ 192 → m < 8
      → gathered gs bodies channel (f + 8 - (m + 1)) (m + 1)
      ≡ gathered gs bodies channel (f + 8 - m) m * 2 + digits_of gs (get_or bodies (2 * (f + 7 - m) + channel) 0)
  unfolding gathered digits_of
  more [] hf h = refl
  more (g ∷ gs) hf h = omega (arith, row_more g bodies channel f m hf h, more gs hf h)

  pub row_lt : (g : ℕ → ℕ) → m ≤ 8 → little (part (row_from g bodies channel) f m) < 256
  row_lt g h =
      omega (
        arith,
        rw (length_part (row_from g bodies channel) f m) at (little-lt (part (row_from g bodies channel) f m)),
        pow_mono {i = m} {j = 8} h,
      )

  pub gathered-lt : (gs : List (ℕ → ℕ)) → m ≤ 8 → gathered gs bodies channel f m < 256 ^ length gs
  unfolding gathered
  gathered-lt [] h = omega arith
  gathered-lt (g ∷ gs) h = rw pow-suc (omega (arith, row_lt g h, gathered-lt gs h))

-- nothing is gathered of no frames
pub none : (gs : List (ℕ → ℕ)) (bodies : List ℕ) (channel f : ℕ) → gathered gs bodies channel f 0 ≡ 0
unfolding gathered little part
none [] bodies channel f = refl
none (g ∷ gs) bodies channel f = omega (arith, none gs bodies channel f)
