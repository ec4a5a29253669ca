-- V, U and C of sixteen subframes in one number, and the bodies that they make with the samples. Assumes nothing.
use mathlib.Core.Path.{◌≡◌, refl, sym, ap, ap₂, ◌∙◌}
use mathlib.Core.Bool.{true}
use mathlib.Core.List.{List}
use Prim.Native.Nat.{ℕ, suc, ◌+◌, ◌-◌, ◌*◌, ◌/◌, ◌%◌, ◌^◌, ◌<◌}
use native.Mathlib.Omega.{arith}
use native.Mathlib.Numerals.{add-one}
use lib.IntN.{ℤ, pos}
use lib.ListN.{get_or}
use Rattle.bits.specs.Row.{bit}
use Rattle.bits.specs.Listed.{listed}
use Rattle.bits.proofs.Lists.{get_or-listed}
use Rattle.subframe.specs.Signed.{in_range, code_of}
use Rattle.subframe.specs.Body.{parity_of}
use Rattle.subframe.proofs.BodyLaws.{body-laid}
use Rattle.block.specs.Side.{columns, column_length}
use Rattle.block.specs.Block.{side_at, subframe_body}
use Rattle.block.proofs.BlockLaws.{side-digit, side-octet, body-in}
use Rattle.aes3_write.specs.Inner.{body_with, flags, flags_from, spread, spread_table, octet_in, eight_flags}
use Rattle.aes3_write.specs.declared.tables.TheConstants.{SPREAD}

-- ---- an octet's bits apart

-- one test, which antt computes over all 256 entries
pub spreads-right : SPREAD ≡ spread_table
unfolding spread_table spread listed
spreads-right = refl

pub spread_at : (o : ℕ) → o < 256 → get_or spread_table o 0 ≡ spread o
unfolding spread_table
spread_at o h = get_or-listed 256 spread o 0 h

pub spread-lt : (o : ℕ) → spread o < 72340172838076674
unfolding spread
spread-lt o = omega arith

-- ---- sixteen subframes

-- V, U and C of frame f of eight
abbrev flag_at : List ℕ → ℕ → ℕ → ℕ → ℕ
flag_at side ch j f = bit f (octet_in side ch 0 j) + bit f (octet_in side ch 1 j) * 2 + bit f (octet_in side ch 2 j) * 4

abbrev apart : (ℕ → ℕ) → ℕ
apart v = v 0 + v 1 * 2 ^ 8 + v 2 * 2 ^ 16 + v 3 * 2 ^ 24 + v 4 * 2 ^ 32 + v 5 * 2 ^ 40 + v 6 * 2 ^ 48 + v 7 * 2 ^ 56

woven : (v u c : ℕ → ℕ) → apart v + apart u * 2 + apart c * 4 ≡ apart (λ k. v k + u k * 2 + c k * 4)
woven v u c = omega arith

nested : (a b r : ℕ) → a + 16 * (b + 16 * r) ≡ a + 16 * b + 256 * r
nested a b r = omega arith

chained : (a b r : ℕ → ℕ) → ((f : ℕ) → f < 8 → r f ≡ a f + 16 * b f + 256 * r (f + 1)) → r 8 ≡ 0 → apart a + apart b * 16 ≡ r 0
chained a b r s e =
    omega (
      arith,
      s 0 (omega arith),
      s 1 (omega arith),
      s 2 (omega arith),
      s 3 (omega arith),
      s 4 (omega arith),
      s 5 (omega arith),
      s 6 (omega arith),
      s 7 (omega arith),
    )

module _ (side : List ℕ) (j : ℕ) (hj : j < column_length) where
  field_at : (k ch f : ℕ) → k < columns → ch < 2 → f < 8 → side_at side k (16 * j + 2 * f + ch) ≡ bit f (octet_in side ch k j)
  unfolding octet_in
  field_at k ch f hk hc hf =
      let i = 16 * j + 2 * f + ch in
      let p : i / 2 % 8 ≡ f = omega arith in
      let q : i % 2 ≡ ch = omega arith in
      let o : i / 16 ≡ j = omega arith in
      side-octet side k i hk (omega arith) ∙ rw (p, q, o)

  flags-at : (ch f : ℕ) → ch < 2 → f < 8 → flags side (16 * j + 2 * f + ch) ≡ flag_at side ch j f
  unfolding flags
  flags-at ch f hc hf = rw (field_at 0 ch f (omega arith) hc hf, field_at 1 ch f (omega arith) hc hf, field_at 2 ch f (omega arith) hc hf)

  -- those from frame f of eight on
  abbrev onward : ℕ → ℕ
  onward f = flags_from side (16 * j + 2 * f) (16 - 2 * f)

  step : (f : ℕ) → f < 8 → onward f ≡ flag_at side 0 j f + 16 * flag_at side 1 j f + 256 * onward (f + 1)
  unfolding flags_from
  step f h =
      let n : 16 - 2 * f ≡ suc (suc (16 - 2 * (f + 1))) = omega arith in
      let a : 16 * j + 2 * f ≡ 16 * j + 2 * f + 0 = omega arith in
      let b : suc (16 * j + 2 * f) ≡ 16 * j + 2 * f + 1 = omega arith in
      let c : suc (suc (16 * j + 2 * f)) ≡ 16 * j + 2 * (f + 1) = omega arith in
      let p : flags side (16 * j + 2 * f) ≡ flag_at side 0 j f = ap (flags side) a ∙ flags-at 0 f (omega arith) h in
      let q : flags side (suc (16 * j + 2 * f)) ≡ flag_at side 1 j f = ap (flags side) b ∙ flags-at 1 f (omega arith) h in
      rw (n, p, q, c) (nested (flag_at side 0 j f) (flag_at side 1 j f) (onward (f + 1)))

  eight-apart : (ch : ℕ) → eight_flags side ch j ≡ apart (flag_at side ch j)
  unfolding eight_flags spread
  eight-apart ch = woven (λ k. bit k (octet_in side ch 0 j)) (λ k. bit k (octet_in side ch 1 j)) (λ k. bit k (octet_in side ch 2 j))

  pub sixteen-laid : (a b : ℕ) → a ≡ eight_flags side 0 j → b ≡ eight_flags side 1 j → a + b * 16 ≡ flags_from side (16 * j) 16
  unfolding flags_from
  sixteen-laid a b ea eb =
      let z : 16 * j + 2 * 0 ≡ 16 * j = omega arith in
      ap₂ (λ (x y : ℕ). x + y * 16) (ea ∙ eight-apart 0) (eb ∙ eight-apart 1)
      ∙ chained (flag_at side 0 j) (flag_at side 1 j) onward step refl ∙ ap (λ (i : ℕ). flags_from side i 16) z

-- where V, U and C of a channel stand
pub octet-at : (side : List ℕ) (ch k j : ℕ) → get_or side (column_length * columns * ch + j + column_length * k) 0 ≡ octet_in side ch k j
unfolding octet_in
octet-at side ch k j =
    let e : column_length * columns * ch + j + column_length * k ≡ column_length * (columns * ch + k) + j = omega arith in
    ap (λ (i : ℕ). get_or side i 0) e

pub eight-laid : (side : List ℕ) (ch j v u c : ℕ) → v ≡ spread (octet_in side ch 0 j) → u ≡ spread (octet_in side ch 1 j)
    → c ≡ spread (octet_in side ch 2 j) → v + u * 2 + c * 4 ≡ eight_flags side ch j
unfolding eight_flags
eight-laid side ch j v u c ev eu ec = rw (ev, eu, ec)

-- ---- one after the other

three : (t v u c : ℕ) → v < 2 → u < 2 → c < 2 → t ≡ v + u * 2 + c * 4 → (bit 0 t ≡ v) × (bit 1 t ≡ u) × (bit 2 t ≡ c)
three t v u c hv hu hc e = (omega arith, omega arith, omega arith)

module _ (side : List ℕ) (i : ℕ) where
  pub flags-lt : flags side i < 8
  unfolding flags
  flags-lt = omega (arith, side-digit side 0 i, side-digit side 1 i, side-digit side 2 i)

  -- with a sample's bits they are the body
  pub body-with : (samples : List ℤ) (f : ℕ) → in_range 24 (get_or samples i (pos 0)) ≡ true → f ≡ flags side i
      → body_with (code_of 24 (get_or samples i (pos 0))) f ≡ subframe_body samples side i
  unfolding body_with flags
  body-with samples f r e =
      let d = three f (side_at side 0 i) (side_at side 1 i) (side_at side 2 i) (side-digit side 0 i) (side-digit side 1 i) (side-digit side 2 i) e in
      rw (d.0, d.1, d.2) (sym (body-in samples side i r))

-- slots 4 to 30 of such a body, and their parity in slot 31
pub laid-with : (k f low : ℕ) → f < 8 → low ≡ k * 16 + f * 2 ^ 28 → low + parity_of low * 2 ^ 31 ≡ body_with k f
unfolding body_with
laid-with k f low h e =
    let d : low ≡ k * 2 ^ 4 + bit 0 f * 2 ^ 28 + bit 1 f * 2 ^ 29 + bit 2 f * 2 ^ 30 = omega arith in
    ap (λ (n : ℕ). n + parity_of n * 2 ^ 31) d ∙ sym (body-laid k (bit 0 f) (bit 1 f) (bit 2 f))

-- the flags of a frame's two subframes, and those after them
pub flags-frame : (side : List ℕ) (i n all : ℕ) → all ≡ flags_from side i (suc (suc n))
    → (all % 8 ≡ flags side i) × (all / 16 % 8 ≡ flags side (i + 1)) × (all / 256 ≡ flags_from side (i + 2) n)
unfolding flags_from
flags-frame side i n all e =
    let s : i + 2 ≡ suc (suc i) = omega arith in
    let a : all ≡ flags side i + 16 * (flags side (i + 1) + 16 * flags_from side (i + 2) n) = e ∙ rw (add-one i, s) in
    (omega (arith, a, flags-lt side i), omega (arith, a, flags-lt side i, flags-lt side (i + 1)), omega (arith, a, flags-lt side i, flags-lt side (i + 1)))
