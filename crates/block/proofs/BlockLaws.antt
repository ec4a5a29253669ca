-- A block there and back: samples and side table from the bodies that carry them, and bodies from what was read of
-- them. Assumes nothing.
use mathlib.Core.Path.{◌≡◌, refl, sym, ap, ap₂, ◌∙◌, subst}
use mathlib.Core.Bool.{true, false}
use mathlib.Core.Logic.{⊎_elim}
use mathlib.Core.List.{List}
use Prim.Native.Nat.{ℕ, zero, suc, ◌+◌, ◌*◌, ◌/◌, ◌%◌, ◌≤◌, ◌<◌}
use native.Mathlib.Omega.{arith}
use borrow.Author.Tests.{eq-eqb}
use lib.IntN.{ℤ, pos}
use lib.ListN.{length, get_or, get_or-eq_default}
use lib.Seq.{ext_get_or}
use Rattle.bits.specs.Row.{Row, digit, odd, bit, Below}
use Rattle.bits.proofs.Tests.{order}
use Rattle.bits.proofs.Digits.{digit-odd}
use Rattle.bits.proofs.Lists.{length-listed, get_or-listed, listed-all, length-joined, get_or-joined}
use Rattle.subframe.specs.Signed.{in_range, code_of}
use Rattle.answer.specs.Answer.{Answer, Answer.accepted, Answer.refused, told, after}
use Rattle.answer.specs.Demand.{◌&◌}
use Rattle.answer.proofs.Chains.{passing}
use Rattle.answer.proofs.Residues.{whole}
use Rattle.subframe.specs.Body.{parity_of, IsBody, Proper, body_of, body_written, sample_of}
use Rattle.block.specs.Side.{validity_of, validity, user, status, fault, columns, column_bit, column_length, side_length, side_bit, column_in, column_of}
use Rattle.subframe.proofs.BodyTrips.{written_in, written-proper, proper-zero, read-written, Reading, reading, write-fields, body-proper}
use Rattle.block.proofs.SideLaws.{column-lt, side-lt, side-in, column-at, row-column, written_back, get_or-column_in, length-column}
use Rattle.block.specs.Block.{side_at, subframe_body, bodies_of, samples_of, row_from, side_of, fill_demands, block_filled}
use Rattle.block.specs.Check.{Faultless}

-- every sample is one of 24 bits
abbrev pub InRange : List ℤ → Type 0
InRange samples = (i : ℕ) → in_range 24 (get_or samples i (pos 0)) ≡ true

-- every number is a body
abbrev pub Bodies : List ℕ → Type 0
Bodies bodies = (i : ℕ) → Proper (get_or bodies i 0)

-- ---- the elements

pub length-bodies : (s : List ℤ) (t : List ℕ) → length (bodies_of s t) ≡ 384
unfolding bodies_of
length-bodies s t = length-listed 0 384 (subframe_body s t)

pub get_or-bodies : (s : List ℤ) (t : List ℕ) (i : ℕ) → i < 384 → get_or (bodies_of s t) i 0 ≡ subframe_body s t i
unfolding bodies_of
get_or-bodies s t i h = get_or-listed 384 (subframe_body s t) i 0 h

pub length-samples : (b : List ℕ) → length (samples_of b) ≡ 384
unfolding samples_of
length-samples b = length-listed 0 384 (λ i. sample_of (get_or b i 0))

pub get_or-samples : (b : List ℕ) (i : ℕ) → i < 384 → get_or (samples_of b) i (pos 0) ≡ sample_of (get_or b i 0)
unfolding samples_of
get_or-samples b i h = get_or-listed 384 (λ i. sample_of (get_or b i 0)) i (pos 0) h

-- the row and the octets of column k of what is read
abbrev row_of : List ℕ → ℕ → Row
row_of b k = row_from (column_bit (k % columns)) b (k / columns)

abbrev pub column_read : List ℕ → ℕ → List ℕ
column_read b k = column_of (row_of b k)

pub length-side : (b : List ℕ) → length (side_of b) ≡ side_length
unfolding side_of
length-side b = length-joined column_length (column_read b) (λ k. length-column (row_of b k)) 0 (2 * columns)

module _ (holds : ℕ → ℕ) (b : List ℕ) (ch : ℕ) where
  pub length-channel-row : length (row_from holds b ch) ≡ 192
  unfolding row_from
  length-channel-row = length-listed 0 192 (λ f. odd (holds (get_or b (2 * f + ch) 0)))

  pub get_or-channel-row : (f : ℕ) → f < 192 → get_or (row_from holds b ch) f false ≡ odd (holds (get_or b (2 * f + ch) 0))
  unfolding row_from
  get_or-channel-row f h = get_or-listed 192 (λ f. odd (holds (get_or b (2 * f + ch) 0))) f false h

pub get_or-side : (b : List ℕ) (k j : ℕ) → k < 2 * columns → j < column_length
    → get_or (side_of b) (column_length * k + j) 0 ≡ get_or (column_read b k) j 0
unfolding side_of
get_or-side b k j hk hj =
    let e : column_length * k + j ≡ k * column_length + j = omega arith in
    rw e (get_or-joined column_length (column_read b) (λ i. length-column (row_of b i)) (2 * columns) k j 0 hk hj)

-- a bit of what is read
pub side-of : (b : List ℕ) (k f : ℕ) → k < 2 * columns → f < 192
    → side_bit (side_of b) k f ≡ column_bit (k % columns) (get_or b (2 * f + k / columns) 0)
side-of b k f hk hf =
    let r = row_of b k in
    let holds = column_bit (k % columns) in
    let body = get_or b (2 * f + k / columns) 0 in
    side-in (side_of b) k f hk hf
    ∙ ap (bit (f % 8)) (get_or-side b k (f / 8) hk (omega arith))
    ∙ sym (column-at (column_of r) f (omega (arith, length-column r)))
    ∙ ap (λ (x : Row). digit (get_or x f false)) (row-column r (length-channel-row holds b (k / columns)))
    ∙ ap digit (get_or-channel-row holds b (k / columns) f hf)
    ∙ digit-odd (holds body)
    ∙ omega (arith, column-lt (k % columns) body)

-- ---- the bodies are proper, whatever the samples

told-proper : (z : ℤ) (v u c : ℕ) (a : Answer ℕ) → Proper 0 → body_written z v u c ≡ a → Proper (told 0 a).2
told-proper z v u c (accepted b) n e = written-proper z v u c b e
told-proper z v u c (refused m p) n e = n

pub proper : (s : List ℤ) (t : List ℕ) → Bodies (bodies_of s t)
unfolding subframe_body
proper s t i =
    ⊎_elim
    (λ (h : 384 ≤ i). subst Proper (sym (get_or-eq_default (bodies_of s t) 0 {n = i} (rw length-bodies h))) proper-zero)
    (λ (h : i < 384). subst Proper (sym (get_or-bodies s t i h))
    (told-proper (get_or s i (pos 0)) (side_at t 0 i) (side_at t 1 i) (side_at t 2 i)
    (body_written (get_or s i (pos 0)) (side_at t 0 i) (side_at t 1 i) (side_at t 2 i)) proper-zero refl))
    (order 384 i)

-- ---- from samples and side table to bodies, and back

pub side-digit : (t : List ℕ) (k i : ℕ) → side_at t k i < 2
unfolding side_at
side-digit t k i = side-lt t (columns * (i % 2) + k) (i / 2)

-- the octet that a subframe's digit stands in
pub side-octet : (t : List ℕ) (k i : ℕ) → k < columns → i < 384
    → side_at t k i ≡ bit (i / 2 % 8) (get_or t (column_length * (columns * (i % 2) + k) + i / 16) 0)
unfolding side_at
side-octet t k i hk hi =
    let c = columns * (i % 2) + k in
    let e : i / 2 / 8 ≡ i / 16 = omega arith in
    side-in t c (i / 2) (omega arith) (omega arith) ∙ ap (λ (j : ℕ). bit (i / 2 % 8) (get_or t (column_length * c + j) 0)) e

-- body i, from what it is to carry
pub body-told : (s : List ℤ) (t : List ℕ) (i : ℕ) {z : ℤ} {v u c : ℕ} {a : Answer ℕ} → get_or s i (pos 0) ≡ z → side_at t 0 i ≡ v
    → side_at t 1 i ≡ u → side_at t 2 i ≡ c → body_written z v u c ≡ a → subframe_body s t i ≡ (told 0 a).2
unfolding subframe_body
body-told s t i {z} {v} {u} {c} ez ev eu ec e =
    let same : body_written (get_or s i (pos 0)) (side_at t 0 i) (side_at t 1 i) (side_at t 2 i) ≡ body_written z v u c = cc in
    ap (λ (a : Answer ℕ). (told 0 a).2) (same ∙ e)

-- of a sample in range
pub body-in : (s : List ℤ) (t : List ℕ) (i : ℕ) → in_range 24 (get_or s i (pos 0)) ≡ true
    → subframe_body s t i ≡ body_of (code_of 24 (get_or s i (pos 0))) (side_at t 0 i) (side_at t 1 i) (side_at t 2 i)
body-in s t i h =
    body-told s t i refl refl refl refl
    (written_in (get_or s i (pos 0)) (side_at t 0 i) (side_at t 1 i) (side_at t 2 i) h (side-digit t 0 i) (side-digit t 1 i) (side-digit t 2 i))

module _ (s : List ℤ) (t : List ℕ) (ranges : InRange s) where
  -- body i carries sample i and its V, U and C
  carries : (i : ℕ) → Reading (subframe_body s t i) (get_or s i (pos 0), side_at t 0 i, side_at t 1 i, side_at t 2 i)
  carries i =
      let z = get_or s i (pos 0) in
      let e = written_in z (side_at t 0 i) (side_at t 1 i) (side_at t 2 i) (ranges i) (side-digit t 0 i) (side-digit t 1 i) (side-digit t 2 i) in
      let b = body_of (code_of 24 z) (side_at t 0 i) (side_at t 1 i) (side_at t 2 i) in
      subst (λ (x : ℕ). Reading x (z, side_at t 0 i, side_at t 1 i, side_at t 2 i)) (sym (body-in s t i (ranges i)))
      (reading b (z, side_at t 0 i, side_at t 1 i, side_at t 2 i) (read-written z (side_at t 0 i) (side_at t 1 i) (side_at t 2 i) b e))

  -- and is even
  carried : Faultless t → (i k : ℕ) → i < 384 → k < columns → column_bit k (subframe_body s t i) ≡ side_at t k i
  unfolding column_bit
  carried none i zero hi h = rw (carries i).evenly (ap (λ f. f.1) (carries i).fields)
  carried none i (suc zero) hi h = ap (λ f. f.2) (carries i).fields
  carried none i (suc (suc zero)) hi h = ap (λ f. f.3) (carries i).fields
  carried none i (suc (suc (suc zero))) hi h = (carries i).evenly ∙ sym (none i hi)
  carried none i (suc (suc (suc (suc n)))) hi h = absurd (omega arith)

  pub samples-back : length s ≡ 384 → samples_of (bodies_of s t) ≡ s
  unfolding samples_of
  samples-back n =
      listed-all 384 (λ i. sample_of (get_or (bodies_of s t) i 0)) s (pos 0) n
      (λ i h. ap sample_of (get_or-bodies s t i h) ∙ ap (λ f. f.0) (carries i).fields)

  -- the bit of a frame in a column
  column-bit : Faultless t → (k f : ℕ) → k < 2 * columns → f < 192
      → odd (column_bit (k % columns) (get_or (bodies_of s t) (2 * f + k / columns) 0)) ≡ odd (side_bit t k f)
  unfolding side_at
  column-bit none k f hk hf =
      let i = 2 * f + k / columns in
      let hi : i < 384 = omega arith in
      let p : columns * (i % 2) + k % columns ≡ k = omega arith in
      let q : i / 2 ≡ f = omega arith in
      ap (λ (b : ℕ). odd (column_bit (k % columns) b)) (get_or-bodies s t i hi)
      ∙ ap odd (carried none i (k % columns) hi (omega arith) ∙ ap₂ (side_bit t) p q)

  column-back : length t ≡ side_length → Below 256 t → Faultless t → (k : ℕ) → k < 2 * columns → column_read (bodies_of s t) k ≡ column_in t k
  column-back n octets none k hk =
      let holds = column_bit (k % columns) in
      ap column_of (sym (listed-all 192 (λ f. odd (side_bit t k f)) (row_of (bodies_of s t) k) false
      (length-channel-row holds (bodies_of s t) (k / columns))
      (λ f hf. sym (get_or-channel-row holds (bodies_of s t) (k / columns) f hf ∙ column-bit none k f hk hf))))
      ∙ written_back t n k hk octets

  -- where E is empty
  pub side-back : length t ≡ side_length → Below 256 t → Faultless t → side_of (bodies_of s t) ≡ t
  side-back n octets none =
      ext_get_or 0 (side_of (bodies_of s t)) t (length-side (bodies_of s t) ∙ sym n) (λ i h. same i (rw length-side at h))
    where
      same : (i : ℕ) → i < side_length → get_or (side_of (bodies_of s t)) i 0 ≡ get_or t i 0
      same i h =
          let e : i ≡ column_length * (i / column_length) + i % column_length = omega arith in
          let hk : i / column_length < 2 * columns = omega arith in
          let hj : i % column_length < column_length = omega arith in
          ap (λ (m : ℕ). get_or (side_of (bodies_of s t)) m 0) e
          ∙ get_or-side (bodies_of s t) (i / column_length) (i % column_length) hk hj
          ∙ ap (λ (l : List ℕ). get_or l (i % column_length) 0) (column-back n octets none (i / column_length) hk)
          ∙ get_or-column_in t (i / column_length) (i % column_length) hj
          ∙ ap (λ (m : ℕ). get_or t m 0) (sym e)

-- ---- from bodies to samples and side table, and back

module _ (b : List ℕ) where
  side-read : (i k : ℕ) → i < 384 → k < columns → side_at (side_of b) k i ≡ column_bit k (get_or b i 0)
  unfolding side_at
  side-read i k h hf =
      let c = columns * (i % 2) + k in
      let p : c % columns ≡ k = omega arith in
      let q : 2 * (i / 2) + c / columns ≡ i = omega arith in
      side-of b c (i / 2) (omega arith) (omega arith) ∙ ap₂ (λ (m j : ℕ). column_bit m (get_or b j 0)) p q

  -- V, U, C and E of each subframe, by its body
  module _ (i : ℕ) (h : i < 384) where
    pub V-read : side_at (side_of b) validity i ≡ validity_of (get_or b i 0)
    unfolding column_bit
    V-read = side-read i validity h (omega arith)

    pub U-read : side_at (side_of b) user i ≡ bit 29 (get_or b i 0)
    unfolding column_bit
    U-read = side-read i user h (omega arith)

    pub C-read : side_at (side_of b) status i ≡ bit 30 (get_or b i 0)
    unfolding column_bit
    C-read = side-read i status h (omega arith)

    pub E-read : side_at (side_of b) fault i ≡ parity_of (get_or b i 0)
    unfolding column_bit
    E-read = side-read i fault h (omega arith)

  -- where E is empty the bodies are even
  pub even-read : length b ≡ 384 → ((i : ℕ) → IsBody (get_or b i 0)) → Faultless (side_of b) → Bodies b
  even-read n all none i =
      ⊎_elim
      (λ (h : 384 ≤ i). subst Proper (sym (get_or-eq_default b 0 {n = i} (rw n h))) proper-zero)
      (λ (h : i < 384). body-proper (get_or b i 0) (all i) (sym (E-read i h) ∙ none i h))
      (order 384 i)

  pub bodies-back : length b ≡ 384 → Bodies b → bodies_of (samples_of b) (side_of b) ≡ b
  unfolding bodies_of
  bodies-back n all = listed-all 384 (subframe_body (samples_of b) (side_of b)) b 0 n (λ i h. same i h)
    where
      same : (i : ℕ) → i < 384 → subframe_body (samples_of b) (side_of b) i ≡ get_or b i 0
      same i h =
          body-told (samples_of b) (side_of b) i (get_or-samples b i h) (V-read i h ∙ rw (all i).evenly) (U-read i h) (C-read i h)
          (write-fields (get_or b i 0) (all i))

-- ---- filling

-- bodies and buffers of the right lengths are filled, all of them
pub filling : (bodies : List ℕ) (samples : List ℤ) (side : List ℕ) → length bodies ≡ 384 → length samples ≡ 384 → length side ≡ side_length
    → (block_filled bodies (length samples) (length side) ≡ accepted bodies)
    × (after samples_of (block_filled bodies (length samples) (length side)) samples ≡ samples_of bodies)
    × (after side_of (block_filled bodies (length samples) (length side)) side ≡ side_of bodies)
unfolding block_filled
filling bodies samples side nb ns nt =
    let e : block_filled bodies (length samples) (length side) ≡ accepted bodies =
    passing (accepted bodies) (fill_demands bodies (length samples) (length side)) (eq-eqb _ 384 nb & eq-eqb _ 384 ns & eq-eqb _ side_length nt & tt) in (
      e,
      rw e (whole samples_of bodies samples (length-samples bodies ∙ sym ns)),
      rw e (whole side_of bodies side (length-side bodies ∙ sym nt)),
    )
