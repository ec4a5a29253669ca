-- A channel's word and its 40 bits: a turn of the writer, a turn of the reader, there and back. Assumes nothing.
use mathlib.Core.Path.{◌≡◌, refl, sym, ap, ◌∙◌}
use mathlib.Core.List.{List}
use Prim.Native.Nat.{ℕ, zero, suc, ◌+◌, ◌*◌, ◌-◌, ◌/◌, ◌%◌, ◌^◌, ◌≤◌, ◌<◌}
use native.Mathlib.Nat.{mod-eq_of_lt, mod-one, mod-lt, zero-add, mul_comm, mul-le-mul_right}
use native.Mathlib.Omega.{arith}
use lib.ListN.{length, get_or}
use mathlib.Core.Bool.{false}
use mathlib.Core.Logic.{⊎_elim}
use Rattle.bits.proofs.Tests.{order}
use lib.Pow.{high, low, shr-shr, pow-add, pow_mono, mod-pow-add, shl_exact, pow_pos, field, mod-mod-pow}
use Rattle.bits.specs.Row.{Row, odd, bits, big_bits, big}
use Rattle.bits.specs.Window.{part, window}
use Rattle.bits.specs.Pack.{chain, pack}
use Rattle.bits.proofs.Rows.{length-bits, length-big_bits, get_d_bits, big-big_bits, bits-mod}
use Rattle.bits.proofs.Windows.{part_same, part-all, window-split, window-part, window-high, window-lt}
use Rattle.bits.proofs.Packing.{length-pack, get_or-pack}
use Rattle.bits.proofs.Chains.{length-chained, part-chained, windows-same}
use Rattle.madi_code.specs.Groups.{group_codes, group_code, command_of, group_of}
use Rattle.madi_code.specs.Channels.{channel_row, ChannelBits, broken, on_data, channel_from, channel_of}
use Rattle.madi_code.specs.declared.Group.{Group}
use Rattle.madi_code.specs.declared.Group.TheVariants.{Data, Half, Nothing}
use Rattle.std.specs.Prelude.{Ok}
use Rattle.madi_code.specs.declared.Broken.{Broken}
use Rattle.madi_code.proofs.GroupLaws.{code_lt, place-lt, group-data, group-only, no-half}

-- ---- sent

abbrev five : ℕ → Row
five d = big_bits 5 (group_code d)

pub length-channel : (w : ℕ) → length (channel_row w) ≡ 40
unfolding channel_row
length-channel w = length-chained five 5 (λ d. length-big_bits 5 (group_code d)) (pack big 4 8 (bits 32 w)) ∙ rw (length-pack big 4 8 (bits 32 w))

part-bits : (w g : ℕ) → g < 8 → part (bits 32 w) (g * 4) 4 ≡ bits 4 (w / 2 ^ (4 * g))
part-bits w g h =
    part_same (bits 32 w) (bits 4 (w / 2 ^ (4 * g))) (g * 4) 0 4 same ∙ part-all (bits 4 (w / 2 ^ (4 * g))) 4 (length-bits 4 (w / 2 ^ (4 * g)))
  where
    same : (k : ℕ) → k < 4 → get_or (bits 32 w) (g * 4 + k) false ≡ get_or (bits 4 (w / 2 ^ (4 * g))) (0 + k) false
    same k l =
        let e : g * 4 + k ≡ 4 * g + k = omega arith in
        get_d_bits 32 w (g * 4 + k) (omega arith) ∙ ap (λ (n : ℕ). odd (w / 2 ^ n)) e ∙ ap odd (sym (shr-shr w (4 * g) k))
        ∙ sym (rw (zero-add k) (get_d_bits 4 (w / 2 ^ (4 * g)) k l))

-- group g of a channel
pub group-sent : (w g : ℕ) → g < 8 → window (channel_row w) (5 * g) 5 ≡ group_code (big (bits 4 (w / 2 ^ (4 * g))))
unfolding channel_row window
group-sent w g h =
    let fours : List ℕ = pack big 4 8 (bits 32 w) in
    let x : ℕ = big (bits 4 (w / 2 ^ (4 * g))) in
    let at : get_or fours g 0 ≡ x = get_or-pack big 4 8 (bits 32 w) g h ∙ ap big (part-bits w g h) in
    ap (λ (p : ℕ). big (part (chain five fours) p 5)) (mul_comm 5 g)
    ∙ ap big (part-chained five 5 (λ d. length-big_bits 5 (group_code d)) fours g (omega (arith, length-pack big 4 8 (bits 32 w))))
    ∙ ap (λ (d : ℕ). big (five d)) at ∙ big-big_bits 5 (group_code x) ∙ mod-eq_of_lt (code_lt x (place-lt (w / 2 ^ (4 * g))))

-- the groups up to g, and one more
pub groups-next : (w g : ℕ) → g < 8
    → window (channel_row w) 0 (5 * g) * 32 + group_code (big (bits 4 (w / 2 ^ (4 * g) % 16))) ≡ window (channel_row w) 0 (5 * (g + 1))
groups-next w g h =
    let n : 5 * (g + 1) ≡ 5 * g + 5 = omega arith in
    ap (λ (r : Row). window (channel_row w) 0 (5 * g) * 32 + group_code (big r)) (bits-mod 4 (w / 2 ^ (4 * g)))
    ∙ sym (ap (window (channel_row w) 0) n ∙ window-split (channel_row w) 0 (5 * g) 5 ∙ rw (zero-add, group-sent w g h))

pub groups-all : (w : ℕ) → window (channel_row w) 0 40 ≡ big (channel_row w)
unfolding window
groups-all w = ap big (part-all (channel_row w) 40 (length-channel w))

-- an inactive channel, whose word is 0: eight groups 11110
pub idle-bits : big (channel_row 0) ≡ 0b1111011110111101111011110111101111011110
unfolding channel_row chain pack part big bits big_bits group_code group_codes
idle-bits = refl

-- ---- received

-- group g of 40 bits
pub group-inside : (v g : ℕ) → g < 8 → v / 2 ^ (35 - 5 * g) % 32 ≡ window (big_bits 40 v) (5 * g) 5
unfolding window
group-inside v g h =
    let r : Row = big_bits 40 v in
    let s : ℕ = 35 - 5 * g in
    let n : 5 * g + 5 + s ≡ 40 = omega arith in
    let whole : v % 2 ^ (5 * g + 5 + s) ≡ window r 0 (5 * g + 5 + s) =
    ap (λ (k : ℕ). v % 2 ^ k) n ∙ sym (ap (window r 0) n ∙ ap big (part-all r 40 (length-big_bits 40 v)) ∙ big-big_bits 40 v) in
    sym (mod-mod-pow (v / 2 ^ s) (5 * g) 5) ∙ ap (λ (x : ℕ). x % 32) (sym (field v (5 * g + 5) s) ∙ ap (λ (x : ℕ). x / 2 ^ s) whole)
    ∙ window-part r 0 (5 * g) 5 s ∙ ap (λ (at : ℕ). window r at 5) (zero-add (5 * g))

module _ (r : Row) (g w : ℕ) (h : g < 8) where
  left : 8 - g ≡ suc (8 - (g + 1))
  left = omega arith

  pub channel-more : (x : ℕ) → group_of (window r (5 * g) 5) ≡ Data x
      → channel_from r (8 - g) g w ≡ channel_from r (8 - (g + 1)) (g + 1) (w + x * 2 ^ (4 * g))
  unfolding channel_from
  channel-more x e = rw (left, e)

  -- a group that is no data group stops it
  pub channel-stop : (t : Group) → group_of (window r (5 * g) 5) ≡ t → ((on : ℕ → ChannelBits) (stop : ChannelBits) → on_data t on stop ≡ stop)
      → channel_from r (8 - g) g w ≡ broken g
  unfolding channel_from
  channel-stop t e stops = rw (left, e) (stops (λ x. channel_from r (8 - (g + 1)) (g + 1) (w + x * 2 ^ (4 * g))) (broken g))

-- four more bits of the word
pub word-grows : (w x g : ℕ) → x < 16 → w < 2 ^ (4 * g) → w + x * 2 ^ (4 * g) < 2 ^ (4 * (g + 1))
word-grows w x g hx h =
    let p : 4 * (g + 1) ≡ 4 * g + 4 = omega arith in
    rw (p, pow-add 2 (4 * g) 4) (grow x (2 ^ (4 * g)) w hx h)
  where
    grow : (t p w : ℕ) → t < 16 → w < p → w + t * p < p * 16
    grow t p w ht hw = omega (arith, mul-le-mul_right {m = t} {n = 15} p (omega arith))

pub word_fits : (w g : ℕ) → g ≤ 8 → w < 2 ^ (4 * g) → w < 2 ^ 32
word_fits w g hg h = omega (arith, pow_mono {i = 4 * g} {j = 32} (omega arith))

pub four-shl : (x g : ℕ) → x < 16 → g < 8 → x * 2 ^ (4 * g) % 2 ^ 32 ≡ x * 2 ^ (4 * g)
four-shl x g hx h = shl_exact {a = x} 4 (4 * g) 32 hx (omega arith)

-- ---- there and back

meant-four : (w g : ℕ) → g < 8 → group_of (window (channel_row w) (5 * g) 5) ≡ Data (w / 2 ^ (4 * g) % 16)
meant-four w g h =
    ap group_of (group-sent w g h ∙ ap (λ (r : Row). group_code (big r)) (sym (bits-mod 4 (w / 2 ^ (4 * g)))))
    ∙ group-data (w / 2 ^ (4 * g) % 16) (omega arith)

module _ (w : ℕ) (hw : w < 2 ^ 32) where
  gathered : (g : ℕ) → w % 2 ^ (4 * g) + w / 2 ^ (4 * g) % 16 * 2 ^ (4 * g) ≡ w % 2 ^ (4 * (g + 1))
  gathered g =
      let e : 4 * (g + 1) ≡ 4 + 4 * g = omega arith in
      let m : w % 2 ^ (4 + 4 * g) ≡ w / 2 ^ (4 * g) % 16 * 2 ^ (4 * g) + w % 2 ^ (4 * g) = mod-pow-add w 4 (4 * g) in
      omega (arith, m) ∙ ap (λ (x : ℕ). w % 2 ^ x) (sym e)

  from-group : (n g : ℕ) → n + g ≡ 8 → channel_from (channel_row w) n g (w % 2 ^ (4 * g)) ≡ Ok w
  unfolding channel_from
  from-group zero g e =
      let e8 : 4 * g ≡ 32 = omega arith in
      ap (λ (x : ℕ). Ok (w % 2 ^ x)) e8 ∙ ap Ok (mod-eq_of_lt hw)
  from-group (suc n) g e =
      ap (λ (x : Group). on_data x (λ d. channel_from (channel_row w) n (g + 1) (w % 2 ^ (4 * g) + d * 2 ^ (4 * g))) (broken g)) (meant-four w g (omega arith))
      ∙ ap (channel_from (channel_row w) n (g + 1)) (gathered g) ∙ from-group n (g + 1) (omega arith)

  -- the 40 bits of a word are read as the word
  pub channel-back : channel_of (channel_row w) ≡ Ok w
  unfolding channel_of
  channel-back = ap (channel_from (channel_row w) 8 0) (sym (mod-one w)) ∙ from-group 8 0 refl

-- what is left of 40 bits that are read as a word
record Rest (r : Row) (w g v : ℕ) : Type 0 where
  low : w % 2 ^ (4 * g) ≡ v
  small : w < 2 ^ 32
  sent : (k : ℕ) → g ≤ k → k < 8 → window r (5 * k) 5 ≡ window (channel_row w) (5 * k) 5

-- the word is known from its low part and four bits more
two-parts : (w v x g : ℕ) → v < 2 ^ (4 * g) → x < 16 → w % 2 ^ (4 * (g + 1)) ≡ v + x * 2 ^ (4 * g)
    → (w % 2 ^ (4 * g) ≡ v) × (w / 2 ^ (4 * g) % 16 ≡ x)
two-parts w v x g hv hx e =
    let n : 4 * (g + 1) ≡ 4 + 4 * g = omega arith in
    let p : ℕ = 2 ^ (4 * g) in
    let m : w / p % 16 * p + w % p ≡ x * p + v =
    sym (mod-pow-add w 4 (4 * g)) ∙ ap (λ (k : ℕ). w % 2 ^ k) (sym n) ∙ e ∙ omega arith in (
      sym (low (w / p % 16) (4 * g) (mod-lt w (pow_pos (4 * g)))) ∙ ap (λ (y : ℕ). y % 2 ^ (4 * g)) m ∙ low x (4 * g) hv,
      sym (high (w / p % 16) (4 * g) (mod-lt w (pow_pos (4 * g)))) ∙ ap (λ (y : ℕ). y / 2 ^ (4 * g)) m ∙ high x (4 * g) hv,
    )

module _ (r : Row) (w : ℕ) where
  rest_of : (n g v : ℕ) → n + g ≡ 8 → v < 2 ^ (4 * g) → channel_from r n g v ≡ Ok w → Rest r w g v
  unfolding channel_from
  rest_of zero g v e hv q =
      let same : v ≡ w = cc in
      record {
        low = ap (λ (x : ℕ). x % 2 ^ (4 * g)) (sym same) ∙ mod-eq_of_lt hv;
        small = omega (arith, word_fits v g (omega arith) hv);
        sent = λ k a b. absurd (omega arith);
      }
  rest_of (suc n) g v e hv q = by (group_of (window r (5 * g) 5)) refl (rest_of n) q
    where
      by : (t : Group) → group_of (window r (5 * g) 5) ≡ t
          → ((g v : ℕ) → n + g ≡ 8 → v < 2 ^ (4 * g) → channel_from r n g v ≡ Ok w → Rest r w g v)
          → on_data t (λ x. channel_from r n (g + 1) (v + x * 2 ^ (4 * g))) (broken g) ≡ Ok w → Rest r w g v
      by Nothing f on q = absurd (let z : ◌≡◌ {A = ℕ} 0 1 = cc in omega arith)
      by Half f on q = absurd (let z : ◌≡◌ {A = ℕ} 0 1 = cc in omega arith)
      by (Data x) f on q =
          let only = group-only (window r (5 * g) 5) x f in
          let rest = on (g + 1) (v + x * 2 ^ (4 * g)) (omega arith) (word-grows v x g only.0 hv) q in
          let parts = two-parts w v x g hv only.0 rest.low in
          let here : window r (5 * g) 5 ≡ window (channel_row w) (5 * g) 5 =
          only.1 ∙ ap (λ (y : ℕ). group_code (big (bits 4 y))) (sym parts.1) ∙ ap (λ (s : Row). group_code (big s)) (bits-mod 4 (w / 2 ^ (4 * g)))
          ∙ sym (group-sent w g (omega arith)) in
          record {
            low = parts.0;
            small = rest.small;
            sent = λ k a b. ⊎_elim (λ (s : k ≤ g). let same : g ≡ k = omega arith in rw same at here) (λ (s : g < k). rest.sent k (omega arith) b) (order k g);
          }

  -- 40 bits that are read as a word are the bits of that word
  pub channel-only : length r ≡ 40 → channel_of r ≡ Ok w → (w < 2 ^ 32) × (r ≡ channel_row w)
  unfolding channel_of
  channel-only h e =
      let rest = rest_of 8 0 0 refl (omega arith) e in (
        rest.small,
        windows-same 5 8 r (channel_row w) h (length-channel w)
            (λ j l. ap (λ (p : ℕ). window r p 5) (mul_comm j 5) ∙ rest.sent j (omega arith) l ∙ ap (λ (p : ℕ). window (channel_row w) p 5) (mul_comm 5 j)),
      )

group-once : (k g : ℕ) → broken k ≡ broken g → k ≡ g
group-once k g q =
    let same : ◌≡◌ {A = Broken} (record { group = k }) (record { group = g }) = cc in
    ap (λ (b : Broken). b.group) same

-- the first group that is no data group is one of eight
pub broken-lt : (r : Row) (g : ℕ) → channel_of r ≡ broken g → g < 8
unfolding channel_of channel_from
broken-lt r g e = from 8 0 0 refl e
  where
    from : (n k w : ℕ) → n + k ≡ 8 → channel_from r n k w ≡ broken g → g < 8
    from zero k w h q = absurd (let z : ◌≡◌ {A = ℕ} 0 1 = cc in omega arith)
    from (suc n) k w h q = by (group_of (window r (5 * k) 5)) (from n) q
      where
        by : (t : Group) → ((k w : ℕ) → n + k ≡ 8 → channel_from r n k w ≡ broken g → g < 8)
            → on_data t (λ x. channel_from r n (k + 1) (w + x * 2 ^ (4 * k))) (broken k) ≡ broken g → g < 8
        by Nothing on q = omega (arith, group-once k g q)
        by Half on q = omega (arith, group-once k g q)
        by (Data x) on q = on (k + 1) (w + x * 2 ^ (4 * k)) (omega arith) q

-- no channel begins with a command
pub channel-no-command : (w : ℕ) → command_of (window (channel_row w) 0 10) ≡ 16
channel-no-command w = no-half (window (channel_row w) 0 10) (λ e. no-data (sym (ap group_of first-five) ∙ e))
  where
    first-five : window (channel_row w) 0 10 / 32 % 32 ≡ window (channel_row w) (5 * 0) 5
    first-five = omega (arith, window-high (channel_row w) 0 5 5, window-lt (channel_row w) 0 5)

    no-data : group_of (window (channel_row w) (5 * 0) 5) ≡ Half → ⊥
    no-data e =
        let d : Data (w / 2 ^ (4 * 0) % 16) ≡ Half = sym (meant-four w 0 (omega arith)) ∙ e in
        let z : ◌≡◌ {A = ℕ} 0 1 = cc in
        omega arith
