-- Eight groups by a table that is lent are the groups of a channel, sent and received. Assumes nothing.
use mathlib.Core.Path.{◌≡◌, refl, sym, ap, ◌∙◌}
use mathlib.Core.List.{List}
use Prim.Native.Nat.{ℕ, ◌+◌, ◌*◌, ◌-◌, ◌/◌, ◌%◌, ◌^◌, ◌<◌}
use native.Mathlib.Nat.{div-one}
use native.Mathlib.Omega.{arith}
use borrow.Author.Tests.{ltb-true, lt-ltb}
use lib.Dec.{ltb}
use lib.Pow.{shr-shr}
use lib.ListN.{length, get_or}
use Rattle.bits.specs.Row.{bits, big_bits, big}
use Rattle.bits.specs.Window.{part, window}
use Rattle.bits.proofs.Tests.{pick-cases}
use Rattle.madi_code.specs.Groups.{group_code, group_of}
use Rattle.madi_code.specs.Channels.{channel_row, ChannelBits, channel_from, channel_of}
use Rattle.bits.proofs.Lists.{get_or-listed, listed-all}
use Rattle.madi_code.specs.Inner.{
  Sends,
  group_table,
  four_groups,
  eight_groups,
  meant,
  Means,
  meaning_table,
  four_sum,
  four_fours,
  eight_sum,
  eight_fours,
  word_by_table,
  channel_by,
}
use Rattle.madi_code.specs.declared.Group.TheVariants.{Data}
use Rattle.std.specs.Prelude.{Ok}
use Rattle.madi_code.proofs.GroupLaws.{group-meant, meant-cases}
use Rattle.madi_code.proofs.ChannelLaws.{groups-next, groups-all, group-inside, channel-more}

-- ---- sent

pub groups-sent : (t : List ℕ) (w : ℕ) → Sends t → eight_groups t w ≡ big (channel_row w)
unfolding four_groups eight_groups window part big
groups-sent t w right =
    sym (sym (groups-all w) ∙ omega (
      arith,
      groups-next w 0 (omega arith),
      groups-next w 1 (omega arith),
      groups-next w 2 (omega arith),
      groups-next w 3 (omega arith),
      groups-next w 4 (omega arith),
      groups-next w 5 (omega arith),
      groups-next w 6 (omega arith),
      groups-next w 7 (omega arith),
      right (w % 16) (omega arith),
      right (w / 2 ^ 4 % 16) (omega arith),
      right (w / 2 ^ 8 % 16) (omega arith),
      right (w / 2 ^ 12 % 16) (omega arith),
      right (w / 2 ^ 16 % 16) (omega arith),
      late 4,
      late 8,
      late 12,
      ap (λ (x : ℕ). group_code (big (bits 4 (x % 16)))) (div-one w),
    ))
  where
    late : (k : ℕ) → get_or t (w / 2 ^ 16 / 2 ^ k % 16) 0 ≡ group_code (big (bits 4 (w / 2 ^ (16 + k) % 16)))
    late k = right (w / 2 ^ 16 / 2 ^ k % 16) (omega arith) ∙ ap (λ (x : ℕ). group_code (big (bits 4 (x % 16)))) (shr-shr w 16 k)

-- ---- received

module _ (t : List ℕ) (v : ℕ) (right : Means t) where
  place : ℕ → ℕ
  place g = v / 2 ^ (35 - 5 * g) % 32

  -- what the table says of a group
  at : ℕ → ℕ
  at g = get_or t (place g) 0

  -- a data group takes the channel on by four bits
  four-more : (g w : ℕ) → g < 8 → at g < 128
      → (at g < 16) × (channel_from (big_bits 40 v) (8 - g) g w ≡ channel_from (big_bits 40 v) (8 - (g + 1)) (g + 1) (w + at g * 2 ^ (4 * g)))
  unfolding at place
  four-more g w h small =
      let e : at g ≡ meant (place g) = right (place g) (omega arith) in
      meant-cases (place g)
      (λ l. let said : group_of (window (big_bits 40 v) (5 * g) 5) ≡ Data (at g) =
      ap group_of (sym (group-inside v g h)) ∙ group-meant (place g) ∙ rw (lt-ltb (meant (place g)) 16 l, ← e) in
      (omega arith, channel-more (big_bits 40 v) g w h (at g) said))
      (λ n. absurd (omega arith))

  last : at 7 ≡ get_or t (v % 32) 0
  unfolding at place
  last = ap (λ (x : ℕ). get_or t (x % 32) 0) (div-one v)

  early : (k : ℕ) → get_or t (v / 2 ^ 20 / 2 ^ k % 32) 0 ≡ get_or t (v / 2 ^ (20 + k) % 32) 0
  early k = ap (λ (x : ℕ). get_or t (x % 32) 0) (shr-shr v 20 k)

  -- eight sayings below 128 together are eight data groups
  eight : eight_sum t v < 128 → (eight_fours t v < 2 ^ 32) × (channel_of (big_bits 40 v) ≡ Ok (eight_fours t v))
  unfolding four_sum four_fours eight_sum eight_fours channel_of channel_from at place
  eight h =
      let z = last in
      let a0 = early 15 in
      let b0 = early 10 in
      let c0 = early 5 in
      let w1 : ℕ = 0 + at 0 * 2 ^ 0 in
      let w2 : ℕ = w1 + at 1 * 2 ^ 4 in
      let w3 : ℕ = w2 + at 2 * 2 ^ 8 in
      let w4 : ℕ = w3 + at 3 * 2 ^ 12 in
      let w5 : ℕ = w4 + at 4 * 2 ^ 16 in
      let w6 : ℕ = w5 + at 5 * 2 ^ 20 in
      let w7 : ℕ = w6 + at 6 * 2 ^ 24 in
      let a = four-more 0 0 (omega arith) (omega arith) in
      let b = four-more 1 w1 (omega arith) (omega arith) in
      let c = four-more 2 w2 (omega arith) (omega arith) in
      let d = four-more 3 w3 (omega arith) (omega arith) in
      let e = four-more 4 w4 (omega arith) (omega arith) in
      let f = four-more 5 w5 (omega arith) (omega arith) in
      let g = four-more 6 w6 (omega arith) (omega arith) in
      let i = four-more 7 w7 (omega arith) (omega arith) in
      (omega arith, a.1 ∙ b.1 ∙ c.1 ∙ d.1 ∙ e.1 ∙ f.1 ∙ g.1 ∙ i.1 ∙ ap Ok (omega arith))

  pub word-received : word_by_table t v < 2 ^ 32 → channel_of (big_bits 40 v) ≡ Ok (word_by_table t v)
  unfolding word_by_table
  word-received =
      pick-cases (λ (w : ℕ). w < 2 ^ 32 → channel_of (big_bits 40 v) ≡ Ok w) (ltb (eight_sum t v) 128) _ _
      (λ s h. (eight (ltb-true (eight_sum t v) 128 s)).1) (λ f h. absurd (omega arith))

  pub channel-received : channel_by t v ≡ channel_of (big_bits 40 v)
  unfolding channel_by
  channel-received =
      pick-cases (λ (x : ChannelBits). x ≡ channel_of (big_bits 40 v)) (ltb (word_by_table t v) (2 ^ 32)) _ _
      (λ h. sym (word-received (ltb-true (word_by_table t v) (2 ^ 32) h))) (λ f. refl)

-- ---- the tables that the functions give

pub groups-send : (t : List ℕ) → t ≡ group_table → Sends t
unfolding group_table
groups-send t e x h = rw e (get_or-listed 16 (λ k. group_code (big (bits 4 k))) x 0 h)

pub meanings-mean : (t : List ℕ) → t ≡ meaning_table → Means t
unfolding meaning_table
meanings-mean t e g h = rw e (get_or-listed 32 meant g 0 h)

pub sends-all : (t : List ℕ) → length t ≡ 16 → Sends t → t ≡ group_table
unfolding group_table
sends-all t n h = sym (listed-all 16 (λ k. group_code (big (bits 4 k))) t 0 n (λ i l. sym (h i l)))

pub means-all : (t : List ℕ) → length t ≡ 32 → Means t → t ≡ meaning_table
unfolding meaning_table
means-all t n h = sym (listed-all 32 meant t 0 n (λ i l. sym (h i l)))
