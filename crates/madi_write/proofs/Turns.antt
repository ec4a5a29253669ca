-- Block after block of a frame onto a line, whatever the block is. Assumes nothing.
use mathlib.Core.Path.{◌≡◌, refl, sym, ap, ◌∙◌}
use mathlib.Core.List.{List, ◌++◌}
use Prim.Native.Nat.{ℕ, zero, suc, ◌+◌, ◌-◌, ◌*◌, ◌/◌, ◌%◌, ◌^◌, ◌≤◌, ◌<◌}
use native.Mathlib.Nat.{mod-eq_of_lt}
use native.Mathlib.Omega.{arith}
use borrow.Author.Tests.{lt-ltb, le-ltb}
use lib.ListN.{length, drop}
use lib.Seq.{take_all}
use lib.Pow.{pow_mono, shl_exact, shl_lt}
use Rattle.bits.specs.Row.{big}
use Rattle.bits.specs.Window.{window}
use Rattle.bits.proofs.Filling.{over}
use Rattle.bits.proofs.Windows.{window-lt}
use Rattle.madi_code.specs.Frame.{boundary}
use Rattle.madi_code.specs.Channels.{channel_row}
use Rattle.madi_code.proofs.ChannelLaws.{idle-bits}
use Rattle.madi_write.specs.Writer.{frame_row, needed, frame_octets}
use Rattle.madi_write.specs.Inner.{sent_word, commands_number, block_of, Levels, Stored, Laid, sent_levels, LevelAt, Passed, Ended}
use Rattle.madi_write.proofs.Frames.{block-window}
use Rattle.madi_write.proofs.Blocks.{block-levels, next_level, tail-levels, length-octets, octet-right}

-- after an inactive channel the level is what it was before it: each of its groups changes it four times
pub idle-level : (last y : ℕ) → last < 2 → Levels (last * 2 ^ 40 + big (channel_row 0)) y → y % 2 ≡ last
idle-level zero y h f =
    ap (λ (z : ℕ). z % 2) (f 0b1010010100101001010010100101001010010100 (omega arith) (ap (λ (v : ℕ). 0 * 2 ^ 40 + v) (sym idle-bits)))
idle-level (suc zero) y h f =
    ap (λ (z : ℕ). z % 2) (f 0b10101101011010110101101011010110101101011 (omega arith) (ap (λ (v : ℕ). 1 * 2 ^ 40 + v) (sym idle-bits)))
idle-level (suc (suc l)) y h f = absurd (omega arith)

-- a level before up to thirty bits
pub level-moved : (last k : ℕ) → last < 2 → k < 4 → last * 2 ^ (10 * k) % 2 ^ 64 ≡ last * 2 ^ (10 * k)
level-moved last k l h = shl_exact {a = last} 1 (10 * k) 64 (omega arith) (omega arith)

pub level-fits : (last k x : ℕ) → last < 2 → k < 4 → x < 2 ^ 40 → last * 2 ^ (10 * k) % 2 ^ 64 + x < 2 ^ 64
level-fits last k x l h small =
    omega (arith, level-moved last k l h, shl_lt {a = last} 1 (10 * k) (omega arith), pow_mono {i = 1 + 10 * k} {j = 31} (omega arith))

module _ (channels : ℕ) (words commands : List ℕ) (level : ℕ) where
  abbrev new : List ℕ
  new = frame_octets channels words commands level

  pub passed_first : (line : List ℕ) (last b : ℕ) → LevelAt channels words commands level last b → Passed channels words commands level line b line last b
  passed_first line last b e = (refl, e, λ old h q. q)

  -- the parts of a frame one after another
  pub all-passed : (line line₁ line₂ line₃ line₄ : List ℕ) (last end b₁ b₂ : ℕ) → needed channels (length commands) ≤ length line
      → Passed channels words commands level line 0 line₁ last b₁ → Passed channels words commands level line₁ b₁ line₂ last b₂
      → Passed channels words commands level line₂ b₂ line₃ end (channels + length commands / 4) → Ended channels words commands level line₃ line₄
      → line₄ ≡ new ++ drop (needed channels (length commands)) line
  all-passed line line₁ line₂ line₃ line₄ last end b₁ b₂ h p q r e = e line h (r.2 line h (q.2 line h (p.2 line h refl)))

  pub passed-lt : (last b : ℕ) → LevelAt channels words commands level last b → last < 2
  passed-lt last b e = omega (arith, e, window-lt (sent_levels channels words commands level) (40 * b) 1)

  module _ (most : length words ≤ channels) where
    pub block-lt : (b x : ℕ) → 40 * b + 40 ≤ boundary channels (length commands) → x ≡ block_of channels words commands b → x < 2 ^ 40
    block-lt b x h e =
        omega (arith, e, block-window channels words commands most b h, window-lt (frame_row channels words commands) (40 * b) 40)

    pub passed-next : (line₀ : List ℕ) (b₀ : ℕ) (line : List ℕ) (last b x r : ℕ) (line' : List ℕ) → 40 * b + 40 ≤ boundary channels (length commands)
        → length line' ≡ length line → x ≡ block_of channels words commands b → Laid b last x r line line'
        → Passed channels words commands level line₀ b₀ line last b → Passed channels words commands level line₀ b₀ line' r (b + 1)
    passed-next line₀ b₀ line last b x r line' fits same ex laid p =
        let y = laid.0 in
        let e : y ≡ window (sent_levels channels words commands level) (40 * b) 41 =
        block-levels channels words commands level most b last x y fits p.1 ex laid.1 in
        let k : 5 * b + 5 ≡ 5 * (b + 1) = omega arith in
        let n : length new ≡ needed channels (length commands) = length-octets channels words commands level most in (
          same ∙ p.0,
          laid.2 ∙ next_level channels words commands level most b y e,
          λ old h q. laid.3 new old (omega (arith, n)) (omega arith)
              (λ i hi. octet-right channels words commands level most b i y (omega arith) hi e) (p.2 old h q) ∙ ap (λ (m : ℕ). over m new old) k,
        )

    pub active-block : (b : ℕ) → b < length words → big (channel_row (sent_word words b)) ≡ block_of channels words commands b
    unfolding block_of
    active-block b h = rw (lt-ltb b channels (omega arith))

    pub idle-block : (b : ℕ) → length words ≤ b → b < channels → big (channel_row 0) ≡ block_of channels words commands b
    unfolding block_of sent_word
    idle-block b l h = rw (lt-ltb b channels h, le-ltb b (length words) l)

    pub command-block : (b : ℕ) → channels ≤ b → commands_number commands (4 * (b - channels)) 4 ≡ block_of channels words commands b
    unfolding block_of
    command-block b h = rw (le-ltb b channels h)

    -- the commands that are left, after the level before them
    pub left_ended : (line line' : List ℕ) (last y : ℕ) → LevelAt channels words commands level last (channels + length commands / 4)
        → Levels (last * 2 ^ (10 * (length commands % 4)) + commands_number commands (4 * (length commands / 4)) (length commands % 4)) y
        → Stored (5 * (channels + length commands / 4)) (y * 2 ^ (40 - 10 * (length commands % 4)) % 2 ^ 64) ((10 * (length commands % 4) + 7) / 8) line line'
        → Ended channels words commands level line line'
    left_ended line line' last y el f stored old h q =
        let k : ℕ = length commands % 4 in
        let whole : ℕ = channels + length commands / 4 in
        let all : ℕ = needed channels (length commands) in
        let n : length new ≡ all = length-octets channels words commands level most in
        let e : y * 2 ^ (40 - 10 * k) ≡ window (sent_levels channels words commands level) (40 * whole) 41 =
        tail-levels channels words commands level most whole (4 * (length commands / 4)) k last y (omega arith) (omega arith) (omega arith) el f in
        let small : y * 2 ^ (40 - 10 * k) < 2 ^ 64 = omega (arith, e, window-lt (sent_levels channels words commands level) (40 * whole) 41) in
        let w : 5 * whole + (10 * k + 7) / 8 ≡ all = omega arith in
        stored new old (omega (arith, n, w)) (omega (arith, w))
        (λ i hi. octet-right channels words commands level most whole i (y * 2 ^ (40 - 10 * k) % 2 ^ 64) (omega arith) (omega arith) (mod-eq_of_lt small ∙ e)) q
        ∙ ap (λ (m : ℕ). over m new old) w ∙ ap (λ (l : List ℕ). l ++ drop all old) (take_all all new (omega (arith, n)))
