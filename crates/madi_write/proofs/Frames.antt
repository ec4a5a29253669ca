-- The bits of a frame: its length, the channels in their places, the commands in theirs. Assumes nothing.
use mathlib.Core.Path.{◌≡◌, refl, sym, ap, ap₂, ◌∙◌}
use mathlib.Core.Logic.{⊎_elim}
use mathlib.Core.List.{List, [], ◌∷◌, ◌++◌, map}
use Prim.Native.Nat.{ℕ, zero, suc, ◌+◌, ◌*◌, ◌-◌, ◌^◌, ◌≤◌, ◌<◌}
use native.Mathlib.Nat.{zero-add, mul_comm, mod-eq_of_lt}
use native.Mathlib.Numerals.{add-one}
use native.Mathlib.Omega.{arith}
use borrow.Author.Tests.{lt-ltb, le-ltb, ne_eqb}
use lib.Dec.{eqb, ltb}
use lib.ListN.{length, get_or, take, drop, replicate, length-take, length-drop, length-append, length-replicate, length-map, get_or-replicate, get_or-append}
use lib.Seq.{get_or-take, get_or-drop, get_or-append-add}
use lib.Pow.{pow_mono}
use Rattle.bits.specs.Pick.{pick}
use Rattle.bits.specs.Row.{Row, odd, big}
use Rattle.bits.specs.Window.{part, window}
use Rattle.bits.specs.Pack.{chain, octets}
use Rattle.bits.proofs.Tests.{order}
use Rattle.bits.proofs.Rows.{length-big_bits, big-big_bits}
use Rattle.bits.proofs.Windows.{window-split, window-lt}
use Rattle.bits.proofs.Chains.{part-first, part-second, length-chained, part-chained}
use Rattle.line.specs.Nrzi.{levels}
use Rattle.madi_code.specs.Groups.{command_code, command_row}
use Rattle.madi_code.specs.Channels.{channel_row}
use Rattle.madi_code.specs.Frame.{boundary, numbered}
use Rattle.madi_code.proofs.FrameLaws.{numbered-at, numbered-all}
use mathlib.Core.Bool.{true}
use Rattle.madi_code.proofs.ChannelLaws.{length-channel}
use Rattle.madi_code.proofs.GroupLaws.{command-small}
use Rattle.madi_write.specs.Writer.{marked, channel_words, frame_row, needed, frame_octets}
use Rattle.madi_write.specs.Inner.{sent_word, commands_number, block_of}

-- ---- the channels' words

pub length_marked : (words : List ℕ) → length (marked words) ≡ length words
unfolding marked
length_marked [] = refl
length_marked (w ∷ ws) = ap suc (length-map ws (λ v. v + 2))

more-at : (ws : List ℕ) (b : ℕ) → b < length ws → get_or (map (λ v. v + 2) ws) b 0 ≡ get_or ws b 0 + 2
more-at [] b h = absurd (omega arith)
more-at (v ∷ vs) zero h = refl
more-at (v ∷ vs) (suc b) h = more-at vs b (omega arith)

marked-at : (words : List ℕ) (b : ℕ) → b < length words → get_or (marked words) b 0 ≡ get_or words b 0 + pick (eqb b 0) 3 2
unfolding marked
marked-at [] b h = absurd (omega arith)
marked-at (w ∷ ws) zero h = refl
marked-at (w ∷ ws) (suc b) h = rw (ne_eqb (suc b) 0 (λ e. omega arith)) (more-at ws b (omega arith))

pub length-words : (channels : ℕ) (words : List ℕ) → length words ≤ channels → length (channel_words channels words) ≡ channels
unfolding channel_words
length-words channels words h =
    length-append (marked words) (replicate (channels - length words) 0)
    ∙ omega (arith, length_marked words, length-replicate {A = ℕ} (channels - length words) 0)

pub word_at : (channels : ℕ) (words : List ℕ) (b : ℕ) → b < channels → get_or (channel_words channels words) b 0 ≡ sent_word words b
unfolding channel_words sent_word
word_at channels words b hb = ⊎_elim idle active (order (length words) b)
  where
    active : b < length words → get_or (marked words ++ replicate (channels - length words) 0) b 0 ≡ pick (ltb b (length words)) (get_or words b 0 + pick (eqb b 0) 3 2) 0
    active h =
        get_or-append (marked words) (replicate (channels - length words) 0) 0 b (omega (arith, length_marked words))
        ∙ marked-at words b h ∙ rw (lt-ltb b (length words) h)

    idle : length words ≤ b → get_or (marked words ++ replicate (channels - length words) 0) b 0 ≡ pick (ltb b (length words)) (get_or words b 0 + pick (eqb b 0) 3 2) 0
    idle h =
        let e : length (marked words) + (b - length words) ≡ b = omega (arith, length_marked words) in
        ap (λ (i : ℕ). get_or (marked words ++ replicate (channels - length words) 0) i 0) (sym e)
        ∙ get_or-append-add (marked words) (replicate (channels - length words) 0) (b - length words) 0
        ∙ get_or-replicate (channels - length words) (b - length words) 0 0 (omega arith) ∙ rw (le-ltb b (length words) h)

-- the word of an active channel, and of one that is not
pub sent-active : (words : List ℕ) (n : ℕ) → n < length words → sent_word words n ≡ get_or words n 0 + pick (eqb n 0) 3 2
unfolding sent_word
sent-active words n h = rw (lt-ltb n (length words) h)

pub sent-idle : (words : List ℕ) (n : ℕ) → length words ≤ n → sent_word words n ≡ 0
unfolding sent_word
sent-idle words n h = rw (le-ltb n (length words) h)

pub marked-words : (w : ℕ) (ws : List ℕ) → marked (w ∷ ws) ≡ (w + 3) ∷ map (λ v. v + 2) ws
unfolding marked
marked-words w ws = refl

pub all_words : (channels : ℕ) (words : List ℕ) → channel_words channels words ≡ marked words ++ replicate (channels - length words) 0
unfolding channel_words
all_words channels words = refl

-- ---- the commands

abbrev pub commands_row : List ℕ → Row
commands_row commands = chain command_row commands

length-command : (c : ℕ) → length (command_row c) ≡ 10
length-command c = length-big_bits 10 (command_code c)

pub length-commands : (commands : List ℕ) → length (commands_row commands) ≡ 10 * length commands
length-commands commands = length-chained command_row 10 length-command commands ∙ mul_comm (length commands) 10

one-command : (commands : List ℕ) (i : ℕ) → i < length commands → window (commands_row commands) (10 * i) 10 ≡ command_code (get_or commands i 0)
unfolding window
one-command commands i h =
    let c : ℕ = get_or commands i 0 in
    ap (λ (p : ℕ). big (part (commands_row commands) p 10)) (mul_comm 10 i)
    ∙ ap big (part-chained command_row 10 length-command commands i h) ∙ big-big_bits 10 (command_code c) ∙ mod-eq_of_lt (command-small c)

pub commands-window : (commands : List ℕ) (i k : ℕ) → i + k ≤ length commands
    → window (commands_row commands) (10 * i) (10 * k) ≡ commands_number commands i k
unfolding commands_number window part big
commands-window commands i zero h = refl
commands-window commands i (suc k) h =
    let n : 10 * suc k ≡ 10 * k + 10 = omega arith in
    let p : 10 * i + 10 * k ≡ 10 * (i + k) = omega arith in
    ap (window (commands_row commands) (10 * i)) n ∙ window-split (commands_row commands) (10 * i) (10 * k) 10
    ∙ ap₂ (λ (x y : ℕ). x * 2 ^ 10 + y) (commands-window commands i k (omega arith))
    (ap (λ (q : ℕ). window (commands_row commands) q 10) p ∙ one-command commands (i + k) (omega arith))

pub commands-next : (commands : List ℕ) (i k : ℕ)
    → commands_number commands i k * 2 ^ 10 + command_code (get_or commands (i + k) 0) ≡ commands_number commands i (k + 1)
unfolding commands_number
commands-next commands i k = ap (commands_number commands i) (sym (add-one k))

pub commands-none : (commands : List ℕ) (i : ℕ) → commands_number commands i 0 ≡ 0
unfolding commands_number
commands-none commands i = refl

-- a part of a list, as long as it is to be, with the numbers that stand there
module _ (commands : List ℕ) (i n : ℕ) (fits : i + n ≤ length commands) where
  abbrev cut : List ℕ
  cut = take n (drop i commands)

  pub length-cut : length cut ≡ n
  length-cut = length-take n (drop i commands) ∙ omega (arith, length-drop i commands)

  cut-at : (k : ℕ) → k < n → get_or cut k 0 ≡ get_or commands (i + k) 0
  cut-at k h = get_or-take n (drop i commands) k 0 h ∙ get_or-drop i commands k 0

  pub numbered-cut : numbered commands ≡ true → numbered cut ≡ true
  numbered-cut all = numbered-all cut (λ k h. let l : k < n = omega (arith, length-cut) in
      rw (cut-at k l) (numbered-at commands all (i + k) (omega arith)))

  first-of : (k : ℕ) → k ≤ n → commands_number cut 0 k ≡ commands_number commands i k
  unfolding commands_number
  first-of zero h = refl
  first-of (suc k) h =
      ap₂ (λ (x c : ℕ). x * 2 ^ 10 + command_code c) (first-of k (omega arith))
      (ap (λ (j : ℕ). get_or cut j 0) (zero-add k) ∙ cut-at k (omega arith))

  pub commands-cut : commands_number cut 0 (length cut) ≡ commands_number commands i n
  commands-cut = ap (commands_number cut 0) length-cut ∙ first-of n (omega arith)

-- four of them are forty bits
pub commands-lt : (commands : List ℕ) (i k : ℕ) → k ≤ 4 → i + k ≤ length commands → commands_number commands i k < 2 ^ 40
commands-lt commands i k h fits =
    omega (arith, commands-window commands i k fits, window-lt (commands_row commands) (10 * i) (10 * k), pow_mono {i = 10 * k} {j = 40} (omega arith))

-- ---- the frame

pub frame_row_lem : (channels : ℕ) (words commands : List ℕ)
    → frame_row channels words commands ≡ chain channel_row (channel_words channels words) ++ commands_row commands
unfolding frame_row
frame_row_lem channels words commands = refl

pub frame-octets : (channels : ℕ) (words commands : List ℕ) (level : ℕ)
    → frame_octets channels words commands level ≡ octets (needed channels (length commands)) (levels (odd level) (frame_row channels words commands))
unfolding frame_octets
frame-octets channels words commands level = refl

module _ (channels : ℕ) (words commands : List ℕ) (most : length words ≤ channels) where
  length-channels : length (chain channel_row (channel_words channels words)) ≡ 40 * channels
  length-channels =
      length-chained channel_row 40 length-channel (channel_words channels words) ∙ omega (arith, length-words channels words most)

  pub length-frame : length (frame_row channels words commands) ≡ boundary channels (length commands)
  unfolding frame_row
  length-frame =
      length-append (chain channel_row (channel_words channels words)) (commands_row commands) ∙ ap₂ (λ (x y : ℕ). x + y) length-channels (length-commands commands)

  -- channel b stands in the 40 bits from bit 40 b on
  pub frame-channel : (b : ℕ) → b < channels → part (frame_row channels words commands) (40 * b) 40 ≡ channel_row (get_or (channel_words channels words) b 0)
  unfolding frame_row
  frame-channel b h =
      part-first (chain channel_row (channel_words channels words)) (commands_row commands) (40 * b) 40 (omega (arith, length-channels))
      ∙ ap (λ (p : ℕ). part (chain channel_row (channel_words channels words)) p 40) (mul_comm 40 b)
      ∙ part-chained channel_row 40 length-channel (channel_words channels words) b (omega (arith, length-words channels words most))

  -- and the commands after the last channel
  pub frame-commands : (i k : ℕ) → i + k ≤ length commands
      → window (frame_row channels words commands) (40 * channels + 10 * i) (10 * k) ≡ commands_number commands i k
  unfolding frame_row window
  frame-commands i k h =
      ap big (part-second (chain channel_row (channel_words channels words)) (commands_row commands) (40 * channels) (10 * i) (10 * k) length-channels)
      ∙ commands-window commands i k h

  pub block-window : (b : ℕ) → 40 * b + 40 ≤ boundary channels (length commands) → window (frame_row channels words commands) (40 * b) 40 ≡ block_of channels words commands b
  unfolding window block_of
  block-window b fits = ⊎_elim after before (order channels b)
    where
      before : b < channels → big (part (frame_row channels words commands) (40 * b) 40) ≡ pick (ltb b channels) (big (channel_row (sent_word words b))) (commands_number commands (4 * (b - channels)) 4)
      before h =
          ap big (frame-channel b h) ∙ ap (λ (w : ℕ). big (channel_row w)) (word_at channels words b h) ∙ rw (lt-ltb b channels h)

      after : channels ≤ b → big (part (frame_row channels words commands) (40 * b) 40) ≡ pick (ltb b channels) (big (channel_row (sent_word words b))) (commands_number commands (4 * (b - channels)) 4)
      after h =
          let p : 40 * b ≡ 40 * channels + 10 * (4 * (b - channels)) = omega arith in
          ap (λ (q : ℕ). big (part (frame_row channels words commands) q 40)) p ∙ frame-commands (4 * (b - channels)) 4 (omega arith)
          ∙ rw (le-ltb b channels h)
