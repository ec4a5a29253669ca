-- Writing back an accepted line gives that line if all commands came last, into every buffer that is long enough; one
-- proof for both channel counts. Assumes nothing.
use mathlib.Core.Path.{◌≡◌, sym, ap, ap₂, subst, ◌∙◌}
use mathlib.Core.Bool.{true}
use mathlib.Core.List.{List, ◌++◌, map}
use Prim.Native.Nat.{ℕ, ◌-◌, ◌%◌, ◌≤◌, ◌<◌}
use native.Mathlib.Omega.{arith}
use borrow.Author.Tests.{le-leb}
use lib.ListN.{length, get_or, take, drop, replicate, length-map}
use lib.Seq.{length-take-le, get_or-take}
use Rattle.bits.specs.Row.{Row, odd, count, Below}
use Rattle.bits.specs.Pack.{octets}
use Rattle.bits.specs.Cross.{across}
use Rattle.bits.proofs.Counts.{count-le}
use Rattle.bits.proofs.Crossing.{length-across}
use Rattle.answer.specs.Answer.{Answer, Answer.accepted, mapped, verdict, after, rewritten}
use Rattle.answer.specs.Demand.{AllMet, ◌&◌}
use Rattle.answer.proofs.Chains.{value_of}
use Rattle.answer.proofs.Residues.{whole}
use Rattle.subframe.specs.Body.{even_body}
use Rattle.line.specs.Nrzi.{levels}
use Rattle.madi_code.specs.Frame.{boundary, numbered, synced}
use Rattle.madi_code.proofs.FrameLaws.{counted-some}
use Rattle.madi_read.specs.Reader.{carried, Frame, cleared, frame_read, counts_of, words_of, commands_of}
use Rattle.madi_read.proofs.Copying.{length-list, list-front}
use Rattle.madi_read.proofs.Lines.{line-again}
use Rattle.madi_read.proofs.Accepting.{Accepted, accepting}
use Rattle.madi_write.specs.Writer.{marked, channel_words, frame_row, needed, frame_octets, is_list, write_demands, frame_written}
use Rattle.madi_write.proofs.Frames.{all_words, frame_row_lem, frame-octets}
use Rattle.madi_write.proofs.Checks.{list_right, sound-met, frame-accepted}
use Rattle.madi.specs.Units.{channels_in, CommandsLast}
use Rattle.madi.proofs.ExactReading.{Stood, counts-stood}
use Rattle.madi.proofs.LastCommands.{Row-of, last_row}
use Rattle.madi.proofs.Words.{sent-again, even-again, clear-again}

-- ---- a frame that is read

module _ (channels level bits : ℕ) (line : List ℕ) (room places : ℕ) (f : Frame) (octal : Below 256 line)
    (reads : frame_read channels level bits line room places ≡ accepted f) where
  got : Accepted channels level bits line room places f
  got = accepting channels level bits line room places f reads

  stood : Stood channels level bits line f
  stood = counts-stood channels level bits line room places f reads

  a : ℕ
  a = f.active

  cs : List ℕ
  cs = f.commands

  ws : List ℕ
  ws = f.words

  -- the words with which the frame was sent
  vs : List ℕ
  vs = channels_in stood.us

  given : List ℕ
  given = take a ws

  all : length vs ≡ channels
  unfolding vs
  all = stood.lawful.all

  count-is : a ≡ count (across 1 vs)
  unfolding vs a
  count-is = stood.active

  words_are : ws ≡ map cleared vs
  unfolding vs ws
  words_are = stood.words

  again : (0 < count (across 1 vs)) × (vs ≡ marked (take (count (across 1 vs)) (map cleared vs)) ++ replicate (length vs - count (across 1 vs)) 0)
  unfolding vs
  again = sent-again vs (omega (arith, all, counted-some channels got.counts)) stood.lawful.placed

  some : 0 < a
  some = omega (arith, count-is, again.0)

  most : a ≤ channels
  most = omega (arith, count-is, count-le (across 1 vs), length-across 1 vs, all)

  length-ws : length ws ≡ channels
  length-ws = ap length words_are ∙ length-map vs cleared ∙ all

  length-given : length given ≡ a
  unfolding given
  length-given = length-take-le a ws (omega (arith, most, length-ws))

  sent-words : channel_words channels given ≡ vs
  unfolding given
  sent-words =
      all_words channels given ∙ ap (λ (n : ℕ). marked (take a ws) ++ replicate (channels - n) 0) length-given
      ∙ ap₂ (λ (xs : List ℕ) (n : ℕ). marked (take a xs) ++ replicate (n - a) 0) words_are (sym all)
      ∙ ap (λ (c : ℕ). marked (take c (map cleared vs)) ++ replicate (length vs - c) 0) count-is ∙ sym again.1

  given-even : (i : ℕ) → i < length given → even_body (get_or given i 0) ≡ true
  unfolding given vs
  given-even i h =
      let l : i < a = omega (arith, length-given) in
      ap even_body (get_or-take a ws i 0 l ∙ ap (λ (xs : List ℕ). get_or xs i 0) words_are)
      ∙ even-again 0 0 vs stood.lawful.placed i (omega (arith, most, all))

  given-clear : (i : ℕ) → i < length given → get_or given i 0 % 4 ≡ 0
  unfolding given
  given-clear i h =
      let l : i < a = omega (arith, length-given) in
      ap (λ (x : ℕ). x % 4) (get_or-take a ws i 0 l ∙ ap (λ (xs : List ℕ). get_or xs i 0) words_are) ∙ clear-again vs i

  -- so are the commands
  few : length cs ≤ 255
  unfolding cs
  few = omega (arith, ap length stood.commands, stood.lawful.few)

  list : is_list cs ≡ true
  unfolding cs
  list = list_right cs few (ap numbered stood.commands ∙ stood.lawful.named) (ap synced stood.commands ∙ stood.lawful.with-sync)

  module _ (last : CommandsLast channels (carried level bits line)) where
    same_row : carried level bits line ≡ frame_row channels given cs
    unfolding vs cs
    same_row =
        stood.units
        ∙ last_row stood.us stood.lawful.named
        (subst (λ (r : Row). CommandsLast (length vs) r) stood.units (subst (λ (n : ℕ). CommandsLast n (carried level bits line)) (sym all) last))
        ∙ ap₂ Row-of (sym sent-words) (sym stood.commands) ∙ sym (frame_row_lem channels given cs)

    bits_are : bits ≡ boundary channels (length cs)
    unfolding cs
    bits_are = stood.whole

    same_line : frame_octets channels given cs level ≡ line
    same_line =
        let n : needed channels (length cs) ≡ length line = omega (arith, bits_are, got.long) in
        frame-octets channels given cs level ∙ ap₂ (λ (k : ℕ) (r : Row). octets k (levels (odd level) r)) n (sym same_row)
        ∙ line-again level bits line octal (omega (arith, got.long)) got.spare

    meets : (space : ℕ) → length line ≤ space → AllMet (write_demands channels given cs level space)
    meets space h =
        got.counts & le-leb 1 (length given) (omega (arith, length-given, some)) & le-leb (length given) channels (omega (arith, length-given, most))
        & list & le-leb level 1 got.digital & le-leb (needed channels (length cs)) space (omega (arith, bits_are, got.long))
        & sound-met given (λ i h. (given-even i h, given-clear i h))

    again-written : (space : ℕ) → length line ≤ space → frame_written channels given cs level space ≡ accepted line
    again-written space h = frame-accepted channels given cs level space (meets space h) ∙ ap accepted same_line

-- ---- the promise: of the words and of the list of commands that the reader leaves, with the counts that it answers

module _ (channels level bits : ℕ) (line words list : List ℕ) (n s : ℕ) (octal : Below 256 line)
    (accepts : mapped counts_of (frame_read channels level bits line (length words) (length list)) ≡ accepted (n, s))
    (last : CommandsLast channels (carried level bits line)) where
  value : (f : Frame) × (frame_read channels level bits line (length words) (length list) ≡ accepted f) × (counts_of f ≡ (n, s))
  value = value_of counts_of (frame_read channels level bits line (length words) (length list)) accepts

  -- the active words, and the commands that came
  abbrev pub active-words : List ℕ
  active-words = take n (after words_of (frame_read channels level bits line (length words) (length list)) words)

  abbrev pub came : List ℕ
  came = take s (after commands_of (frame_read channels level bits line (length words) (length list)) list)

  words-are-given : active-words ≡ given channels level bits line (length words) (length list) value.0 octal value.1
  unfolding given a ws
  words-are-given =
      let f = value.0 in
      let exact = (accepting channels level bits line (length words) (length list) f value.1).exact in
      ap₂ (λ (k : ℕ) (l : List ℕ). take k l) (sym (ap (λ c. c.0) value.2))
      (ap (λ (x : Answer Frame). after words_of x words) value.1
      ∙ whole words_of f words (length-ws channels level bits line (length words) (length list) f octal value.1 ∙ sym exact))

  commands-are : came ≡ value.0.commands
  unfolding cs
  commands-are =
      let f = value.0 in
      let listed = (accepting channels level bits line (length words) (length list) f value.1).listed in
      ap₂ (λ (k : ℕ) (l : List ℕ). take k l) (sym (ap (λ c. c.1) value.2))
      (ap (λ (x : Answer Frame). after commands_of x list) value.1
      ∙ whole commands_of f list (length-list f.commands (few channels level bits line (length words) (length list) f octal value.1) ∙ sym listed))
      ∙ list-front f.commands

  writes : (space : ℕ) → length line ≤ space → frame_written channels active-words came level space ≡ accepted line
  unfolding cs
  writes space h =
      ap₂ (λ (ws cs : List ℕ). frame_written channels ws cs level space) words-are-given commands-are
      ∙ again-written channels level bits line (length words) (length list) value.0 octal value.1 last space h

  -- the writer, given them, the level and a buffer at least as long as the line, accepts
  pub write-back : (old : List ℕ) → length line ≤ length old → verdict (frame_written channels active-words came level (length old)) ≡ accepted tt
  write-back old h = ap verdict (writes (length old) h)

  -- and the line stands in front in the buffer, and after it what stood there
  pub line-back : (old : List ℕ) → length line ≤ length old
      → rewritten (frame_written channels active-words came level (length old)) old ≡ line ++ drop (length line) old
  line-back old h = ap (λ (x : Answer (List ℕ)). rewritten x old) (writes (length old) h)
