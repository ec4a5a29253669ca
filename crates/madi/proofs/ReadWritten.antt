-- What the writer accepts the reader accepts: of the buffer that the writer leaves, whatever room it had, the reader
-- gives the same words, active count and commands in their order; one proof for both channel counts. Assumes nothing.
use mathlib.Core.Path.{◌≡◌, refl, sym, ap, ap₂, subst, ◌∙◌}
use mathlib.Core.List.{List, [], ◌∷◌, ◌++◌, map, append_assoc}
use Prim.Native.Nat.{ℕ, zero, suc, ◌+◌, ◌/◌, ◌^◌, ◌<◌, min}
use native.Mathlib.Numerals.{add-one}
use native.Mathlib.Omega.{arith}
use lib.ListN.{length, get_or, take, drop, drop_of_length-le, length-map, get_or-map}
use lib.Seq.{drop-cons, take_at, ext_get_or}
use Rattle.bits.specs.Row.{Row, odd, count, big, Below}
use Rattle.bits.specs.Pack.{chain, octets}
use Rattle.bits.specs.Cross.{across}
use Rattle.bits.proofs.Digits.{digit-odd}
use Rattle.bits.proofs.Packing.{length-pack}
use Rattle.answer.specs.Answer.{Answer, Answer.accepted, mapped, verdict, after, rewritten}
use Rattle.answer.proofs.Chains.{value_of}
use Rattle.answer.proofs.Residues.{whole}
use Rattle.line.specs.Nrzi.{levels}
use Rattle.madi_code.specs.Frame.{boundary, numbered, synced}
use Rattle.madi_code.specs.Groups.{command_row}
use Rattle.madi_code.specs.Channels.{channel_row}
use Rattle.madi_read.specs.Reader.{Frame, at_start, cleared, frame_read, counts_of, words_of, list_of, commands_of}
use Rattle.madi_read.proofs.Copying.{length-list}
use Rattle.madi_write.specs.Writer.{channel_words, needed, frame_octets, frame_written}
use Rattle.madi_write.specs.Inner.{sent_word}
use Rattle.madi_write.proofs.Frames.{length-words, word_at, frame_row_lem, frame-octets}
use Rattle.madi_write.proofs.Checks.{Writable, accepted-frame}
use Rattle.madi.specs.Units.{Part, units_row, channels_in, commands_in, with_units, Placed, Lawful, padded}
use Rattle.madi.specs.Units.Part.{channel, command}
use Rattle.madi.proofs.Sending.{sent-small, sent-bit, first-ok, active-ok, even-ok, padded-at, length-padded}
use Rattle.madi.proofs.UnitLaws.{units-length, units-words, units-commands, units-active}
use Rattle.madi.proofs.ExactReading.{line_of, lawful-accepted}

-- ---- channels and then commands, as units

abbrev pub laid : List ℕ → List ℕ → List Part
laid ws cs = map channel ws ++ map command cs

row-commands : (cs : List ℕ) → units_row (map command cs) ≡ chain command_row cs
unfolding units_row chain
row-commands [] = refl
row-commands (c ∷ cs) = ap (λ (x : Row). command_row c ++ x) (row-commands cs)

row_laid : (ws cs : List ℕ) → units_row (laid ws cs) ≡ chain channel_row ws ++ chain command_row cs
unfolding units_row chain
row_laid [] cs = row-commands cs
row_laid (w ∷ ws) cs =
    ap (λ (x : Row). channel_row w ++ x) (row_laid ws cs) ∙ sym (append_assoc (channel_row w) (chain channel_row ws) (chain command_row cs))

channels-laid : (ws cs : List ℕ) → channels_in (laid ws cs) ≡ ws
unfolding channels_in
channels-laid [] [] = refl
channels-laid [] (c ∷ cs) = channels-laid [] cs
channels-laid (w ∷ ws) cs = ap (λ (x : List ℕ). w ∷ x) (channels-laid ws cs)

commands-laid : (ws cs : List ℕ) → commands_in (laid ws cs) ≡ cs
unfolding commands_in
commands-laid [] [] = refl
commands-laid [] (c ∷ cs) = ap (λ (x : List ℕ). c ∷ x) (commands-laid [] cs)
commands-laid (w ∷ ws) cs = commands-laid ws cs

-- ---- what the writer sends is a frame

module _ (channels : ℕ) (words commands : List ℕ) (level room : ℕ) (w : Writable channels words commands level room) (small : Below (2 ^ 32) words) where
  ws : List ℕ
  ws = channel_words channels words

  long : length ws ≡ channels
  unfolding ws
  long = length-words channels words w.most

  -- the channels from n on stand in their places, and so many of them are active
  in_place : (k n : ℕ) → n + k ≡ channels
      → Placed n (min n (length words)) (drop n ws) × (min n (length words) + count (across 1 (drop n ws)) ≡ length words)
  unfolding Placed across count ws
  in_place zero n e =
      let m : min n (length words) + 0 ≡ length words = omega (arith, w.most) in
      subst (λ (l : List ℕ). Placed n (min n (length words)) l × (min n (length words) + count (across 1 l) ≡ length words))
      (sym (drop_of_length-le ws {i = n} (omega (arith, long)))) (tt, m)
  in_place (suc k) n e =
      let v : ℕ = sent_word words n in
      let next = in_place k (n + 1) (omega arith) in
      let grows = sent-bit words w.even w.clean small n in
      let here : drop n ws ≡ v ∷ drop (n + 1) ws =
      drop-cons ws n 0 (omega (arith, long)) ∙ ap₂ (λ (x : ℕ) (j : ℕ). x ∷ drop j ws) (word n (omega arith)) (sym (add-one n)) in
      subst (λ (l : List ℕ). Placed n (min n (length words)) l × (min n (length words) + count (across 1 l) ≡ length words)) (sym here) (
        (
          first-ok words w.even w.clean small n w.some,
          active-ok words w.even w.clean small n,
          even-ok words w.even w.clean small n,
          sent-small words w.even w.clean small n,
          subst (λ (m : ℕ). Placed (n + 1) m (drop (n + 1) ws)) (sym grows) next.0,
        ),
        omega (arith, next.1, grows, digit-odd (v / 2)),
      )
    where
      word : (n : ℕ) → n < channels → get_or ws n 0 ≡ sent_word words n
      word n h = word_at channels words n h

  pub us : List Part
  us = laid ws commands

  pub lawful : Lawful channels us
  unfolding us
  lawful =
      let m : min 0 (length words) ≡ 0 = omega arith in
      let p : Placed 0 0 ws = subst (λ (k : ℕ). Placed 0 k ws) m (in_place channels 0 (omega arith)).0 in
      record {
        all = ap length (channels-laid ws commands) ∙ long;
        placed = subst (Placed 0 0) (sym (channels-laid ws commands)) p;
        few = omega (arith, ap length (commands-laid ws commands), w.short);
        named = ap numbered (commands-laid ws commands) ∙ w.named;
        with-sync = ap synced (commands-laid ws commands) ∙ w.with-sync;
      }

  active : count (across 1 ws) ≡ length words
  active = omega (arith, (in_place channels 0 (omega arith)).1)

  -- with bits 0 and 1 cleared they are the given words, and zeros
  words_back : map cleared ws ≡ padded channels words
  unfolding ws
  words_back =
      ext_get_or 0 (map cleared ws) (padded channels words)
      (length-map ws cleared ∙ long ∙ sym (length-padded channels words w.most))
      (λ n h. let l : n < channels = omega (arith, length-map ws cleared, long) in
      get_or-map cleared ws n 0 ∙ ap cleared (word_at channels words n l) ∙ sym (padded-at words w.even w.clean small channels n l))

  pub bits-sent : length (units_row us) ≡ boundary channels (length commands)
  unfolding us
  bits-sent = units-length us ∙ ap₂ boundary lawful.all (ap length (commands-laid ws commands))

  pub line-sent : line_of level us ≡ frame_octets channels words commands level
  unfolding us ws
  line-sent =
      ap (λ (n : ℕ). octets ((n + 7) / 8) (levels (odd level) (units_row us))) bits-sent
      ∙ ap (λ (r : Row). octets (needed channels (length commands)) (levels (odd level) r)) (row_laid ws commands ∙ sym (frame_row_lem channels words commands))
      ∙ sym (frame-octets channels words commands level)

  -- what they give
  abbrev given : Frame
  given = with_units us at_start

  pub given-words : given.words ≡ padded channels words
  unfolding us
  given-words = units-words us at_start ∙ ap (map cleared) (channels-laid ws commands) ∙ words_back

  pub given-commands : given.commands ≡ commands
  unfolding us
  given-commands = units-commands us at_start ∙ commands-laid ws commands

  pub given-active : given.active ≡ length words
  unfolding us
  given-active = omega (arith, units-active us at_start, ap (λ (l : List ℕ). count (across 1 l)) (channels-laid ws commands), active)

-- ---- the promise

module _ (channels : ℕ) (words commands : List ℕ) (level : ℕ) (old : List ℕ) (small : Below (2 ^ 32) words)
    (accepts : verdict (frame_written channels words commands level (length old)) ≡ accepted tt) where
  -- the octets needed, of the buffer that the writer leaves
  abbrev pub sent : List ℕ
  sent = take (needed channels (length commands)) (rewritten (frame_written channels words commands level (length old)) old)

  -- and the bits
  abbrev pub bits : ℕ
  bits = boundary channels (length commands)

  line : List ℕ
  line = (value_of (λ v. tt) (frame_written channels words commands level (length old)) accepts).0

  took : frame_written channels words commands level (length old) ≡ accepted line
  unfolding line
  took = (value_of (λ v. tt) (frame_written channels words commands level (length old)) accepts).1

  may : Writable channels words commands level (length old)
  may = (accepted-frame channels words commands level (length old) line took).0

  units : List Part
  units = us channels words commands level (length old) may small

  sent-line : sent ≡ line_of level units
  unfolding units
  sent-line =
      let is : frame_octets channels words commands level ≡ line = (accepted-frame channels words commands level (length old) line took).1 in
      let l : length line ≡ needed channels (length commands) =
      ap length (sym is ∙ frame-octets channels words commands level) ∙ length-pack big 8 (needed channels (length commands)) _ in
      ap (λ (a : Answer (List ℕ)). take (needed channels (length commands)) (rewritten a old)) took
      ∙ take_at line (drop (length line) old) (needed channels (length commands)) l
      ∙ sym (line-sent channels words commands level (length old) may small ∙ is)

  reads : frame_read channels level bits sent channels 255 ≡ accepted (with_units units at_start)
  unfolding units
  reads =
      ap₂ (λ (l : List ℕ) (b : ℕ). frame_read channels level b l channels 255) sent-line (sym (bits-sent channels words commands level (length old) may small))
      ∙ lawful-accepted channels level units may.counts may.digital (lawful channels words commands level (length old) may small)

  -- the reader, given those octets and bits and the level, answers with the counts
  pub read-counts : mapped counts_of (frame_read channels level bits sent channels 255) ≡ accepted (length words, length commands)
  unfolding units
  read-counts =
      ap (mapped counts_of) reads
      ∙ ap₂ (λ (n s : ℕ). accepted (n, s)) (given-active channels words commands level (length old) may small)
      (ap length (given-commands channels words commands level (length old) may small))

  -- and leaves every word of the frame in a buffer as long as the channel count, zeros for the inactive ones
  pub read-words : (buffer : List ℕ) → length buffer ≡ channels
      → after words_of (frame_read channels level bits sent (length buffer) 255) buffer ≡ padded channels words
  unfolding units
  read-words buffer h =
      let same = given-words channels words commands level (length old) may small in
      ap (λ (n : ℕ). after words_of (frame_read channels level bits sent n 255) buffer) h ∙ ap (λ (a : Answer Frame). after words_of a buffer) reads
      ∙ whole words_of (with_units units at_start) buffer (ap length same ∙ length-padded channels words may.most ∙ sym h) ∙ same

  -- and the commands in their order in a list of 255, zeros after them
  pub read-commands : (list : List ℕ) → length list ≡ 255
      → after commands_of (frame_read channels level bits sent channels (length list)) list ≡ list_of commands
  unfolding units
  read-commands list h =
      let same = ap list_of (given-commands channels words commands level (length old) may small) in
      ap (λ (n : ℕ). after commands_of (frame_read channels level bits sent channels n) list) h ∙ ap (λ (a : Answer Frame). after commands_of a list) reads
      ∙ whole commands_of (with_units units at_start) list (ap length same ∙ length-list commands may.short ∙ sym h) ∙ same
