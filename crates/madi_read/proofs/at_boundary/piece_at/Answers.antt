-- `madi_read::at_boundary::piece_at` meets its contract: each way out is a row of the definition. Assumes nothing.
use mathlib.Core.Path.{◌≡◌, sym, ap, ◌∙◌}
use mathlib.Core.List.{List}
use Prim.Native.Nat.{ℕ}
use lib.ListN.{length, take}
use Rattle.bits.specs.Row.{Row, big_bits}
use Rattle.madi_code.specs.Groups.{command_of}
use Rattle.madi_code.specs.Channels.{ChannelBits, channel_of}
use Rattle.madi_code.specs.Frame.{boundary}
use Rattle.madi_code.proofs.ChannelLaws.{broken-lt}
use Rattle.madi_read.specs.Inner.{row_of, due_piece}
use Rattle.madi_read.proofs.Carrying.{length-carried, first-ten, forty}
use Rattle.madi_read.proofs.Copying.{length-listed}
use Rattle.madi_read.proofs.Onward.{at-end, at-short, at-word, at-command, at-no-word}
use Rattle.madi_read.proofs.at_boundary.piece_at.Goals as goal
use Rattle.madi_read.proofs.at_boundary.piece_at.Goals.{Start}

module _ (s : Start) where
  abbrev row : Row
  row = row_of s.args.source.now

  abbrev channels : ℕ
  channels = s.args.source.now.channels

  abbrev bits : ℕ
  bits = s.args.source.now.bits

  abbrev n : ℕ
  n = s.args.so_far.now.channels

  abbrev active : ℕ
  active = s.args.so_far.now.active

  abbrev count : ℕ
  count = s.args.so_far.now.commands

  abbrev at : ℕ
  at = boundary n count

  abbrev commands : List ℕ
  commands = take count s.args.so_far.now.codes

  abbrev words : List ℕ
  words = take n s.args.so_far.now.words

  -- so many commands came
  came : length commands ≡ count
  came = length-listed count s.args.so_far.now.codes s.requires.5 s.requires.2

  width : length row ≡ bits
  width = length-carried s.args.source.now.level bits s.args.source.now.line.now

pub returns-then-at-source : goal.returns-then-at-source
returns-then-at-source c =
    let s = (goal.at.returns-then-at-source c).Start in
    c.end_of.ensures ∙ at-end (row s) (channels s) (n s) (active s) (count s) (bits s) (commands s) (words s) (came s) (width s) c.if-at-source.true

pub returns-then-source-at : goal.returns-then-source-at
returns-then-source-at c =
    let s = (goal.at.returns-then-source-at c).Start in
    c.short_piece.ensures
    ∙ at-short (row s) (channels s) (n s) (active s) (count s) (bits s) (commands s) (words s) (came s) (width s) c.if-at-source.false c.if-source-at.true

pub returns-in-Some : goal.returns-in-Some
returns-in-Some c =
    let s = (goal.at.returns-in-Some c).Start in
    c.due_piece.ensures
    ∙ at-word (row s) (channels s) (n s) (active s) (count s) (bits s) (commands s) (words s) (came s) (width s) c.if-source-at.false c.in-Some.w
    (ap channel_of (sym (forty (row s) (at s) _ c.bits_at-v.ensures)) ∙ c.in-Some.ensures)

pub returns-in-Some-command : goal.returns-in-Some-command
returns-in-Some-command c =
    let s = (goal.at.returns-in-Some-command c).Start in
    let found = c.in-Some-command.ensures in
    c.command_piece.ensures
    ∙ at-command (row s) (channels s) (n s) (active s) (count s) (bits s) (commands s) (words s) (came s) (width s) c.if-source-at.false c.in-Some-command.c
    (found.0 ∙ ap command_of (first-ten (row s) (at s) _ c.bits_at-v.ensures)) found.1

pub due_piece-requires-2-clause-group : goal.due_piece-requires-2-clause-group
due_piece-requires-2-clause-group c = λ b e. broken-lt (big_bits 40 c.bits_at-v.result) b.group (sym c.channel_of.ensures ∙ e)

pub returns : goal.returns
returns c =
    let s = (goal.at.returns c).Start in
    c.due_piece-2.ensures ∙ ap (λ (b : ChannelBits). due_piece (channels s) (n s) (active s) b (at s)) c.channel_of.ensures
    ∙ at-no-word (row s) (channels s) (n s) (active s) (count s) (bits s) (commands s) (words s) (came s) (width s) c.if-source-at.false _
    (ap command_of (first-ten (row s) (at s) _ c.bits_at-v.ensures)) c.in_default-command.ensures _ (forty (row s) (at s) _ c.bits_at-v.ensures)
