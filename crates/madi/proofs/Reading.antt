-- A row is read as a frame exactly if it is the units of one: which these are, and the frame that they give. Assumes
-- nothing.
use mathlib.Core.Path.{◌≡◌, refl, sym, ap, ap₂, ◌∙◌}
use mathlib.Core.Bool.{true}
use mathlib.Core.List.{List, [], ◌∷◌, ◌++◌, append_assoc, append-nil}
use Prim.Native.Nat.{ℕ, suc, ◌+◌, ◌-◌, ◌≤◌, ◌<◌}
use native.Mathlib.Omega.{arith}
use lib.ListN.{length, drop, drop_of_length-le, take-append-drop, length-append}
use lib.Seq.{drop-drop}
use Rattle.bits.specs.Row.{Row, big, big_bits}
use Rattle.bits.specs.Window.{part, window}
use Rattle.bits.proofs.Rows.{big_bits-big}
use Rattle.bits.proofs.Windows.{length_part, part_in}
use Rattle.answer.specs.Answer.{Answer.accepted}
use Rattle.madi_code.specs.Frame.{numbered, synced}
use Rattle.madi_code.specs.Groups.{command_code, command_row, command_of}
use Rattle.madi_code.specs.Channels.{channel_row, channel_of}
use Rattle.madi_code.proofs.FrameLaws.{numbered-at, numbered-all, numbered_next}
use Rattle.madi_code.proofs.ChannelLaws.{length-channel, channel-back, channel-only}
use Rattle.madi_read.specs.Reader.{Frame, at_start, place_of, with_command, with_channel, channel_piece, read_on, row_read}
use Rattle.madi_read.specs.declared.Piece.TheVariants.{End, Command, Channel}
use Rattle.madi_read.proofs.Walking.{Room, read_step, read_back, from_start}
use Rattle.madi_read.proofs.Onward.{piece-channel, piece-command, piece-end}
use Rattle.madi.specs.Units.{Part, units_row, channels_in, commands_in, with_units, Placed, Lawful}
use Rattle.madi.specs.Units.Part.{channel, command}
use Rattle.madi.proofs.UnitLaws.{length-command, first_part, command-window}

-- ---- the units of a frame are read

the-command : (r : Row) (at c : ℕ) → part r at 10 ≡ command_row c → c < 16 → command_of (window r at 10) ≡ c
unfolding window
the-command r at c p h = ap (λ (x : Row). command_of (big x)) p ∙ command-window c h

module _ (r : Row) (channels : ℕ) where
  read-units : (us : List Part) (f : Frame) → drop (place_of f) r ≡ units_row us → length r ≡ place_of f + length (units_row us)
      → f.channels + length (channels_in us) ≡ channels → Placed f.channels f.active (channels_in us)
      → length f.commands + length (commands_in us) ≤ 255 → numbered (commands_in us) ≡ true → synced (f.commands ++ commands_in us) ≡ true
      → read_on r channels (channels + 256 - (f.channels + length f.commands)) f ≡ accepted (with_units us f)
  unfolding units_row channels_in commands_in with_units Placed
  read-units [] f e long all placed few named with-sync =
      read_step r channels f (omega arith) (omega arith) (accepted End)
      (piece-end r channels f (omega arith) (omega arith) (ap synced (sym (append-nil f.commands)) ∙ with-sync))
  read-units (channel w ∷ us) f e long all placed few named with-sync =
      let first = first_part r (channel_row w) (units_row us) (place_of f) 40 (length-channel w) e in
      let size : length (channel_row w ++ units_row us) ≡ 40 + length (units_row us) =
      length-append (channel_row w) (units_row us) ∙ ap (λ (n : ℕ). n + length (units_row us)) (length-channel w) in
      let here : place_of (with_channel w f) ≡ place_of f + 40 = omega arith in
      let fuel : channels + 256 - (f.channels + length f.commands + 1) ≡ channels + 256 - (f.channels + 1 + length f.commands) = omega arith in
      let right : channel_piece f.channels f.active w ≡ accepted (Channel w) = rw (placed.0, placed.1, placed.2) in
      read_step r channels f (omega arith) (omega arith) (accepted (Channel w))
      (piece-channel r channels f w (omega arith) (omega arith) (ap channel_of first.0 ∙ channel-back w placed.3) right)
      ∙ ap (λ (k : ℕ). read_on r channels k (with_channel w f)) fuel
      ∙ read-units us (with_channel w f) (ap (λ (k : ℕ). drop k r) here ∙ first.1) (omega arith) (omega arith) placed.4 few named with-sync
  read-units (command c ∷ us) f e long all placed few named with-sync =
      let cs = commands_in us in
      let known : c < 16 = numbered-at (c ∷ cs) named 0 (omega arith) in
      let first = first_part r (command_row c) (units_row us) (place_of f) 10 (length-command c) e in
      let size : length (command_row c ++ units_row us) ≡ 10 + length (units_row us) =
      length-append (command_row c) (units_row us) ∙ ap (λ (n : ℕ). n + length (units_row us)) (length-command c) in
      let one : length (f.commands ++ (c ∷ [])) ≡ length f.commands + 1 = length-append f.commands (c ∷ []) in
      let here : place_of (with_command c f) ≡ place_of f + 10 = omega arith in
      let fuel : channels + 256 - (f.channels + length f.commands + 1) ≡ channels + 256 - (f.channels + length (f.commands ++ (c ∷ []))) = omega arith in
      read_step r channels f (omega arith) (omega arith) (accepted (Command c))
      (piece-command r channels f c (omega arith) (omega arith) known (the-command r (place_of f) c first.0 known))
      ∙ ap (λ (k : ℕ). read_on r channels k (with_command c f)) fuel
      ∙ read-units us (with_command c f) (ap (λ (k : ℕ). drop k r) here ∙ first.1) (omega arith) all placed (omega arith)
      (numbered-all cs (λ k h. numbered-at (c ∷ cs) named (suc k) (omega arith)))
      (ap synced (append_assoc f.commands (c ∷ []) cs) ∙ with-sync)

-- every lawful frame is read, with its units
pub lawful-read : (channels : ℕ) (us : List Part) → Lawful channels us → row_read (units_row us) channels ≡ accepted (with_units us at_start)
lawful-read channels us l =
    from_start (units_row us) channels
    ∙ read-units (units_row us) channels us at_start refl (omega arith) (omega (arith, l.all)) l.placed (omega (arith, l.few)) l.named l.with-sync

-- ---- a frame that is read is the units of one

-- the row from a place on, its first n bits apart
next-part : (r : Row) (at n : ℕ) → at + n ≤ length r → drop at r ≡ part r at n ++ drop (at + n) r
next-part r at n h =
    sym (take-append-drop n (drop at r)) ∙ ap₂ (λ (x y : Row). x ++ y) (sym (part_in r at n h)) (drop-drop n at r)

command-part : (r : Row) (at c : ℕ) → window r at 10 ≡ command_code c → part r at 10 ≡ command_row c
unfolding window
command-part r at c e = sym (rw (length_part r at 10) at (big_bits-big (part r at 10))) ∙ ap (big_bits 10) e

-- what is left of a frame from f on, where reading it ends with g
record Left (r : Row) (channels : ℕ) (f g : Frame) : Type 0 where
  us : List Part
  row : drop (place_of f) r ≡ units_row us
  result : g ≡ with_units us f
  all : f.channels + length (channels_in us) ≡ channels
  placed : Placed f.channels f.active (channels_in us)
  few : length f.commands + length (commands_in us) ≤ 255
  named : numbered (commands_in us) ≡ true
  with-sync : synced (f.commands ++ commands_in us) ≡ true

module _ (r : Row) (channels : ℕ) (g : Frame) where
  ending : Room r channels g (accepted End) → length g.commands ≤ 255 → Left r channels g g
  unfolding units_row channels_in commands_in with_units Placed
  ending q h =
      record {
        us = [];
        row = drop_of_length-le r {i = place_of g} (omega (arith, q.2));
        result = refl;
        all = omega (arith, q.0);
        placed = tt;
        few = omega arith;
        named = numbered-all [] (λ k l. absurd (omega arith));
        with-sync = ap synced (append-nil g.commands) ∙ q.1;
      }

  before-command : (f : Frame) (c : ℕ) → Room r channels f (accepted (Command c)) → Left r channels (with_command c f) g → Left r channels f g
  unfolding units_row channels_in commands_in with_units
  before-command f c q rest =
      let one : length (f.commands ++ (c ∷ [])) ≡ length f.commands + 1 = length-append f.commands (c ∷ []) in
      let p : place_of f + 10 ≡ place_of (with_command c f) = omega arith in
      record {
        us = command c ∷ rest.us;
        row =
            next-part r (place_of f) 10 q.1
            ∙ ap₂ (λ (x y : Row). x ++ y) (command-part r (place_of f) c q.3) (ap (λ (k : ℕ). drop k r) p ∙ rest.row);
        result = rest.result;
        all = rest.all;
        placed = rest.placed;
        few = omega (arith, rest.few);
        named = numbered_next c (commands_in rest.us) q.2 rest.named;
        with-sync = sym (ap synced (append_assoc f.commands (c ∷ []) (commands_in rest.us))) ∙ rest.with-sync;
      }

  before-channel : (f : Frame) (w : ℕ) → Room r channels f (accepted (Channel w)) → Left r channels (with_channel w f) g → Left r channels f g
  unfolding units_row channels_in commands_in with_units Placed
  before-channel f w q rest =
      let p : place_of f + 40 ≡ place_of (with_channel w f) = omega arith in
      let only = channel-only (part r (place_of f) 40) w (length_part r (place_of f) 40) q.2 in
      record {
        us = channel w ∷ rest.us;
        row = next-part r (place_of f) 40 q.1 ∙ ap₂ (λ (x y : Row). x ++ y) only.1 (ap (λ (k : ℕ). drop k r) p ∙ rest.row);
        result = rest.result;
        all = omega (arith, rest.all);
        placed = (q.3, q.4, q.5, only.0, rest.placed);
        few = rest.few;
        named = rest.named;
        with-sync = rest.with-sync;
      }

  left : row_read r channels ≡ accepted g → Left r channels at_start g
  left e =
      read_back r channels g (λ f. length f.commands ≤ 255 → Left r channels f g) ending
      (λ f c q on h. before-command f c q (on (omega (arith, q.0, length-append f.commands (c ∷ []))))) (λ f w q on h. before-channel f w q (on h)) e (omega arith)

  -- its units make a frame, are the row, and give the frame
  pub units-read : row_read r channels ≡ accepted g → (us : List Part) × Lawful channels us × (r ≡ units_row us) × (g ≡ with_units us at_start)
  units-read e =
      let l = left e in
      (l.us, record { all = omega (arith, l.all); placed = l.placed; few = omega (arith, l.few); named = l.named; with-sync = l.with-sync }, l.row, l.result)
