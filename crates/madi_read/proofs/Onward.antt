-- Laws of channels and commands on end: one piece more of a frame. Assumes nothing.
use mathlib.Core.Path.{◌≡◌, refl, sym, ap, ◌∙◌}
use mathlib.Core.Bool.{true}
use mathlib.Core.List.{List, [], ◌∷◌, ◌++◌}
use Prim.Native.Nat.{ℕ, ◌+◌, ◌-◌, ◌/◌, ◌%◌, ◌^◌, ◌≤◌, ◌<◌}
use native.Mathlib.Nat.{div-one}
use native.Mathlib.Omega.{arith}
use borrow.Author.Tests.{lt-ltb, le-ltb, le-leb, eq-eqb, ne_eqb}
use lib.ListN.{length, length-append}
use Rattle.bits.specs.Row.{Row, big}
use Rattle.bits.specs.Window.{part, window}
use Rattle.bits.proofs.Windows.{length_part, window-high}
use Rattle.answer.specs.Answer.{Answer, Answer.accepted}
use Rattle.madi_code.specs.Groups.{command_of}
use Rattle.std.specs.Prelude.{Ok}
use Rattle.madi_code.specs.Channels.{channel_row, channel_of}
use Rattle.madi_code.specs.Frame.{boundary, synced}
use Rattle.madi_code.proofs.ChannelLaws.{channel-only, groups-all, channel-no-command}
use Rattle.madi_read.specs.Reader.{Frame, place_of, channel_piece, end_of, command_piece, piece_at}
use Rattle.madi_read.specs.Inner.{sofar, due_piece, short_piece, Plain, Reached}
use Rattle.madi_read.specs.declared.Piece.{Piece}
use Rattle.madi_read.specs.declared.Piece.TheVariants.{End, Command, Channel}
use Rattle.madi_read.proofs.Walking.{read_step}

-- ---- what stands at a boundary

-- no channel begins with a command
pub no-command : (r : Row) (at w : ℕ) → channel_of (part r at 40) ≡ Ok w → command_of (window r at 10) ≡ 16
unfolding window
no-command r at w e =
    let only = channel-only (part r at 40) w (length_part r at 40) e in
    ap command_of (sym (sym (window-high (channel_row w) 0 10 30) ∙ ap (λ (x : ℕ). x / 2 ^ 30) (groups-all w ∙ ap big (sym only.1))
    ∙ window-high r at 10 30)) ∙ channel-no-command w

module _ (r : Row) (channels : ℕ) (f : Frame) where
  -- a channel that is due and right in its place
  pub piece-channel : (w : ℕ) → f.channels < channels → place_of f + 40 ≤ length r → channel_of (part r (place_of f) 40) ≡ Ok w
      → channel_piece f.channels f.active w ≡ accepted (Channel w) → piece_at r channels f ≡ accepted (Channel w)
  unfolding piece_at
  piece-channel w more fits word right =
      rw (
        ne_eqb (place_of f) (length r) (λ e. absurd (omega arith)),
        no-command r (place_of f) w word,
        le-leb (place_of f + 10) (length r) (omega arith),
        le-ltb (length r) (place_of f + 40) fits,
        ne_eqb f.channels channels (λ e. absurd (omega arith)),
        word,
      )
      right

  -- a command that is not one too many
  pub piece-command : (c : ℕ) → length f.commands < 255 → place_of f + 10 ≤ length r → c < 16 → command_of (window r (place_of f) 10) ≡ c
      → piece_at r channels f ≡ accepted (Command c)
  unfolding piece_at
  piece-command c few fits known e =
      rw (
        ne_eqb (place_of f) (length r) (λ q. absurd (omega arith)),
        le-leb (place_of f + 10) (length r) fits,
        e,
        lt-ltb c 16 known,
        lt-ltb (length f.commands) 255 few,
      )

  -- the end, with all channels and command 0
  pub piece-end : place_of f ≡ length r → f.channels ≡ channels → synced f.commands ≡ true → piece_at r channels f ≡ accepted End
  unfolding piece_at
  piece-end at all with-sync = rw (eq-eqb (place_of f) (length r) at, eq-eqb f.channels channels all, with-sync)

-- ---- the ways out at a boundary after n channels and s commands

module _ (r : Row) (channels n active s bits : ℕ) (commands words : List ℕ) (many : length commands ≡ s) (width : length r ≡ bits) where
  abbrev piece : Answer Piece
  piece = piece_at r channels (sofar n active commands words)

  pub at-end : boundary n s ≡ bits → end_of channels n commands (boundary n s) ≡ piece
  unfolding piece_at
  at-end e = rw (many, width, eq-eqb (boundary n s) bits e)

  pub at-short : (boundary n s ≡ bits → ⊥) → bits < boundary n s + 40 → short_piece r s (boundary n s) ≡ piece
  unfolding piece_at
  at-short apart h = rw (many, width, ne_eqb (boundary n s) bits apart, lt-ltb bits (boundary n s + 40) h)

  module _ (fits : boundary n s + 40 ≤ bits) where
    pub at-word : (w : ℕ) → channel_of (part r (boundary n s) 40) ≡ Ok w → due_piece channels n active (Ok w) (boundary n s) ≡ piece
    unfolding piece_at
    at-word w e =
        rw (
          many,
          width,
          ne_eqb (boundary n s) bits (λ q. absurd (omega arith)),
          le-leb (boundary n s + 10) bits (omega arith),
          no-command r (boundary n s) w e,
          le-ltb bits (boundary n s + 40) fits,
          e,
        )

    pub at-command : (c : ℕ) → c ≡ command_of (window r (boundary n s) 10) → c < 16 → command_piece c s (boundary n s) ≡ piece
    unfolding piece_at
    at-command c e known =
        rw (many, width, ne_eqb (boundary n s) bits (λ q. absurd (omega arith)), le-leb (boundary n s + 10) bits (omega arith), ← e, lt-ltb c 16 known)

    pub at-no-word : (c : ℕ) → c ≡ command_of (window r (boundary n s) 10) → 16 ≤ c → (b : Row) → b ≡ part r (boundary n s) 40
        → due_piece channels n active (channel_of b) (boundary n s) ≡ piece
    unfolding piece_at
    at-no-word c e none b same =
        rw (
          many,
          width,
          ne_eqb (boundary n s) bits (λ q. absurd (omega arith)),
          le-leb (boundary n s + 10) bits (omega arith),
          ← e,
          le-ltb c 16 none,
          le-ltb bits (boundary n s + 40) fits,
          same,
        )

-- ---- one piece more

module _ (r : Row) (channels n : ℕ) (commands : List ℕ) where
  abbrev here : ℕ
  here = boundary n (length commands)

  plain-right : (w : ℕ) → 0 < n → Plain r here w → channel_piece n n w ≡ accepted (Channel w)
  plain-right w some plain =
      let low : w / 1 % 2 ≡ 0 = rw div-one (omega arith) in
      let one : w / 2 % 2 ≡ 1 = omega arith in
      rw (ne_eqb n 0 (λ e. absurd (omega arith)), low, one, eq-eqb n n refl, plain.2)

  -- a channel more
  pub channel-on : (w : ℕ) → 0 < n → n < channels → length commands ≤ 255 → here + 40 ≤ length r → Plain r here w → (words : List ℕ)
      → Reached r channels (sofar n n commands words) (sofar (n + 1) (n + 1) commands (words ++ ((w - 2) ∷ [])))
  channel-on w some more few fits plain words =
      let one : w / 2 % 2 ≡ 1 = omega arith in
      let two : w % 4 ≡ 2 = plain.1 in
      let k : channels + 256 - (n + length commands + 1) ≡ channels + 256 - (n + 1 + length commands) = omega arith in
      sym (read_step r channels (sofar n n commands words) (omega arith) few (accepted (Channel w))
      (piece-channel r channels (sofar n n commands words) w more fits plain.0 (plain-right w some plain)) ∙ rw (one, two, k))

  -- a command more
  pub command-on : (c active : ℕ) → n ≤ channels → length commands < 255 → here + 10 ≤ length r → c < 16 → command_of (window r here 10) ≡ c
      → (words : List ℕ) → Reached r channels (sofar n active commands words) (sofar n active (commands ++ (c ∷ [])) words)
  command-on c active most few fits known e words =
      let k : channels + 256 - (n + length commands + 1) ≡ channels + 256 - (n + length (commands ++ (c ∷ []))) =
      omega (arith, length-append commands (c ∷ [])) in
      sym (read_step r channels (sofar n active commands words) most (omega arith) (accepted (Command c))
      (piece-command r channels (sofar n active commands words) c few fits known e) ∙ rw k)
