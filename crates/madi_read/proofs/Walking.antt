-- Laws of reading boundary by boundary: what a piece says of the room that it was found in, and one step of reading.
-- Assumes nothing.
use mathlib.Core.Path.{◌≡◌, refl, sym, subst, ◌∙◌}
use mathlib.Core.Bool.{true, ◌&&◌}
use mathlib.Core.List.{[], ◌∷◌}
use Prim.Native.Nat.{ℕ, zero, suc, ◌+◌, ◌-◌, ◌≤◌, ◌<◌}
use native.Mathlib.Nat.{sub-zero}
use native.Mathlib.Omega.{arith}
use borrow.Author.Tests.{ltb-true, ltb-false, leb-true, eqb-true, eqb-false}
use lib.Dec.{eqb, ltb, leb}
use lib.ListN.{length, length-append}
use Rattle.bits.specs.Pick.{pick}
use Rattle.bits.specs.Row.{Row}
use Rattle.bits.specs.Window.{part, window}
use Rattle.bits.proofs.Tests.{pick-cases, both_true}
use Rattle.answer.specs.Answer.{Answer, Answer.accepted, Answer.refused}
use Rattle.answer.proofs.Chains.{not-both}
use Rattle.subframe.specs.Body.{even_body}
use Rattle.madi_code.specs.Frame.{synced}
use Rattle.madi_code.specs.Groups.{command_code, command_of}
use Rattle.std.specs.Prelude.{Ok, Err}
use Rattle.madi_code.specs.Channels.{ChannelBits, channel_of}
use Rattle.madi_code.proofs.GroupLaws.{command-only}
use Rattle.madi_read.specs.Reader.{Frame, at_start, cleared, place_of, with_command, with_channel, first_right, active_right, channel_at, is_command}
use Rattle.madi_read.specs.Reader.{piece_at, onward, read_on, row_read}
use Rattle.madi_read.specs.declared.Piece.{Piece}
use Rattle.madi_read.specs.declared.Piece.TheVariants.{End, Command, Channel}

-- what each piece says of where it stands
abbrev pub Room : Row → ℕ → Frame → Answer Piece → Type 0
Room r channels f (accepted End) = (f.channels ≡ channels) × (synced f.commands ≡ true) × (place_of f ≡ length r)
Room r channels f (accepted (Command c)) =
    (length f.commands < 255) × (place_of f + 10 ≤ length r) × (c < 16) × (window r (place_of f) 10 ≡ command_code c)
Room r channels f (accepted (Channel w)) =
    (f.channels ≡ channels → ⊥) × (place_of f + 40 ≤ length r) × (channel_of (part r (place_of f) 40) ≡ Ok w)
    × (first_right f.channels w ≡ true) × (active_right f.channels f.active w ≡ true) × (even_body w ≡ true)
Room r channels f (refused number place) = Unit {0}

module _ (r : Row) (channels : ℕ) (f : Frame) where
  channel-room : (f.channels ≡ channels → ⊥) → place_of f + 40 ≤ length r → (c : ChannelBits) → channel_of (part r (place_of f) 40) ≡ c
      → Room r channels f (channel_at (place_of f) f.channels f.active c)
  channel-room apart fits (Err b) e = tt
  channel-room apart fits (Ok w) e =
      let n = f.channels in
      pick-cases (Room r channels f) (first_right n w && active_right n f.active w) (pick (even_body w) (accepted (Channel w)) (refused 9 n)) (refused 12 n)
      (λ h. pick-cases (Room r channels f) (even_body w) (accepted (Channel w)) (refused 9 n)
      (λ k. let b = both_true (first_right n w) (active_right n f.active w) h in (apart, fits, e, b.0, b.1, k)) (λ k. tt)) (λ h. tt)

  pub room : Room r channels f (piece_at r channels f)
  unfolding piece_at
  room =
      let next = window r (place_of f) 10 in
      pick-cases R (eqb (place_of f) (length r)) _ _
      (λ e. pick-cases R (eqb f.channels channels && synced f.commands) (accepted End) (refused 10 (place_of f))
      (λ h. let b = both_true (eqb f.channels channels) (synced f.commands) h in
      (eqb-true f.channels channels b.0, b.1, eqb-true (place_of f) (length r) e)) (λ h. tt))
      (λ e. pick-cases R (is_command r (place_of f)) _ _
      (λ h. pick-cases R (ltb (length f.commands) 255) (accepted (Command (command_of next))) (refused 10 (place_of f))
      (λ k. let b = both_true (leb (place_of f + 10) (length r)) (ltb (command_of next) 16) h in
      let known : command_of next < 16 = ltb-true (command_of next) 16 b.1 in
      (ltb-true (length f.commands) 255 k, leb-true (place_of f + 10) (length r) b.0, known, sym (command-only next known))) (λ k. tt))
      (λ h. pick-cases R (ltb (length r) (place_of f + 40)) _ _ (λ k. tt)
      (λ k. pick-cases R (eqb f.channels channels) _ _ (λ m. tt)
      (λ m. channel-room (eqb-false f.channels channels m) (ltb-false (length r) (place_of f + 40) k) (channel_of (part r (place_of f) 40)) refl))))
    where
      R : Answer Piece → Type 0
      R = Room r channels f

  -- one step of reading
  pub read_step : f.channels ≤ channels → length f.commands ≤ 255 → (p : Answer Piece) → piece_at r channels f ≡ p
      → read_on r channels (channels + 256 - (f.channels + length f.commands)) f
      ≡ onward (read_on r channels (channels + 256 - (f.channels + length f.commands + 1))) f p
  unfolding read_on
  read_step hn hs p e =
      let left : channels + 256 - (f.channels + length f.commands) ≡ suc (channels + 256 - (f.channels + length f.commands + 1)) = omega arith in
      rw (left, e)

-- ---- a frame that is read, from its end back to its start

module _ {ℓ} (r : Row) (channels : ℕ) (g : Frame) (P : Frame → Type ℓ)
    (at-end : Room r channels g (accepted End) → P g)
    (command-before : (f : Frame) (c : ℕ) → Room r channels f (accepted (Command c)) → P (with_command c f) → P f)
    (channel-before : (f : Frame) (w : ℕ) → Room r channels f (accepted (Channel w)) → P (with_channel w f) → P f) where
  backward : (k : ℕ) (f : Frame) → read_on r channels k f ≡ accepted g → P f
  unfolding read_on
  backward zero f e = not-both e
  backward (suc k) f e = by (piece_at r channels f) (room r channels f) (backward k) e
    where
      by : (p : Answer Piece) → Room r channels f p → ((f : Frame) → read_on r channels k f ≡ accepted g → P f)
          → onward (read_on r channels k) f p ≡ accepted g → P f
      by (accepted End) q on e =
          let same : f ≡ g = cc in
          subst P (sym same) (at-end (subst (λ (x : Frame). Room r channels x (accepted End)) same q))
      by (accepted (Command c)) q on e = command-before f c q (on (with_command c f) e)
      by (accepted (Channel w)) q on e = channel-before f w q (on (with_channel w f) e)
      by (refused number place) q on e = not-both e

  pub read_back : row_read r channels ≡ accepted g → P at_start
  unfolding row_read
  read_back e = backward (channels + 256) at_start e

-- a frame that is read has a word for each channel, and at most 255 commands
pub frame-sizes : (r : Row) (channels : ℕ) (g : Frame) → row_read r channels ≡ accepted g
    → (length g.words ≡ channels) × (length g.commands ≤ 255)
frame-sizes r channels g e =
    read_back r channels g
    (λ f. length f.words ≡ f.channels → length f.commands ≤ 255 → (length g.words ≡ channels) × (length g.commands ≤ 255))
    (λ q w s. (w ∙ q.0, s)) (λ f c q on w s. on w (omega (arith, length-append f.commands (c ∷ []), q.0)))
    (λ f v q on w s. on (omega (arith, length-append f.words (cleared v ∷ []), w)) s) e refl (omega arith)

-- reading begins before the first unit
pub from_start : (r : Row) (channels : ℕ) → row_read r channels ≡ read_on r channels (channels + 256 - (0 + 0)) at_start
unfolding row_read
from_start r channels = rw sub-zero
