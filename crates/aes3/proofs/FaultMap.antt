-- What E means. Any 384 bodies, odd ones too, that are sent one after the other by the line's rule, from either level, are
-- accepted: every sample, U and C is as sent, E is set exactly where a body is odd, and V is 1 there and as sent
-- elsewhere. And every line that the reader accepts was sent so. Assumes nothing.
use mathlib.Core.Path.{◌≡◌, sym, ap, ◌∙◌}
use mathlib.Core.Bool.{Bool}
use mathlib.Core.List.{List}
use Prim.Native.Nat.{ℕ, ◌*◌, ◌<◌}
use lib.IntN.{ℤ, pos}
use lib.ListN.{length, get_or}
use Rattle.bits.specs.Row.{bit, Below}
use Rattle.answer.specs.Answer.{Answer.accepted, after}
use Rattle.answer.proofs.Residues.{whole}
use Rattle.subframe.specs.Body.{parity_of, sample_of}
use Rattle.block.specs.Side.{validity_of, validity, user, status, fault, side_length}
use Rattle.block.specs.Block.{side_at, samples_of, side_of}
use Rattle.block.proofs.BlockLaws.{length-samples, get_or-samples, length-side, V-read, U-read, C-read, E-read}
use Rattle.aes3_line.specs.Line.{line_from, level_before}
use Rattle.aes3_line.proofs.LineTrips.{Each, length-line, read_back, WasRead, write-back}
use Rattle.aes3_read.specs.Reader.{read_answer}
use Rattle.aes3_read.proofs.BlockReading.{by-line, received}

module _ (bodies : List ℕ) (many : length bodies ≡ 384) (each : Each bodies) (level : Bool) (s : List ℤ) (t : List ℕ)
    (ns : length s ≡ 384) (nt : length t ≡ side_length) where
  abbrev sent : List ℕ
  sent = line_from 0 level bodies

  -- the reader accepts them, even or odd
  pub sent-is-accepted : read_answer sent (length s) (length t) ≡ accepted bodies
  sent-is-accepted =
      by-line sent (length s) (length t) (length-line 0 level bodies ∙ ap (λ (n : ℕ). n * 8) many) ns nt
      ∙ read_back level bodies many each

  -- what the buffers then hold
  abbrev samples-heard : List ℤ
  samples-heard = after samples_of (read_answer sent (length s) (length t)) s

  abbrev side-heard : List ℕ
  side-heard = after side_of (read_answer sent (length s) (length t)) t

  samples-are : samples-heard ≡ samples_of bodies
  samples-are = rw sent-is-accepted (whole samples_of bodies s (length-samples bodies ∙ sym ns))

  side-is : side-heard ≡ side_of bodies
  side-is = rw sent-is-accepted (whole side_of bodies t (length-side bodies ∙ sym nt))

  -- at subframe i: sample, U and C as sent, E 1 where the body is odd and else 0, V 1 where it is odd and else as sent
  pub sent-is-heard : (i : ℕ) → i < 384
      → (get_or samples-heard i (pos 0) ≡ sample_of (get_or bodies i 0))
      × (side_at side-heard user i ≡ bit 29 (get_or bodies i 0))
      × (side_at side-heard status i ≡ bit 30 (get_or bodies i 0))
      × (side_at side-heard fault i ≡ parity_of (get_or bodies i 0))
      × (side_at side-heard validity i ≡ validity_of (get_or bodies i 0))
  sent-is-heard i h =
      rw (samples-are, side-is) (get_or-samples bodies i h, U-read bodies i h, C-read bodies i h, E-read bodies i h, V-read bodies i h)

-- an accepted line is that of the bodies that were read, sent after the level that the reader took
pub accepted-was-sent : (line bodies : List ℕ) → Below 256 line → (samples side : ℕ) → read_answer line samples side ≡ accepted bodies
    → WasRead 384 0 (level_before line) line bodies
accepted-was-sent line bodies octets samples side e =
    let r = received line samples side bodies e in
    write-back line bodies r.octets octets r.read
