-- Talkback over the line: what was joined, written, read and separated gives program and voice back, for every status
-- that the writer accepts. Assumes nothing.
use mathlib.Core.Path.{◌≡◌}
use mathlib.Core.List.{List}
use Prim.Native.Nat.{ℕ}
use lib.IntN.{ℤ}
use lib.ListN.{length}
use Rattle.bits.specs.Row.{Below}
use Rattle.answer.specs.Answer.{Answer.accepted, verdict, after, rewritten}
use Rattle.block.specs.Side.{side_length}
use Rattle.block.specs.Block.{samples_of, side_of}
use Rattle.aes3_write.specs.Writer.{write_answer}
use Rattle.aes3_read.specs.Reader.{read_answer}
use Rattle.talkback.specs.Talkback.{program_of, voice_of, voice_join_answer, separate_answer}
use Rattle.talkback.proofs.Trips.{joined-separates}
use Rattle.aes3.proofs.BlockTrips.{written-read-back}

module _ (program voice : List ℤ) (side : List ℕ) (octets : Below 256 side) (old : List ℤ) (level : ℕ) (room : List ℕ) where
  -- what the samples hold after joining, and the line after writing them
  abbrev joined : List ℤ
  joined = rewritten (voice_join_answer program voice side (length old)) old

  abbrev written : List ℕ
  written = rewritten (write_answer joined side level (length room)) room

  module _ (s : List ℤ) (t : List ℕ) where
    -- what the buffers hold after reading that
    abbrev samples-read : List ℤ
    samples-read = after samples_of (read_answer written (length s) (length t)) s

    abbrev side-read : List ℕ
    side-read = after side_of (read_answer written (length s) (length t)) t

    pub talkback-comes-back : (samples : List ℤ) (line : List ℕ) → voice_join_answer program voice side (length old) ≡ accepted samples
        → write_answer joined side level (length room) ≡ accepted line → length s ≡ 384 → length t ≡ side_length
        → (p v : List ℤ) → length p ≡ 384 → length v ≡ 128
        → (verdict (separate_answer samples-read side-read (length p) (length v)) ≡ accepted tt)
        × (after program_of (separate_answer samples-read side-read (length p) (length v)) p ≡ program)
        × (after voice_of (separate_answer samples-read side-read (length p) (length v)) v ≡ voice)
    talkback-comes-back samples line j w ns nt p v np nv =
        let back = written-read-back joined side level room line octets w s t ns nt in
        rw (back.1, back.2) (joined-separates program voice side old samples j p v np nv)
