-- The promises over whole blocks: what the writer accepts is read back unchanged, what the reader accepted is written
-- back as the same line where E is empty, and inverting every symbol changes no answer. Assumes nothing.
use mathlib.Core.Path.{◌≡◌, refl, sym, ap, ap₂, ◌∙◌, subst}
use mathlib.Core.Bool.{false}
use mathlib.Core.List.{List}
use Prim.Native.Nat.{ℕ, ◌<◌}
use native.Mathlib.Omega.{arith}
use borrow.Author.Tests.{eq-eqb, eqb-true, lt-ltb}
use lib.IntN.{ℤ}
use lib.ListN.{length, get_or}
use Rattle.bits.specs.Row.{odd, digit, Below}
use Rattle.bits.specs.Pack.{symbols}
use Rattle.bits.proofs.Digits.{digit_lt, odd-digit}
use Rattle.answer.specs.Answer.{Answer.accepted, mapped, verdict, after, rewritten}
use Rattle.answer.specs.Demand.{◌&◌}
use Rattle.answer.proofs.Residues.{whole}
use Rattle.line.specs.Biphase.{left}
use Rattle.line.specs.Polarity.{inverted}
use Rattle.line.proofs.Inverted.{length-inverted}
use Rattle.subframe.proofs.BodyTrips.{proper-body}
use Rattle.block.specs.Side.{side_length}
use Rattle.block.specs.Block.{bodies_of, samples_of, side_of}
use Rattle.block.specs.Check.{Faultless, overlong, status_checked}
use Rattle.block.proofs.BlockLaws.{length-bodies, length-samples, length-side, proper, samples-back, side-back, even-read, bodies-back}
use Rattle.block.proofs.CheckLaws.{Passes, met-passes, right-back, read-met}
use Rattle.aes3_line.specs.Line.{level_before, bodies_on}
use Rattle.aes3_line.proofs.LineTrips.{line-level, read_back, write-back}
use Rattle.aes3_line.proofs.Polarity.{line-not}
use Rattle.aes3_write.specs.Writer.{block_line, write_answer}
use Rattle.aes3_write.proofs.BlockWriting.{block-line, length-block, write-met, write-passing}
use Rattle.aes3_read.specs.Reader.{read_answer, crccs}
use Rattle.aes3_read.proofs.BlockReading.{by-line, received, read_same}

-- ---- what the writer accepts

module _ (samples : List ℤ) (side : List ℕ) (level : ℕ) (old line : List ℕ) (octets : Below 256 side)
    (e : write_answer samples side level (length old) ≡ accepted line) where
  passes : Passes samples side
  passes =
      let m = (write-met samples side level (length old) line e).0 in
      met-passes samples side (m.0 & m.1.0 & m.1.1.1.1)

  abbrev bodies : List ℕ
  bodies = bodies_of samples side

  -- what the buffer then holds
  abbrev written : List ℕ
  written = rewritten (write_answer samples side level (length old)) old

  room : length old ≡ 3072
  room = eqb-true _ 3072 (write-met samples side level (length old) line e).0.1.1.0

  is_block : written ≡ block_line samples side level
  is_block =
      let l = (write-met samples side level (length old) line e).1 in
      rw (e, ← l) (whole (λ new. new) (block_line samples side level) old (length-block samples side level ∙ sym room))

  block_read : read_answer written 384 side_length ≡ accepted bodies
  block_read =
      by-line written 384 side_length (ap length is_block ∙ length-block samples side level) refl refl
      ∙ ap bodies_on (is_block ∙ block-line samples side level)
      ∙ read_back (odd level) bodies (length-bodies samples side) (λ i. proper-body (get_or bodies i 0) (proper samples side i))

  -- the writer accepts only a table whose E is empty
  pub written-faultless : Faultless side
  written-faultless = passes.faultless

  -- whatever the writer accepts the reader accepts, with the same samples, the same side table and both CRCCs right
  pub written-read-back : (s : List ℤ) (t : List ℕ) → length s ≡ 384 → length t ≡ side_length
      → (mapped crccs (read_answer written (length s) (length t)) ≡ accepted (1, 1))
      × (after samples_of (read_answer written (length s) (length t)) s ≡ samples)
      × (after side_of (read_answer written (length s) (length t)) t ≡ side)
  written-read-back s t ns nt =
      let back : side_of bodies ≡ side = side-back samples side passes.ranges passes.side octets written-faultless in
      rw (ns, nt, block_read) (
        rw (back, right-back samples side passes 0 (omega arith), right-back samples side passes 1 (omega arith)),
        whole samples_of bodies s (length-samples bodies ∙ sym ns) ∙ samples-back samples side passes.ranges passes.samples,
        whole side_of bodies t (length-side bodies ∙ sym nt) ∙ back,
      )

  -- and the line leaves the level as it was
  pub written-level : left (odd level) (symbols written) ≡ odd level
  written-level =
      ap (λ (os : List ℕ). left (odd level) (symbols os)) (is_block ∙ block-line samples side level)
      ∙ line-level 0 (odd level) bodies (proper samples side)

-- ---- what the reader accepts

module _ (line bodies : List ℕ) (octets : Below 256 line) (s : List ℤ) (t : List ℕ)
    (e : read_answer line (length s) (length t) ≡ accepted bodies) where
  -- what the buffers then hold
  abbrev samples-read : List ℤ
  samples-read = after samples_of (read_answer line (length s) (length t)) s

  abbrev side-read : List ℕ
  side-read = after side_of (read_answer line (length s) (length t)) t

  writes : Faultless side-read → status_checked side-read ≡ accepted tt → ((i : ℕ) → i < 384 → overlong samples-read side-read i ≡ false)
      → write_answer samples-read side-read (digit (level_before line)) 3072 ≡ accepted line
  writes none status within =
      let r = received line (length s) (length t) bodies e in
      let w = write-back line bodies r.octets octets r.read in
      let level = digit (level_before line) in
      let p : samples-read ≡ samples_of bodies = rw e (whole samples_of bodies s (length-samples bodies ∙ sym r.samples-long)) in
      let q : side-read ≡ side_of bodies = rw e (whole side_of bodies t (length-side bodies ∙ sym r.side-long)) in
      let empty : Faultless (side_of bodies) = subst Faultless q none in
      let m = read-met bodies empty (ap status_checked (sym q) ∙ status) (λ i h. ap₂ (λ (x : List ℤ) (y : List ℕ). overlong x y i) (sym p) (sym q) ∙ within i h) in
      ap₂ (λ (x : List ℤ) (y : List ℕ). write_answer x y level 3072) p q
      ∙ write-passing (samples_of bodies) (side_of bodies) level 3072
      (m.0 & m.1.0 & eq-eqb 3072 3072 refl & lt-ltb level 2 (digit_lt (level_before line)) & m.1.1)
      ∙ ap accepted (block-line (samples_of bodies) (side_of bodies) level
      ∙ rw (odd-digit (level_before line), bodies-back bodies w.many (even-read bodies w.many w.bodies empty)) w.line)

  -- writing it back, at the level that the reader took, into 3,072 octets is accepted and gives that line if E is empty,
  -- both status blocks pass 4, 5 and 6, and no sample has a 1 below the length that its channel's status declares
  pub read-written-back : Faultless side-read → status_checked side-read ≡ accepted tt
      → ((i : ℕ) → i < 384 → overlong samples-read side-read i ≡ false) → (old : List ℕ) → length old ≡ 3072
      → (verdict (write_answer samples-read side-read (digit (level_before line)) (length old)) ≡ accepted tt)
      × (rewritten (write_answer samples-read side-read (digit (level_before line)) (length old)) old ≡ line)
  read-written-back none status within old h =
      let w = ap (write_answer samples-read side-read (digit (level_before line))) h ∙ writes none status within in
      (ap verdict w, ap (λ a. rewritten a old) w ∙ whole (λ new. new) line old ((received line (length s) (length t) bodies e).octets ∙ sym h))

-- ---- inverting every symbol

-- it changes no answer of the reader: what is said and what the buffers hold is said of this answer
pub inverted-answers : (line : List ℕ) → Below 256 line → (samples side : ℕ) → read_answer (inverted line) samples side ≡ read_answer line samples side
inverted-answers line octets samples side =
    read_same (inverted line) line samples side (length-inverted line) (λ n. line-not line n octets)
