-- A patched frame is taken by the writer of a frame, and the reader gives it back; one proof for both channel counts.
-- Assumes nothing.
use mathlib.Core.Path.{◌≡◌, sym, ap, ◌∙◌}
use mathlib.Core.Bool.{true}
use mathlib.Core.Logic.{⊎_elim}
use mathlib.Core.List.{List, ◌++◌}
use Prim.Native.Nat.{ℕ, ◌+◌, ◌-◌, ◌^◌, ◌≤◌, ◌<◌}
use native.Mathlib.Omega.{arith}
use borrow.Author.Tests.{le-leb}
use lib.ListN.{length, get_or, take, replicate, length-append, length-replicate, get_or-replicate, get_or-append, get_or-eq_default}
use lib.Seq.{ext_get_or, get_or-take, length-take-le, get_or-append-add}
use Rattle.bits.specs.Row.{Below}
use Rattle.bits.proofs.Tests.{order}
use Rattle.bits.proofs.Bounds.{below-take}
use Rattle.answer.specs.Answer.{Answer.accepted, mapped, verdict, after, rewritten}
use Rattle.answer.specs.Demand.{◌&◌}
use Rattle.madi_code.specs.Frame.{boundary}
use Rattle.madi_write.specs.Writer.{needed, frame_octets, is_list, frame_written}
use Rattle.madi_write.proofs.Checks.{sound-met, frame-accepted}
use Rattle.madi_read.specs.Reader.{frame_read, counts_of, words_of}
use Rattle.madi_patch.specs.Slot.{Panel, verdict_octet}
use Rattle.madi_patch.specs.Patch.{Patched, patch_answer, frame_after}
use Rattle.madi_patch.specs.Leased.{leased_panel, leased_answer, leased_frame}
use Rattle.madi_patch.proofs.LeasedLaws.{by_two, frame-by-two}
use Rattle.madi_patch.proofs.SlotLaws.{none_out, not-carried-is-silent, word-cases}
use Rattle.madi_patch.proofs.PatchLaws.{accepted-counted, accepted-some, accepted-within, word_at, length-out, active-words-pass}
use Rattle.madi.specs.Units.{padded}
use Rattle.madi.proofs.ReadWritten.{read-counts, read-words}

module _ (channels : ℕ) (p : Panel) (old-frame old-verdicts : List ℕ) (made : Patched)
    (accepts : patch_answer channels p (length old-frame) (length old-verdicts) ≡ accepted made) where
  -- the frame that the patch leaves, and its active words
  abbrev out : List ℕ
  out = frame_after channels p old-frame old-verdicts

  abbrev sent : List ℕ
  sent = take p.active out

  long : length out ≡ channels
  long = length-out channels p old-frame old-verdicts made accepts

  within : p.active ≤ channels
  within = accepted-within channels p old-frame old-verdicts made accepts

  sent-long : length sent ≡ p.active
  sent-long = length-take-le p.active out (omega (arith, long, within))

  -- slots at or above the active count are silent
  above : (i : ℕ) → p.active ≤ i → i < channels → get_or out i 0 ≡ 0
  above i h l =
      word_at channels p old-frame old-verdicts made accepts i l
      ∙ not-carried-is-silent p i (λ e. let z : ◌≡◌ {A = ℕ} 0 1 = sym e ∙ ap verdict_octet (none_out p i h) in omega arith)

  -- so that the active words, and zeros for the inactive slots, are the whole frame
  all-of-it : padded channels sent ≡ out
  unfolding padded
  all-of-it =
      let rest : List ℕ = replicate (channels - length sent) 0 in
      let n : length (sent ++ rest) ≡ channels =
      length-append sent rest ∙ omega (arith, length-replicate {A = ℕ} (channels - length sent) 0, sent-long, within) in
      ext_get_or 0 (sent ++ rest) out (n ∙ sym long)
      (λ i h. ⊎_elim
      (λ (l : length sent ≤ i). let e : i ≡ length sent + (i - length sent) = omega arith in
      ap (λ (k : ℕ). get_or (sent ++ rest) k 0) e ∙ get_or-append-add sent rest (i - length sent) 0
      ∙ get_or-replicate {A = ℕ} (channels - length sent) (i - length sent) 0 0 (omega (arith, n)) ∙ sym (above i (omega (arith, sent-long)) (omega (arith, n))))
      (λ (l : i < length sent). get_or-append sent rest 0 i l ∙ get_or-take p.active out i 0 (omega (arith, sent-long)))
      (order (length sent) i))

  -- no word has more bits than those of the frame in
  small : Below (2 ^ 32) p.frame → Below (2 ^ 32) out
  small below i =
      ⊎_elim (λ (l : channels ≤ i). rw (get_or-eq_default out 0 {n = i} (omega (arith, long))) (omega arith))
      (λ (l : i < channels). rw (word_at channels p old-frame old-verdicts made accepts i l)
      (word-cases p i (λ w. w < 2 ^ 32) (λ c. omega (arith, below (get_or p.rows i 0))) (omega arith)))
      (order channels i)

  -- ---- the promise: with every list of commands, level and room that the writer takes

  module _ (commands : List ℕ) (level : ℕ) (old-line : List ℕ) (list : is_list commands ≡ true) (digital : level ≤ 1)
      (fits : needed channels (length commands) ≤ length old-line) where
    pub writer-takes-the-patched : frame_written channels (take p.active (frame_after channels p old-frame old-verdicts)) commands level (length old-line)
        ≡ accepted (frame_octets channels (take p.active (frame_after channels p old-frame old-verdicts)) commands level)
    writer-takes-the-patched =
        frame-accepted channels sent commands level (length old-line)
        (accepted-counted channels p old-frame old-verdicts made accepts
        & le-leb 1 (length sent) (omega (arith, sent-long, accepted-some channels p old-frame old-verdicts made accepts))
        & le-leb (length sent) channels (omega (arith, sent-long, within)) & list & le-leb level 1 digital
        & le-leb (needed channels (length commands)) (length old-line) fits
        & sound-met sent (active-words-pass channels p old-frame old-verdicts made accepts))

    takes : verdict (frame_written channels sent commands level (length old-line)) ≡ accepted tt
    takes = ap verdict writer-takes-the-patched

    -- the octets needed, of the buffer that the writer leaves
    abbrev pub line-out : List ℕ
    line-out =
        take (needed channels (length commands))
        (rewritten (frame_written channels (take p.active (frame_after channels p old-frame old-verdicts)) commands level (length old-line)) old-line)

    -- of them the reader says the active count and the number of commands
    pub reader-counts-the-patched : Below (2 ^ 32) p.frame
        → mapped counts_of (frame_read channels level (boundary channels (length commands)) line-out channels 255) ≡ accepted (p.active, length commands)
    reader-counts-the-patched below =
        read-counts channels sent commands level old-line (below-take (2 ^ 32) p.active out (small below)) takes
        ∙ ap (λ (a : ℕ). accepted (a, length commands)) sent-long

    -- and leaves the whole patched frame
    pub reader-gives-the-patched : Below (2 ^ 32) p.frame → (buffer : List ℕ) → length buffer ≡ channels
        → after words_of (frame_read channels level (boundary channels (length commands)) line-out (length buffer) 255) buffer
        ≡ frame_after channels p old-frame old-verdicts
    reader-gives-the-patched below buffer h =
        read-words channels sent commands level old-line (below-take (2 ^ 32) p.active out (small below)) takes buffer h ∙ all-of-it

-- ---- the same of the frame that the patch by the lease table leaves

module _ (channels active : ℕ) (leases rows frame old-frame old-verdicts : List ℕ) (made : Patched)
    (accepts : leased_answer channels active leases rows frame (length old-frame) (length old-verdicts) ≡ accepted made) (commands : List ℕ)
    (level : ℕ) (old-line : List ℕ) (list : is_list commands ≡ true) (digital : level ≤ 1) (fits : needed channels (length commands) ≤ length old-line) where
  pub writer-takes-the-leased : frame_written channels (take active (leased_frame channels active leases rows frame old-frame old-verdicts)) commands level (length old-line)
      ≡ accepted (frame_octets channels (take active (leased_frame channels active leases rows frame old-frame old-verdicts)) commands level)
  writer-takes-the-leased =
      rw (frame-by-two channels active leases rows frame old-frame old-verdicts made accepts)
      (writer-takes-the-patched channels (leased_panel channels active leases rows frame) old-frame old-verdicts made
      (by_two channels active leases rows frame old-frame old-verdicts made accepts) commands level old-line list digital fits)

  abbrev pub leased-line : List ℕ
  leased-line =
      take (needed channels (length commands))
      (rewritten (frame_written channels (take active (leased_frame channels active leases rows frame old-frame old-verdicts)) commands level (length old-line)) old-line)

  pub reader-counts-the-leased : Below (2 ^ 32) frame
      → mapped counts_of (frame_read channels level (boundary channels (length commands)) leased-line channels 255) ≡ accepted (active, length commands)
  reader-counts-the-leased below =
      rw (frame-by-two channels active leases rows frame old-frame old-verdicts made accepts)
      (reader-counts-the-patched channels (leased_panel channels active leases rows frame) old-frame old-verdicts made
      (by_two channels active leases rows frame old-frame old-verdicts made accepts) commands level old-line list digital fits below)

  pub reader-gives-the-leased : Below (2 ^ 32) frame → (buffer : List ℕ) → length buffer ≡ channels
      → after words_of (frame_read channels level (boundary channels (length commands)) leased-line (length buffer) 255) buffer
      ≡ leased_frame channels active leases rows frame old-frame old-verdicts
  reader-gives-the-leased below buffer h =
      rw (frame-by-two channels active leases rows frame old-frame old-verdicts made accepts)
      (reader-gives-the-patched channels (leased_panel channels active leases rows frame) old-frame old-verdicts made
      (by_two channels active leases rows frame old-frame old-verdicts made accepts) commands level old-line list digital fits below buffer h)
