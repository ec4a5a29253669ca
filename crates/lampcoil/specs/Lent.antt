-- Every buffer that an entry is lent to write to, and what is promised of it: the first so many elements are written,
-- whatever stood there, and no other changes; or it is edited in place. `tests/lent` fails unless each `&mut` parameter
-- of the entries is here, by what its contract says it holds at exit. Assumes nothing.
use Rattle.std.specs.Prelude.{ℕ, true, ◌&&◌, ◌||◌, List, [], ◌∷◌, eqb, ltb, ℤ, pos, length, get_or, take, set}
use Rattle.bits.specs.Pick.{pick}
use Rattle.answer.specs.Answer.{after, rewritten}
use Rattle.answer.specs.Residue.{NoResidue, InPlace}
use Rattle.codes.specs.Crcc.{crcc_of, seal_answer, sealed}
use Rattle.codes.specs.Edit.{edit_answer, edited}
use Rattle.line.specs.Biphase.{table_laid}
use Rattle.block.specs.Block.{samples_of, side_of}
use Rattle.aes3_write.specs.Writer.{write_answer}
use Rattle.aes3_read.specs.Reader.{read_answer}
use Rattle.aes3_hunt.specs.Align.{aligned}
use Rattle.madi_write.specs.Writer.{needed, frame_written}
use Rattle.madi_read.specs.Reader.{frame_read, words_of, commands_of}
use Rattle.madi_patch.specs.Leased.{leased_answer, leased_frame, leased_verdicts}
use Rattle.leases.specs.Table.{held_by, closed}
use Rattle.leases.specs.Calls.{ask_answer, ask_table, back_answer, back_table, close_answer, close_table, close_moves}
use Rattle.hd_write.specs.Write.{words_written}
use Rattle.hd_write.specs.Write.{write_answer as packet_answer}
use Rattle.hd_read.specs.Read.{bodies_after}
use Rattle.hd_read.specs.Read.{read_answer as packet_read_answer}
use Rattle.hd_repair.specs.Repair.{repair_answer, words_repaired}
use Rattle.hd_control.specs.Write.{write_answer as control_answer}
use Rattle.hd_control.specs.Write.{control_written}
use Rattle.talkback.specs.Talkback.{program_of, voice_of, voice_join_answer, separate_answer}
use Rattle.levels.specs.Lines.{line_at, sheet_joined}
use Rattle.levels.specs.Sheets.{sheet_of}
use Rattle.levels.specs.Calls.{as_block, start_answer, start_left, join_left, add_answer, add_left}
use Rattle.levels.specs.Calls.{join_answer as sheet_answer}
use Rattle.replay.specs.Replay.{replay_figures, replay_answer, sheet_after}
use Rattle.lampcoil.specs.Told.{fields_lent}
use Rattle.lampcoil.specs.Control.{control_lent}

-- an entry, and the parameter that it writes to
pub data Lent : Type 0 where
  status-seal-status : Lent
  status-edit-status : Lent
  aes3-write-line : Lent
  biphase-table-table : Lent
  aes3-read-samples : Lent
  aes3-read-side : Lent
  aes3-align-block : Lent
  madi-write-line : Lent
  madi-read-words : Lent
  madi-read-commands : Lent
  madi-patch-frame-out : Lent
  madi-patch-verdicts : Lent
  lease-ask-table : Lent
  lease-return-table : Lent
  lease-close-table : Lent
  lease-close-moves : Lent
  hd-write-words : Lent
  hd-read-bodies : Lent
  hd-repair-repaired : Lent
  hd-control-write-words : Lent
  talkback-join-samples : Lent
  talkback-separate-program : Lent
  talkback-separate-voice : Lent
  level-start-sheet : Lent
  level-add-sheet : Lent
  level-join-sheet : Lent
  replay-sheet : Lent

-- the stretch in document 01's numbers, or the places that are written and what each then holds
abbrev pub Promised : Lent → Type 0
-- byte 23
Promised Lent.status-seal-status =
    InPlace 0 (λ status k. eqb k 23) (λ status k. crcc_of status) (λ status. seal_answer status) (λ status. sealed status)
-- the byte that is edited, and byte 23
Promised Lent.status-edit-status =
    (byte value : ℕ)
    → InPlace 0 (λ status k. eqb k 23 || eqb k byte) (λ status k. pick (eqb k 23) (crcc_of (set status byte value)) value)
    (λ status. edit_answer status byte value) (λ status. edited status byte value)
-- 3,072 octets
Promised Lent.aes3-write-line =
    (samples : List ℤ) (side : List ℕ) (level : ℕ)
    → NoResidue 3072 (λ line. write_answer samples side level (length line))
    (λ line. rewritten (write_answer samples side level (length line)) line)
-- 256 entries
Promised Lent.biphase-table-table = NoResidue 256 (λ table. table_laid (length table)) (λ table. rewritten (table_laid (length table)) table)
-- 384 samples, and a side table of 192 octets
Promised Lent.aes3-read-samples =
    (line side : List ℕ)
    → NoResidue 384 (λ samples. read_answer line (length samples) (length side))
    (λ samples. after samples_of (read_answer line (length samples) (length side)) samples)
Promised Lent.aes3-read-side =
    (line : List ℕ) (samples : List ℤ)
    → NoResidue 192 (λ side. read_answer line (length samples) (length side))
    (λ side. after side_of (read_answer line (length samples) (length side)) side)
Promised Lent.aes3-align-block =
    (line : List ℕ) (position : ℕ)
    → NoResidue 3072 (λ block. aligned line position (length block)) (λ block. rewritten (aligned line position (length block)) block)
-- the octets needed
Promised Lent.madi-write-line =
    (channels : ℕ) (words commands : List ℕ) (level : ℕ)
    → NoResidue (needed channels (length commands)) (λ line. frame_written channels words commands level (length line))
    (λ line. rewritten (frame_written channels words commands level (length line)) line)
-- as many words as there are channels, and 255 commands
Promised Lent.madi-read-words =
    (channels level bits : ℕ) (line commands : List ℕ)
    → NoResidue channels (λ words. frame_read channels level bits line (length words) (length commands))
    (λ words. after words_of (frame_read channels level bits line (length words) (length commands)) words)
Promised Lent.madi-read-commands =
    (channels level bits : ℕ) (line words : List ℕ)
    → NoResidue 255 (λ commands. frame_read channels level bits line (length words) (length commands))
    (λ commands. after commands_of (frame_read channels level bits line (length words) (length commands)) commands)
-- as many words, and verdicts, as there are channels
Promised Lent.madi-patch-frame-out =
    (channels active : ℕ) (leases rows frame-in verdicts : List ℕ)
    → NoResidue channels (λ frame-out. leased_answer channels active leases rows frame-in (length frame-out) (length verdicts))
    (λ frame-out. leased_frame channels active leases rows frame-in frame-out verdicts)
Promised Lent.madi-patch-verdicts =
    (channels active : ℕ) (leases rows frame-in frame-out : List ℕ)
    → NoResidue channels (λ verdicts. leased_answer channels active leases rows frame-in (length frame-out) (length verdicts))
    (λ verdicts. leased_verdicts channels active leases rows frame-in frame-out verdicts)
-- the n lowest free slots become the tenant's
Promised Lent.lease-ask-table =
    (tenant n : ℕ)
    → InPlace 0 (λ table k. eqb (get_or table k 0) 0 && ltb (held_by 0 (take k table)) n) (λ table k. tenant) (λ table. ask_answer tenant n table)
    (λ table. ask_table tenant n table)
-- the tenant's slots become free
Promised Lent.lease-return-table =
    (tenant : ℕ)
    → InPlace 0 (λ table k. eqb (get_or table k 0) tenant) (λ table k. 0) (λ table. back_answer tenant table) (λ table. back_table tenant table)
-- every slot; and 128 octets of moves
Promised Lent.lease-close-table =
    (moves : List ℕ)
    → InPlace 0 (λ table k. true) (λ table k. get_or (closed table) k 0) (λ table. close_answer (length moves) table)
    (λ table. close_table (length moves) table)
Promised Lent.lease-close-moves = (table : List ℕ) → NoResidue 128 (λ moves. close_answer (length moves) table) (λ moves. close_moves table moves)
-- 31 words
Promised Lent.hd-write-words =
    (group dbn phase ck12 z1 z2 : ℕ) (bodies : List ℕ)
    → NoResidue 31 (λ words. packet_answer (fields_lent group dbn phase ck12 z1 z2) bodies (length words))
    (λ words. words_written (fields_lent group dbn phase ck12 z1 z2) bodies words)
-- four bodies
Promised Lent.hd-read-bodies = (words : List ℕ) → NoResidue 4 (λ bodies. packet_read_answer words (length bodies)) (λ bodies. bodies_after words bodies)
Promised Lent.hd-repair-repaired =
    (words : List ℕ) → NoResidue 31 (λ repaired. repair_answer words (length repaired)) (λ repaired. words_repaired words repaired)
-- 18 words
Promised Lent.hd-control-write-words =
    (group frame rate asynchronous active valid12 : ℕ) (delay12 : ℤ) (valid34 : ℕ) (delay34 : ℤ)
    → NoResidue 18 (λ words. control_answer (control_lent group frame rate asynchronous active valid12 delay12 valid34 delay34) (length words))
    (λ words. control_written (control_lent group frame rate asynchronous active valid12 delay12 valid34 delay34) words)
-- 384 samples, the program's as well, and 128 of the voice
Promised Lent.talkback-join-samples =
    (program voice : List ℤ) (side : List ℕ)
    → NoResidue 384 (λ samples. voice_join_answer program voice side (length samples))
    (λ samples. rewritten (voice_join_answer program voice side (length samples)) samples)
Promised Lent.talkback-separate-program =
    (samples : List ℤ) (side : List ℕ) (voice : List ℤ)
    → NoResidue 384 (λ program. separate_answer samples side (length program) (length voice))
    (λ program. after program_of (separate_answer samples side (length program) (length voice)) program)
Promised Lent.talkback-separate-voice =
    (samples : List ℤ) (side : List ℕ) (program : List ℤ)
    → NoResidue 128 (λ voice. separate_answer samples side (length program) (length voice))
    (λ voice. after voice_of (separate_answer samples side (length program) (length voice)) voice)
-- 20 numbers; adding and joining write each of them
Promised Lent.level-start-sheet = NoResidue 20 (λ sheet. start_answer sheet) (λ sheet. start_left sheet)
Promised Lent.level-add-sheet =
    (samples : List ℤ) (side : List ℕ)
    → InPlace (pos 0) (λ sheet k. true) (λ sheet k. line_at (sheet_joined sheet (sheet_of (as_block samples side ∷ []))) k)
    (λ sheet. add_answer sheet (as_block samples side)) (λ sheet. add_left sheet (as_block samples side))
Promised Lent.level-join-sheet =
    (later : List ℤ)
    → InPlace (pos 0) (λ sheet k. true) (λ sheet k. line_at (sheet_joined sheet later) k) (λ sheet. sheet_answer sheet later)
    (λ sheet. join_left sheet later)
-- every figure
Promised Lent.replay-sheet =
    (records : List ℕ)
    → InPlace 0 (λ sheet k. true) (λ sheet k. get_or (replay_figures records sheet) k 0) (λ sheet. replay_answer records sheet)
    (λ sheet. sheet_after records sheet)
