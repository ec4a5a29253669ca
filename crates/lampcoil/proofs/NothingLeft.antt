-- Of every buffer that an entry is lent to write to, what is promised holds: a stretch is written whatever stood there,
-- or places are edited; nothing else changes, and on a refusal nothing at all. Assumes nothing.
use lib.ListN.{length}
use Rattle.codes.proofs.SealLaws.{seal-in-place}
use Rattle.codes.proofs.EditLaws.{edit-in-place}
use Rattle.line.proofs.Residue.{biphase-table-leaves-none}
use Rattle.aes3_write.proofs.Residue.{aes3-write-leaves-none}
use Rattle.aes3_read.proofs.Residue.{aes3-read-leaves-none-in-samples, aes3-read-leaves-none-in-side}
use Rattle.aes3_hunt.proofs.AlignLaws.{align-leaves-none}
use Rattle.madi_write.proofs.Residue.{madi-write-leaves-none}
use Rattle.madi_read.proofs.Residue.{madi-read-leaves-none, madi-commands-leave-none}
use Rattle.madi_patch.proofs.LeasedLaws.{leased-patch-leaves-none-in-frame, leased-patch-leaves-none-in-verdicts}
use Rattle.leases.proofs.Residue.{asking-in-place, giving-back-in-place, closing-in-place, closing-leaves-none}
use Rattle.hd_write.proofs.Residue.{hd-write-leaves-none}
use Rattle.hd_read.proofs.Residue.{hd-read-leaves-none}
use Rattle.hd_repair.proofs.Residue.{hd-repair-leaves-none}
use Rattle.hd_control.proofs.Residue.{control-write-leaves-none}
use Rattle.talkback.proofs.Residue.{join-leaves-none, separate-leaves-none-in-program, separate-leaves-none-in-voice}
use Rattle.levels.proofs.Limits.{start-leaves-none, add-leaves, join-leaves}
use Rattle.levels.specs.Calls.{as_block}
use Rattle.replay.proofs.Kept.{replay-leaves}
use Rattle.lampcoil.specs.Told.{fields_lent}
use Rattle.lampcoil.specs.Control.{control_lent}
use Rattle.lampcoil.specs.Lent.{Lent, Promised}

pub nothing_left : (l : Lent) → Promised l
nothing_left Lent.status-seal-status = seal-in-place
nothing_left Lent.status-edit-status = edit-in-place
nothing_left Lent.aes3-write-line = aes3-write-leaves-none
nothing_left Lent.biphase-table-table = biphase-table-leaves-none
nothing_left Lent.aes3-read-samples = λ line side. aes3-read-leaves-none-in-samples line (length side)
nothing_left Lent.aes3-read-side = λ line samples. aes3-read-leaves-none-in-side line (length samples)
nothing_left Lent.aes3-align-block = align-leaves-none
nothing_left Lent.madi-write-line = madi-write-leaves-none
nothing_left Lent.madi-read-words = λ channels level bits line commands. madi-read-leaves-none channels level bits line (length commands)
nothing_left Lent.madi-read-commands = λ channels level bits line words. madi-commands-leave-none channels level bits line (length words)
nothing_left Lent.madi-patch-frame-out =
    λ channels active leases rows frame-in verdicts. leased-patch-leaves-none-in-frame channels active leases rows frame-in (length verdicts)
nothing_left Lent.madi-patch-verdicts =
    λ channels active leases rows frame-in frame-out. leased-patch-leaves-none-in-verdicts channels active leases rows frame-in (length frame-out)
nothing_left Lent.lease-ask-table = asking-in-place
nothing_left Lent.lease-return-table = giving-back-in-place
nothing_left Lent.lease-close-table = λ moves. closing-in-place (length moves)
nothing_left Lent.lease-close-moves = closing-leaves-none
nothing_left Lent.hd-write-words = λ group dbn phase ck12 z1 z2 bodies. hd-write-leaves-none (fields_lent group dbn phase ck12 z1 z2) bodies
nothing_left Lent.hd-read-bodies = hd-read-leaves-none
nothing_left Lent.hd-repair-repaired = hd-repair-leaves-none
nothing_left Lent.hd-control-write-words =
    λ group frame rate asynchronous active valid12 delay12 valid34 delay34.
    control-write-leaves-none (control_lent group frame rate asynchronous active valid12 delay12 valid34 delay34)
nothing_left Lent.talkback-join-samples = join-leaves-none
nothing_left Lent.talkback-separate-program = λ samples side voice. separate-leaves-none-in-program samples side (length voice)
nothing_left Lent.talkback-separate-voice = λ samples side program. separate-leaves-none-in-voice samples side (length program)
nothing_left Lent.level-start-sheet = start-leaves-none
nothing_left Lent.level-add-sheet = λ samples side. add-leaves (as_block samples side)
nothing_left Lent.level-join-sheet = join-leaves
nothing_left Lent.replay-sheet = replay-leaves
