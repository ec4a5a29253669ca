-- `hd_read::sound` meets its contract. Assumes nothing.
use mathlib.Core.Path.{sym, ◌∙◌}
use native.Mathlib.Omega.{arith}
use Rattle.anc.proofs.Heads.{head_read}
use Rattle.hd_packet.specs.Packet.{dids, dc}
use Rattle.hd_read.proofs.ReadLaws.{sound-met}
use Rattle.hd_read.proofs.sound.Goals as goal

pub returns-then-words-check_word : goal.returns-then-words-check_word
returns-then-words-check_word c =
    let ws = c.args.words.now in
    let r = head_read dids dc ws (omega arith) c.in-Ok.ensures in
    (sound-met ws c.told-words r.0 (sym c.if-all_coded.ensures) (c.if-words-check_word.true ∙ c.check_word.ensures), sym r.1)
