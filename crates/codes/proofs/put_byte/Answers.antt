-- `codes::put_byte` meets its contract: byte 23 from the difference. Assumes nothing.
use mathlib.Core.Path.{ap, ◌∙◌}
use lib.ListN.{get_or, set}
use lib.Bits.{bit_xor}
use Rattle.codes.specs.Edit.{with_byte}
use Rattle.codes.proofs.EditLaws.{crcc-from-difference}
use Rattle.codes.proofs.put_byte.Goals as goal

pub returns : goal.returns
unfolding with_byte
returns c =
    let status = c.args.status.now in
    let byte = c.args.byte in
    let new = c.args.new in
    ap (set (set status byte new) 23)
    (ap (bit_xor (get_or status 23 0)) c.crcc_added.ensures ∙ crcc-from-difference status byte new c.requires.1 c.requires.0)
