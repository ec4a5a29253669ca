-- `codes::crcc_of` meets its contract. The loop's invariant: what the code holds is the octet that the stages are sent as, after the
-- octets passed. Assumes nothing.
use mathlib.Core.Path.{◌≡◌}
use lib.ListN.{take}
use Rattle.codes.specs.Crcc.{stages_after, octet_of}
use Rattle.codes.proofs.crcc_of.Given as goal

abbrev pub invariant-loop-octet : goal.invariant-loop-octet
invariant-loop-octet l = l.c ≡ octet_of (stages_after (take l.octet-index l.status))
