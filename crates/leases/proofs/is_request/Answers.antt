-- `leases::is_request` meets its contract. Assumes nothing.
use mathlib.Core.Path.{◌∙◌}
use Rattle.leases.specs.Calls.{request}
use Rattle.leases.proofs.Within.{within}
use Rattle.leases.proofs.is_request.Goals as goal

pub returns : goal.returns
unfolding request
returns c =
    c.contains.ensures.value ∙ rw (c.new.ensures.start, c.new.ensures.end, c.new.ensures.exhausted) (within 1 64 c.args.n)
