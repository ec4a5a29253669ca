-- `leases::is_tenant` meets its contract. Assumes nothing.
use mathlib.Core.Path.{◌∙◌}
use Rattle.leases.specs.Calls.{tenant}
use Rattle.leases.proofs.Within.{within}
use Rattle.leases.proofs.is_tenant.Goals as goal

pub returns : goal.returns
unfolding tenant
returns c =
    c.contains.ensures.value ∙ rw (c.new.ensures.start, c.new.ensures.end, c.new.ensures.exhausted) (within 1 255 c.args.t)
