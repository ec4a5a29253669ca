-- `report::put_end` meets its contract. Assumes nothing.
use mathlib.Core.Path.{sym, ap}
use native.Mathlib.Omega.{arith}
use Rattle.report.specs.Night.{end_text}
use Rattle.report.proofs.TextLaws.{put_as}
use Rattle.report.proofs.put_end.Goals as goal

pub returns-in-Going : goal.returns-in-Going
unfolding end_text
returns-in-Going c =
    record { put = put_as (sym (ap end_text c.in-Going.is)) c.put.ensures; end_bound = omega (arith, c.put.ensures.ends) }

pub returns-in-End : goal.returns-in-End
unfolding end_text
returns-in-End c =
    record { put = put_as (sym (ap end_text c.in-End.is)) c.put-in-End.ensures; end_bound = omega (arith, c.put-in-End.ensures.ends) }

pub returns-in-Long : goal.returns-in-Long
unfolding end_text
returns-in-Long c =
    record { put = put_as (sym (ap end_text c.in-Long.is)) c.put-in-Long.ensures; end_bound = omega (arith, c.put-in-Long.ensures.ends) }

pub returns-in-Cut : goal.returns-in-Cut
unfolding end_text
returns-in-Cut c =
    record { put = put_as (sym (ap end_text c.in-Cut.is)) c.put-in-Cut.ensures; end_bound = omega (arith, c.put-in-Cut.ensures.ends) }

pub returns-in-Full : goal.returns-in-Full
unfolding end_text
returns-in-Full c =
    record { put = put_as (sym (ap end_text c.in-Full.is)) c.put-in-Full.ensures; end_bound = omega (arith, c.put-in-Full.ensures.ends) }
