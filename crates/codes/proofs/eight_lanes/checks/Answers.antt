-- `codes::eight_lanes::checks` meets its contract: the octets that are left, fed to what the divider holds, give the whole. Assumes nothing.
use mathlib.Core.Path.{refl, sym, ◌∙◌}
use mathlib.Core.List.{List}
use Prim.Native.Nat.{ℕ}
use native.Mathlib.Omega.{arith}
use lib.ListN.{take}
use lib.Seq.{length-take-le}
use Rattle.codes.proofs.Wide.{stepped-below, fed-next, fed-done}
use Rattle.codes.proofs.CheckLaws.{checks-wide, zeros-below}
use Rattle.codes.proofs.eight_lanes.checks.Goals as goal

pub loop-octet-init : goal.loop-octet-init
loop-octet-init c = record { six = refl; octets = zeros-below; to-do = refl }

pub loop-octet-preserved : goal.loop-octet-preserved
loop-octet-preserved c =
    let v = c.loop-octet in
    record {
      six = refl;
      octets = stepped-below v.s _ v.invariant.octets (omega arith);
      to-do = sym (fed-next v.s (take 24 c.args.octets.now) v.octet-index c.loop-octet-test.true) ∙ v.invariant.to-do;
    }

pub returns : goal.returns
returns c =
    let ds : List ℕ = take 24 c.args.octets.now in
    let v = c.loop-octet in
    checks-wide ds v.s (length-take-le 24 c.args.octets.now (omega arith)) v.invariant.six v.invariant.octets
    (sym (fed-done v.s ds v.octet-index c.loop-octet-test.false) ∙ v.invariant.to-do)
