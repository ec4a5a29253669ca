-- `codes::eight_lanes::checks` meets its contract: the octets that are left, fed to what the divider holds, give the whole. Assumes nothing.
use mathlib.Core.Path.{◌≡◌}
use Prim.Native.Nat.{◌^◌}
use lib.ListN.{length, take, drop}
use Rattle.bits.specs.Row.{Below}
use Rattle.codes.proofs.Wide.{fed_all}
use Rattle.codes.proofs.CheckLaws.{zeros}
use Rattle.codes.proofs.eight_lanes.checks.Given as goal

abbrev pub invariant-loop-octet : goal.invariant-loop-octet
invariant-loop-octet l = record {
  six : length l.s ≡ 6;
  octets : Below (2 ^ 8) l.s;
  to-do : fed_all l.s (drop l.octet-index (take 24 l.octets)) ≡ fed_all zeros (take 24 l.octets);
}
