-- `codes::eight_lanes::lacks` meets its contract: what is done stands in front, and the rest gives the whole. Assumes nothing.
use mathlib.Core.Path.{◌≡◌}
use mathlib.Core.List.{◌++◌}
use lib.ListN.{length, take, drop}
use Rattle.codes.specs.Lanes.{check_octets}
use Rattle.codes.specs.Differences.{xored}
use Rattle.codes.proofs.eight_lanes.lacks.Given as goal

abbrev pub invariant-loop-n : goal.invariant-loop-n
invariant-loop-n l = record {
  six : length l.s ≡ 6;
  to-do : take l.n l.s ++ xored (drop l.n l.s) (drop l.n (drop 24 l.octets)) ≡ xored (check_octets (take 24 l.octets)) (drop 24 l.octets);
}
