-- `codes::eight_lanes::lacks` meets its contract: what is done stands in front, and the rest gives the whole. Assumes nothing.
use mathlib.Core.Path.{◌≡◌, sym, ap, ◌∙◌}
use mathlib.Core.List.{List, ◌∷◌, ◌++◌}
use Prim.Native.Nat.{ℕ, ◌+◌, ◌≤◌, ◌<◌}
use native.Mathlib.Numerals.{add-one}
use native.Mathlib.Omega.{arith}
use lib.ListN.{length, get_or, take, drop, set, length-set, drop_of_length-le}
use lib.Seq.{drop-cons, drop-set-lt, take_all}
use borrow.Rule.Slice.PartMut.{mid_of}
use lib.Bits.{bit_xor}
use Rattle.bits.proofs.Filling.{filled, filled-all}
use Rattle.codes.specs.Differences.{xored}
use Rattle.codes.proofs.CheckLaws.{length-checks, length-last, lacks-wide}
use Rattle.codes.proofs.eight_lanes.lacks.Goals as goal

-- an octet more
more : (s last whole : List ℕ) (n v : ℕ) → n < length s → n < length last → v ≡ bit_xor (get_or s n 0) (get_or last n 0)
    → take n s ++ xored (drop n s) (drop n last) ≡ whole
    → take (n + 1) (set s n v) ++ xored (drop (n + 1) (set s n v)) (drop (n + 1) last) ≡ whole
unfolding xored
more s last whole n v h l is e =
    let rest = xored (drop (n + 1) s) (drop (n + 1) last) in
    let first : xored (drop n s) (drop n last) ≡ v ∷ rest = rw (drop-cons s n 0 h, drop-cons last n 0 l, add-one n, is) in
    rw (drop-set-lt (n + 1) s n v (omega arith)) (filled s rest whole n v h (ap (λ (r : List ℕ). take n s ++ r) (sym first) ∙ e))

done : (s last whole : List ℕ) (n : ℕ) → length s ≤ n → length last ≤ n → take n s ++ xored (drop n s) (drop n last) ≡ whole → s ≡ whole
unfolding xored
done s last whole n h l e =
    filled-all s whole n h (rw (drop_of_length-le s {i = n} h, drop_of_length-le last {i = n} l) at e)

-- the last six of 30
module _ (os : List ℕ) (h : length os ≡ 30) where
  last : mid_of 24 6 os ≡ drop 24 os
  last = take_all 6 (drop 24 os) (omega (arith, length-last os h))

pub loop-n-init : goal.loop-n-init
loop-n-init c = record {
  six = ap length c.checks-s.ensures ∙ length-checks (take 24 c.args.octets.now);
  to-do = ap (λ (s : List ℕ). xored s (drop 24 c.args.octets.now)) c.checks-s.ensures;
}

pub loop-n-preserved : goal.loop-n-preserved
loop-n-preserved c =
    let v = c.loop-n in
    let os : List ℕ = c.args.octets.now in
    let six : length (drop 24 os) ≡ 6 = length-last os c.told-octets in
    let t : v.n < 6 = omega (arith, ap length (last os c.told-octets)) in
    record {
      six = length-set v.s v.n _ ∙ v.invariant.six;
      to-do = more v.s (drop 24 os) _ v.n _ (omega arith) (omega arith)
          (ap (λ (l : List ℕ). bit_xor (get_or v.s v.n 0) (get_or l v.n 0)) (last os c.told-octets)) v.invariant.to-do;
    }

pub returns : goal.returns
returns c =
    let v = c.loop-n in
    let os : List ℕ = c.args.octets.now in
    let six : length (drop 24 os) ≡ 6 = length-last os c.told-octets in
    let t : 6 ≤ v.n = omega (arith, ap length (last os c.told-octets)) in
    done v.s (drop 24 os) _ v.n (omega arith) (omega arith) v.invariant.to-do ∙ lacks-wide os c.told-octets c.fits-octets
