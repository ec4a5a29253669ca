-- `block::fault_map::faults_count` meets its contract: those counted, with those that are left, are all. Assumes nothing.
use mathlib.Core.Path.{◌≡◌, refl}
use native.Mathlib.Omega.{arith}
use Rattle.bits.specs.Row.{digit}
use Rattle.bits.proofs.Digits.{digit_lt}
use Rattle.block.specs.Inner.{some_fault}
use Rattle.block.proofs.CheckLaws.{count_next, count-done}
use Rattle.block.proofs.fault_map.faults_count.Goals as goal

pub loop-j-preserved : goal.loop-j-preserved
unfolding some_fault
loop-j-preserved c =
    let p = some_fault c.args.side.now in
    let j = c.loop-j.j in
    let e = count_next p 24 j (omega arith) in
    let d : c.from-n.result ≡ digit (p j) = rw (c.from-n.ensures, c.sixteen_faults.ensures) refl in
    (omega (arith, d, digit_lt (p j)), omega (arith, d, e, c.loop-j.invariant.1))

pub returns : goal.returns
returns c =
    let e = count-done (some_fault c.args.side.now) 24 c.loop-j.j (omega arith) in
    omega (arith, e, c.loop-j.invariant.1)
