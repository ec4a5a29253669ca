-- `subframe::body` meets its contract. Assumes nothing.
use Prim.Native.Nat.{◌<◌}
use native.Mathlib.Omega.{arith}
use Rattle.subframe.specs.Body.{data_of, with_p, body_of}
use Rattle.subframe.proofs.BodyLaws.{parity-lt}
use Rattle.subframe.proofs.body.Goals as goal

pub overflow_mul-result : goal.overflow_mul-result
overflow_mul-result c =
    let h : c.parity.result < 2 = rw c.parity.ensures (parity-lt _) in
    omega arith

pub overflow_add-result : goal.overflow_add-result
overflow_add-result c =
    let h : c.parity.result < 2 = rw c.parity.ensures (parity-lt _) in
    omega arith

pub returns : goal.returns
unfolding body_of with_p data_of
returns c = rw c.parity.ensures
