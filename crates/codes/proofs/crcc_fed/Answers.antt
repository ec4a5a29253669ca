-- `codes::crcc_fed` meets its contract, by the two tests and by what `feed` ensures.
-- Assumes nothing.
use mathlib.Core.Path.{◌≡◌, sym}
use Prim.Native.Nat.{◌%◌}
use native.Mathlib.Omega.{arith}
use borrow.Author.Tests.{lt-leb, le-leb}
use Rattle.std.proofs.lemmas.Result.{err_from_is_err_and}
use Rattle.answer.specs.Demand.{◌&◌}
use Rattle.answer.specs.Demand.Stops.{fails, later}
use Rattle.answer.proofs.Chains.{passing, stopped}
use Rattle.codes.specs.Crcc.{stages_fed}
use Rattle.codes.proofs.crcc_fed.Goals as goal

pub returns-in_err-held : goal.returns-in_err-held
unfolding stages_fed
returns-in_err-held c =
    let p = err_from_is_err_and c.from_residual.result c.from_residual.ensures.1 in
    let q = c.in_err-held.ensures in
    rw (p.1, p.2, q.0) (sym (stopped _ (fails (lt-leb _ 255 q.1))))

pub returns-then-bit-gt1 : goal.returns-then-bit-gt1
unfolding stages_fed
returns-then-bit-gt1 c = sym (stopped _ (later (le-leb _ 255 c.in_ok-held.ensures.1) (fails (lt-leb _ 1 c.if-bit-gt1.true))))

pub returns : goal.returns
unfolding stages_fed
returns c =
    let b = c.args.bit in
    let digit : b % 2 ≡ b = omega (arith, c.if-bit-gt1.false) in
    simp (c.from.ensures, c.feed-crcc.ensures, c.in_ok-held.ensures.0, digit)
    (sym (passing _ _ (le-leb _ 255 c.in_ok-held.ensures.1 & le-leb _ 1 c.if-bit-gt1.false & tt)))
