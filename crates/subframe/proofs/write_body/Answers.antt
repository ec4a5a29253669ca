-- `subframe::write_body` meets its contract, test by test. Assumes nothing.
use mathlib.Core.Path.{◌≡◌, sym, ◌∙◌}
use native.Mathlib.Omega.{arith}
use borrow.Author.Tests.{lt-ltb, le-ltb}
use mir.Syntax.{w32}
use mir.Val.{to_z, of_z}
use mir.Facts.{to_z-of_z}
use Rattle.answer.specs.Answer.{Answer.accepted}
use Rattle.answer.specs.Demand.{◌&◌}
use Rattle.answer.specs.Demand.Stops.{fails, later}
use Rattle.answer.proofs.Chains.{passing, stopped}
use Rattle.subframe.specs.Signed.{in_range, code_of}
use Rattle.subframe.specs.Body.{body_of, body_demands, body_written}
use Rattle.subframe.proofs.SignedLaws.{code_lt}
use Rattle.subframe.proofs.write_body.Goals as goal
use Rattle.subframe.proofs.write_body.Goals.{After-in_range, Start}

-- what the machine reads back of the sample's bits, and what `in_range` says of it
module _ (c : After-in_range) where
  abbrev start : Start
  start = c.before.before.before.before

  back : to_z w32 (of_z w32 start.args.sample) ≡ start.args.sample
  back = to_z-of_z start.ranges.sample

  tells : c.in_range.result ≡ in_range 24 start.args.sample
  tells = rw back at c.in_range.ensures

pub returns-then-v-ge2 : goal.returns-then-v-ge2
unfolding body_written
returns-then-v-ge2 c = sym (stopped _ (fails (le-ltb c.args.v 2 c.if-v-ge2.true)))

pub returns-then-u-ge2 : goal.returns-then-u-ge2
unfolding body_written
returns-then-u-ge2 c =
    let a = c.args in
    sym (stopped _ (later (lt-ltb a.v 2 c.if-v-ge2.false) (fails (le-ltb a.u 2 c.if-u-ge2.true))))

pub returns-then-c-ge2 : goal.returns-then-c-ge2
unfolding body_written
returns-then-c-ge2 c =
    let a = c.args in
    sym (stopped _ (later (lt-ltb a.v 2 c.if-v-ge2.false)
    (later (lt-ltb a.u 2 c.if-u-ge2.false) (fails (le-ltb a.c 2 c.if-c-ge2.true)))))

pub code-requires : goal.code-requires
code-requires c = rw (back (goal.at.code-requires c).After-in_range) (sym (tells (goal.at.code-requires c).After-in_range) ∙ c.if-in_range.true)

pub body-requires : goal.body-requires
body-requires c =
    let p = (goal.at.body-requires c).After-in_range in
    let z = (start p).args.sample in (
      omega (arith, rw (back p) at c.code.ensures, code_lt 24 (omega arith) z (sym (tells p) ∙ c.if-in_range.true)),
      p.if-v-ge2.false,
      p.if-u-ge2.false,
      p.if-c-ge2.false,
    )

pub returns-then-in_range : goal.returns-then-in_range
unfolding body_written
returns-then-in_range c =
    let p = (goal.at.returns-then-in_range c).After-in_range in
    let a = (start p).args in
    let met =
    lt-ltb a.v 2 p.if-v-ge2.false & lt-ltb a.u 2 p.if-u-ge2.false
    & lt-ltb a.c 2 p.if-c-ge2.false & (sym (tells p) ∙ c.if-in_range.true) & tt in
    rw (passing (accepted (body_of (code_of 24 a.sample) a.v a.u a.c)) (body_demands a.sample a.v a.u a.c) met)
    (cc (c.body.ensures, rw (back p) at c.code.ensures))

pub returns-else-in_range : goal.returns-else-in_range
unfolding body_written
returns-else-in_range c =
    let p = (goal.at.returns-else-in_range c).After-in_range in
    let a = (start p).args in
    sym (stopped _ (later (lt-ltb a.v 2 p.if-v-ge2.false)
    (later (lt-ltb a.u 2 p.if-u-ge2.false)
    (later (lt-ltb a.c 2 p.if-c-ge2.false) (fails (sym (tells p) ∙ c.if-in_range.false))))))
