-- `records::by_kind` meets its contract. Assumes nothing.
use borrow.Author.Tests.{ne_eqb}
use Rattle.records.specs.Record.{by_kind}
use Rattle.records.proofs.by_kind.Goals as goal

pub returns-in-1 : goal.returns-in-1
unfolding by_kind
returns-in-1 c = rw c.in-1.is c.block.ensures

pub returns-in-2 : goal.returns-in-2
unfolding by_kind
returns-in-2 c = rw c.in-2.is c.packet.ensures

pub returns-in-3 : goal.returns-in-3
unfolding by_kind
returns-in-3 c = rw c.in-3.is c.frame.ensures

pub returns-in-4 : goal.returns-in-4
unfolding by_kind
returns-in-4 c = rw c.in-4.is c.control.ensures

pub returns-in_default : goal.returns-in_default
unfolding by_kind
returns-in_default c =
    simp (
      ne_eqb _ _ c.in_default.in_default-own.rest.0.0.0.1,
      ne_eqb _ _ c.in_default.in_default-own.rest.0.0.1,
      ne_eqb _ _ c.in_default.in_default-own.rest.0.1,
      ne_eqb _ _ c.in_default.in_default-own.rest.1,
    )
