-- `records::body_size` meets its contract. Assumes nothing.
use mathlib.Core.Path.{sym}
use Rattle.records.proofs.HeadLaws.{read-cut, read-long, read_all}
use Rattle.records.proofs.body_size.Goals as goal

pub returns-then-head-lt4 : goal.returns-then-head-lt4
returns-then-head-lt4 c = sym (read-cut c.args.head.now c.if-head-lt4.true)

pub returns-then-size-le8192 : goal.returns-then-size-le8192
returns-then-size-le8192 c =
    sym (read_all c.args.head.now c.if-head-lt4.false c.size_of-size.ensures c.if-size-le8192.true)

pub returns : goal.returns
returns c =
    sym (read-long c.args.head.now c.if-head-lt4.false c.size_of-size.ensures c.if-size-le8192.false)
