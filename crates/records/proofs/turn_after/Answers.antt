-- `records::turn_after` meets its contract. Assumes nothing.
use mathlib.Core.Path.{sym}
use Rattle.records.proofs.HeadLaws.{turn-empty, turn-full, turn-header, turn-long, turn-cut, turn-record}
use Rattle.records.proofs.turn_after.Goals as goal

pub returns-then-head-eq0 : goal.returns-then-head-eq0
returns-then-head-eq0 c =
    let s = c.args in
    sym (turn-empty s.n s.head.now s.had c.if-head-eq0.true)

pub returns-then-n-eq18446744073709551615 : goal.returns-then-n-eq18446744073709551615
returns-then-n-eq18446744073709551615 c =
    let s = c.args in
    sym (turn-full s.n s.head.now s.had c.if-head-eq0.false c.if-n-eq18446744073709551615.true)

pub returns-then-head-lt4 : goal.returns-then-head-lt4
returns-then-head-lt4 c =
    let s = c.args in
    sym (turn-header s.n s.head.now s.had c.if-head-eq0.false c.if-n-eq18446744073709551615.false c.if-head-lt4.true)

pub returns-then-size-gt8192 : goal.returns-then-size-gt8192
returns-then-size-gt8192 c =
    let s = c.args in
    sym (turn-long s.n s.head.now s.had c.if-head-eq0.false c.if-n-eq18446744073709551615.false c.if-head-lt4.false c.size_of-size.ensures c.if-size-gt8192.true)

pub returns-then-had-size : goal.returns-then-had-size
returns-then-had-size c =
    let s = c.args in
    sym (turn-cut s.n s.head.now s.had c.if-head-eq0.false c.if-n-eq18446744073709551615.false c.if-head-lt4.false c.size_of-size.ensures c.if-size-gt8192.false c.if-had-size.true)

pub returns : goal.returns
returns c =
    let s = c.args in
    sym (turn-record s.n s.head.now s.had c.if-head-eq0.false c.if-n-eq18446744073709551615.false c.if-head-lt4.false c.size_of-size.ensures c.if-size-gt8192.false c.if-had-size.false)
