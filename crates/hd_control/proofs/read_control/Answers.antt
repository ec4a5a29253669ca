-- `hd_control::read_control` meets its contract, refusal by refusal. Assumes nothing.
use Rattle.std.proofs.Common.{rules}
use Rattle.hd_control.proofs.Reading.{other-length, wide-refused, head-no, group-is, rules-refused, sum-refused, states-refused, all-read}
use Rattle.hd_control.proofs.read_control.Goals as goal

pub returns-in_default : goal.returns-in_default
returns-in_default c = other-length c.args.words.now c.in_default.ensures.cases

pub returns-in_err-check_narrow : goal.returns-in_err-check_narrow
returns-in_err-check_narrow c = search (rules, wide-refused c.args.words.now c.in-Some.words.now c.in-Some.ensures.cases.same c.in-Some.ensures.cases.long)

pub returns-in_err-group : goal.returns-in_err-group
returns-in_err-group c = search (rules, head-no c.args.words.now c.in-Some.words.now c.in-Some.ensures.cases.same c.in-Some.ensures.cases.long c.in_ok-check_narrow.ensures)

pub take-requires : goal.take-requires
take-requires c = group-is c.args.words.now c.in-Some.words.now c.in-Some.ensures.cases.same c.in-Some.ensures.cases.long c.in_ok-check_narrow.ensures c.in_ok-group.ensures

pub returns-in_err-check_rules : goal.returns-in_err-check_rules
returns-in_err-check_rules c = search (rules, rules-refused c.args.words.now c.in-Some.words.now c.in-Some.ensures.cases.same c.in-Some.ensures.cases.long c.in_ok-check_narrow.ensures c.in_ok-group.ensures)

pub returns-in_err-check_sum : goal.returns-in_err-check_sum
returns-in_err-check_sum c = search (rules, sum-refused c.args.words.now c.in-Some.words.now c.in-Some.ensures.cases.same c.in-Some.ensures.cases.long c.in_ok-check_narrow.ensures c.in_ok-group.ensures c.in_ok-check_rules.ensures)

pub returns-in_err-check_states : goal.returns-in_err-check_states
returns-in_err-check_states c = search (rules, states-refused c.args.words.now c.in-Some.words.now c.in-Some.ensures.cases.same c.in-Some.ensures.cases.long c.in_ok-check_narrow.ensures c.in_ok-group.ensures c.in_ok-check_rules.ensures c.in_ok-check_sum.ensures)

pub returns : goal.returns
returns c = search (rules, all-read c.args.words.now c.in-Some.words.now c.in-Some.ensures.cases.same c.in-Some.ensures.cases.long c.in_ok-check_narrow.ensures c.in_ok-group.ensures c.in_ok-check_rules.ensures c.in_ok-check_sum.ensures c.in_ok-check_states.ensures)
