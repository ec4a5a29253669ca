-- `hd_read::read_words` meets its contract, refusal by refusal. Assumes nothing.
use mathlib.Core.Path.{sym, ap, ◌∙◌}
use mathlib.Core.List.{[], ◌∷◌}
use Prim.Native.Nat.{ℕ}
use native.Mathlib.Omega.{arith}
use lib.ListN.{length}
use Rattle.std.proofs.lemmas.Result.{err_from_is_err_and}
use Rattle.answer.specs.Demand.{Demand.asks, Demand.finds_none, Met, AllMet, ◌&◌}
use Rattle.answer.specs.Demand.Stops.{fails, later}
use Rattle.answer.proofs.Chains.{extended, past, both-met}
use Rattle.anc.specs.Word.{parities, wide_at, wrong_at}
use Rattle.anc.specs.Head.{head_demands}
use Rattle.anc.specs.Enclosed.{sum_stands}
use Rattle.anc.proofs.Heads.{head_read, head-refused}
use Rattle.anc.proofs.Enclosing.{sum-stands, sum-fails}
use Rattle.anc.proofs.Searched.{wide-found, wide-below, none-wide, stretch-found, stretch-below, stretch-right}
use Rattle.hd_packet.specs.Packet.{octets_of, dids, dc, packet_head}
use Rattle.hd_read.specs.Inner.{octets_read}
use Rattle.hd_read.proofs.ReadLaws.{right-words, words-stop}
use Rattle.hd_read.proofs.read_words.Goals as goal
use Rattle.hd_read.proofs.read_words.Goals.{In_default-first_wide, In_ok-group, In_default-first_wrong}

narrow : (c : In_default-first_wide) → let w = c.args.words.now in Met (finds_none 14 (wide_at w) 0 (length w))
narrow c = none-wide c.args.words.now c.in_default-first_wide.ensures

headed : (c : In_ok-group) → let w = c.args.words.now in AllMet (head_demands (packet_head w) w)
headed c = (head_read dids dc c.args.words.now (omega arith) c.in_ok-group.ensures).0

worded : (c : In_default-first_wrong) → Met (finds_none 14 (wrong_at parities c.args.words.now) 3 27)
worded c = stretch-right c.args.words.now 3 27 (omega arith) c.in_default-first_wrong.ensures

pub returns-in-Some : goal.returns-in-Some
returns-in-Some c =
    let w = c.args.words.now in
    c.read_right.ensures ∙ ap (λ (g : ℕ). octets_read g (octets_of w)) c.in-Some.ensures.1 ∙ sym (right-words w c.in-Some.ensures.0)

pub overflow_cast-result : goal.overflow_cast-result
overflow_cast-result c = omega (arith, wide-below c.args.words.now c.in-Some-first_wide.ensures)

pub returns-in-Some-first_wide : goal.returns-in-Some-first_wide
returns-in-Some-first_wide c =
    let w = c.args.words.now in
    words-stop w (wide-found w c.in-Some-first_wide.ensures)

pub returns-in_err-group : goal.returns-in_err-group
returns-in_err-group c =
    let w = c.args.words.now in
    let p = err_from_is_err_and c.from_residual.result c.from_residual.ensures.1 in
    rw (p.1, p.2)
    (words-stop w (later (narrow (goal.at.returns-in_err-group c).In_default-first_wide)
    (extended (head-refused dids dc w (omega arith) c.in_err-group.ensures) _)))

pub overflow_cast-result-in-Some-first_wrong : goal.overflow_cast-result-in-Some-first_wrong
overflow_cast-result-in-Some-first_wrong c = omega (arith, stretch-below c.args.words.now 3 27 (omega arith) c.in-Some-first_wrong.ensures)

pub overflow_add-result : goal.overflow_add-result
overflow_add-result c = omega (arith, stretch-below c.args.words.now 3 27 (omega arith) c.in-Some-first_wrong.ensures)

pub returns-in-Some-first_wrong : goal.returns-in-Some-first_wrong
returns-in-Some-first_wrong c =
    let w = c.args.words.now in
    words-stop w
    (later (narrow (goal.at.returns-in-Some-first_wrong c).In_default-first_wide)
    (past (head_demands (packet_head w) w) (headed (goal.at.returns-in-Some-first_wrong c).In_ok-group)
    (stretch-found w 3 27 (omega arith) c.in-Some-first_wrong.ensures)))

pub returns-then-words-sum : goal.returns-then-words-sum
returns-then-words-sum c =
    let w = c.args.words.now in
    words-stop w
    (later (narrow (goal.at.returns-then-words-sum c).In_default-first_wide)
    (past (head_demands (packet_head w) w) (headed (goal.at.returns-then-words-sum c).In_ok-group)
    (later (worded (goal.at.returns-then-words-sum c).In_default-first_wrong)
    (fails (sum-fails 27 w (λ q. c.if-words-sum.true (q ∙ sym c.check_word-sum.ensures)))))))

pub returns : goal.returns
returns c =
    let w = c.args.words.now in
    let r = head_read dids dc w (omega arith) c.in_ok-group.ensures in
    c.read_right-2.ensures ∙ ap (λ (g : ℕ). octets_read g (octets_of w)) (sym r.1)
    ∙ sym (right-words w
    (narrow (goal.at.returns c).In_default-first_wide
    & both-met (head_demands (packet_head w) w) (finds_none 14 (wrong_at parities w) 3 27 ∷ asks 16 30 (sum_stands 27 w) ∷ []) r.0
    (worded (goal.at.returns c).In_default-first_wrong & sum-stands 27 w (c.if-words-sum.false ∙ c.check_word-sum.ensures) & tt)))
