-- `aes3_read::decode` meets its contract. The loop's invariant: the bodies found, in front of what reading the rest
-- gives, are what reading the whole gives; the level is the last symbol of what was read. Assumes nothing.
use mathlib.Core.Path.{◌≡◌, sym, ap, ◌∙◌}
use mathlib.Core.List.{List}
use Prim.Native.Nat.{ℕ, ◌+◌, ◌*◌, ◌-◌, ◌/◌, ◌<◌}
use native.Mathlib.Omega.{arith}
use lib.ListN.{length, take, drop, length-set}
use Rattle.bits.specs.Row.{odd, big}
use Rattle.bits.specs.Pack.{symbols}
use Rattle.std.specs.Prelude.{Err}
use Rattle.std.proofs.lemmas.Result.{MatchResult-at_err}
use Rattle.answer.specs.Said.{number_of, place_of, said}
use Rattle.line.proofs.Words.{word-whole}
use Rattle.aes3_line.specs.Subframe.{subframe_read}
use Rattle.aes3_line.specs.Line.{level_before}
use Rattle.aes3_line.proofs.Turns.{level-start, read-start, length-lent, lent-symbols, read-turn, read-stop, read_done}
use Rattle.aes3_read.proofs.decode.Goals as goal
use Rattle.aes3_read.proofs.decode.Goals.{After-read_subframe-answer}

pub overflow_sub-start : goal.overflow_sub-start
overflow_sub-start c = omega (arith, c.fits-line 0)

pub loop-i-init : goal.loop-i-init
loop-i-init c =
    let line = c.args.line.now in
    let level : odd (1 - c.from.result / 128) ≡ level_before line = rw c.from.ensures (level-start line (omega arith) (c.fits-line 0)) in
    (c.told-bodies, read-start line _ level)

-- what was read of the eight octets lent
module _ (c : After-read_subframe-answer) where
  abbrev line : List ℕ
  line = c.args.line.now

  abbrev i : ℕ
  i = c.loop-i.i

  abbrev part : List ℕ
  part = take (i * 8 + 8 - i * 8) (drop (i * 8) line)

  word-is : i < 384 → length line ≡ 3072 → c.word-w.result ≡ big (symbols part)
  word-is h n = c.word-w.ensures ∙ word-whole part (length-lent line i c.loop-i.before h n)

  read_is : i < 384 → length line ≡ 3072 → said c.read_subframe-answer.result ≡ subframe_read i (odd c.loop-i.before) (symbols part)
  read_is h n =
      c.read_subframe-answer.ensures
      ∙ ap (subframe_read i (odd c.loop-i.before)) (lent-symbols line i c.loop-i.before h n c.word-w.result (word-is h n))

pub returns-in_default : goal.returns-in_default
returns-in_default c =
    let read = (goal.at.returns-in_default c).After-read_subframe-answer in
    let loop = read.loop-i in
    let r = c.in_default.field-0 in
    let same : c.map.result ≡ Err r = MatchResult-at_err _ _ r c.in_default.is c.map.ensures.cases in
    rw same (read-stop (line read) (i read) loop.before (omega arith) (omega arith) loop.bodies (number_of r) (place_of r) _
    (sym (read_is read (omega arith) (omega arith)) ∙ ap said c.in_default.is) loop.invariant.1)

pub loop-i-preserved : goal.loop-i-preserved
loop-i-preserved c =
    let read = (goal.at.loop-i-preserved c).After-read_subframe-answer in
    let loop = read.loop-i in (
      simp length-set loop.invariant.0,
      read-turn (line read) (i read) loop.before (omega arith) (omega arith) read.word-w.result (word-is read (omega arith) (omega arith))
          loop.bodies _ _ (omega arith) (sym (read_is read (omega arith) (omega arith)) ∙ ap said c.in-Ok.is) loop.invariant.1,
    )

pub returns : goal.returns
returns c =
    let loop = c.loop-i in
    read_done c.args.line.now loop.bodies loop.i loop.before _ (omega arith) loop.invariant.0 loop.invariant.1
