-- `aes3_read::read_block` meets its contract: each return says which demand stops, or what the subframes gave. Assumes
-- nothing.
use mathlib.Core.Path.{◌≡◌, ap}
use mathlib.Core.List.{List}
use Prim.Native.Nat.{ℕ}
use borrow.Author.Rules.{rules}
use borrow.Author.Tests.{eq-eqb, ne_eqb}
use lib.IntN.{ℤ}
use lib.ListN.{length}
use Rattle.std.proofs.lemmas.Result.{MatchResult-at_ok, MatchResult-at_err, err_from_is_err_and}
use Rattle.bits.specs.Row.{digit}
use Rattle.answer.specs.Said.{number_of, place_of, said}
use Rattle.std.specs.Prelude.{Err}
use Rattle.std.specs.Array.{IsWholeChunk}
use Rattle.block.proofs.BlockLaws.{filling}
use Rattle.answer.specs.Answer.{Answer.accepted, Answer.refused}
use Rattle.answer.specs.Demand.Stops.{fails, later}
use Rattle.block.specs.Side.{side_length}
use Rattle.aes3_line.specs.Line.{bodies_on}
use Rattle.aes3_read.proofs.BlockReading.{shows-stop, shows-refused, shows-read}
use Rattle.aes3_read.proofs.read_block.Goals as goal
use Rattle.aes3_read.proofs.read_block.Goals.{In-Ok, Else-side-ne-SIDE}

-- the line is as long as it should be, and its octets lent as an array are its octets
module _ (c : In-Ok) where
  octets : IsWholeChunk c.args.line.now c.in-Ok.line.now 3072
  octets = MatchResult-at_ok _ _ _ c.in-Ok.is c.try_from.ensures.1

  whole : c.in-Ok.line.now ≡ c.args.line.now
  whole = octets.same

  nl : length c.args.line.now ≡ 3072
  nl = octets.long

-- the lengths are right
module _ (c : Else-side-ne-SIDE) where
  abbrev line : List ℕ
  line = c.args.line.now

  abbrev samples : List ℤ
  samples = c.args.samples.now

  abbrev side : List ℕ
  side = c.args.side.now

  ns : length samples ≡ 384
  ns = c.if-samples-ne384.false

  nt : length side ≡ side_length
  nt = c.if-side-ne-SIDE.false

pub returns-in_default : goal.returns-in_default
returns-in_default c =
    let ne = MatchResult-at_err _ _ _ c.in_default.is c.try_from.ensures.1 in
    let both = shows-stop _ _ _ (fails (ne_eqb _ 3072 ne)) in
    record { result_value = both.0; samples_after = both.1.0; side_after = both.1.1 }

pub returns-then-samples-ne384 : goal.returns-then-samples-ne384
returns-then-samples-ne384 c =
    let p = (goal.at.returns-then-samples-ne384 c).In-Ok in
    let both = shows-stop _ _ _ (later (eq-eqb _ 3072 (nl p)) (fails (ne_eqb _ 384 c.if-samples-ne384.true))) in
    record { result_value = both.0; samples_after = both.1.0; side_after = both.1.1 }

pub returns-then-side-ne-SIDE : goal.returns-then-side-ne-SIDE
returns-then-side-ne-SIDE c =
    let p = (goal.at.returns-then-side-ne-SIDE c).In-Ok in
    let both = shows-stop _ _ _
    (later (eq-eqb _ 3072 (nl p)) (later (eq-eqb _ 384 c.if-samples-ne384.false) (fails (ne_eqb _ side_length c.if-side-ne-SIDE.true)))) in
    record { result_value = both.0; samples_after = both.1.0; side_after = both.1.1 }

pub returns-in_err-decode : goal.returns-in_err-decode
returns-in_err-decode c =
    let t = (goal.at.returns-in_err-decode c).Else-side-ne-SIDE in
    let p = (goal.at.returns-in_err-decode c).In-Ok in
    let r = c.in_err-decode.field-0.0 in
    let same = err_from_is_err_and c.from_residual.result c.from_residual.ensures.1 in
    let e : refused (number_of r) (place_of r) ≡ bodies_on (line t) = rw (c.in_err-decode.was, whole p) at c.decode.ensures in
    let both = shows-refused (line t) (samples t) (side t) (nl p) (ns t) (nt t) (number_of r) (place_of r) e in
    record { result_value = rw (same.1, same.2) both.0; samples_after = both.1.0; side_after = both.1.1 }

-- the buffers have the lengths that filling asks
pub returns-in_err-fill_block : goal.returns-in_err-fill_block
returns-in_err-fill_block c =
    let t = (goal.at.returns-in_err-fill_block c).Else-side-ne-SIDE in
    let n : length c.decode.new.bodies ≡ 384 = search rules in
    let f = filling c.decode.new.bodies (samples t) (side t) n (ns t) (nt t) in
    let r = c.in_err-fill_block.field-0.0 in
    let e : said (Err r) ≡ accepted tt = rw (c.in_err-fill_block.was, f.0) at c.fill_block.ensures.result_value in
    absurd (cc)

pub returns : goal.returns
returns c =
    let t = (goal.at.returns c).Else-side-ne-SIDE in
    let p = (goal.at.returns c).In-Ok in
    let bodies = c.decode.new.bodies in
    let n : length bodies ≡ 384 = search rules in
    let e : accepted bodies ≡ bodies_on (line t) = rw (c.in_ok-decode.was, whole p) at c.decode.ensures in
    let f = c.fill_block in
    let both = shows-read (line t) (samples t) (side t) (nl p) (ns t) (nt t) bodies f.new.samples f.new.side (digit c.status_right.result)
    (digit c.status_right-2.result) n e f.ensures.samples_after f.ensures.side_after (ap digit c.status_right.ensures) (ap digit c.status_right-2.ensures) in
    record { result_value = both.0; samples_after = both.1.0; side_after = both.1.1 }
