-- `codes::lane_repair` meets its contract: what is wrong with the check bits is the lane's syndrome, and the table has the place
-- that makes it. Assumes nothing.
use mathlib.Core.Path.{◌≡◌, sym, ap, ◌∙◌}
use mathlib.Core.List.{List}
use Prim.Native.Nat.{ℕ, ◌/◌, ◌^◌, ◌<◌}
use native.Mathlib.Omega.{arith}
use borrow.Author.Tests.{eq-eqb, ne_eqb}
use lib.Dec.{eqb}
use lib.ListN.{length, get_or}
use lib.Bits.{bit_xor}
use Rattle.std.specs.Prelude.{Option, None}
use Rattle.std.proofs.lemmas.Result.{err_from_is_err_and}
use Rattle.answer.specs.declared.Refusal.TheVariants.{Lane}
use Rattle.bits.specs.Pick.{pick}
use Rattle.bits.specs.Listed.{listed}
use Rattle.bits.proofs.Windows.{one_shl}
use Rattle.codes.specs.Lane.{flip}
use Rattle.codes.proofs.Exits.{nothing_there, refused_so}
use Rattle.bits.proofs.Lists.{length-listed, get_or-listed}
use Rattle.answer.specs.Answer.{Answer.accepted}
use Rattle.codes.specs.Lane.{check_places, repaired}
use Rattle.codes.specs.Inner.{place_for, at_place, syndrome}
use Rattle.codes.proofs.Syndrome.{syndrome-lt}
use Rattle.codes.proofs.LaneLaws.{repaired-by-place, place_below, out_of_range}
use Rattle.codes.proofs.lane_repair.Goals as goal
use Rattle.codes.proofs.lane_repair.Goals.{After-lane_check, After-places-table}

-- what the code has after the first call: what is lacking, which is the lane's syndrome
module _ (c : After-lane_check) where
  abbrev lane : ℕ
  lane = c.args.lane

  abbrev lacks : ℕ
  lacks = bit_xor c.lane_check.result (lane / 2 ^ 24)

  lacks-syndrome : lacks ≡ syndrome lane
  unfolding syndrome check_places
  lacks-syndrome = ap (λ (x : ℕ). bit_xor x (lane / 2 ^ 24)) c.lane_check.ensures

  lacks-lt : lacks < 64
  lacks-lt = rw lacks-syndrome (syndrome-lt lane c.if-lane.false)

  by_place : repaired lane ≡ pick (eqb lacks 0) (accepted lane) (at_place lane (place_for lacks))
  by_place = rw lacks-syndrome (repaired-by-place lane c.if-lane.false)

  none-wrong : lacks ≡ 0 → accepted lane ≡ repaired lane
  none-wrong e = sym (by_place ∙ rw (eq-eqb lacks 0 e))

  some-wrong : (lacks ≡ 0 → ⊥) → repaired lane ≡ at_place lane (place_for lacks)
  some-wrong n = by_place ∙ rw (ne_eqb lacks 0 n)

-- and after the second: the table, whose entry is the place for it
module _ (c : After-places-table) where
  long : length c.places-table.result.now ≡ 64
  long = ap length c.places-table.ensures ∙ length-listed 0 64 place_for

pub returns-then-lane : goal.returns-then-lane
returns-then-lane c = sym (out_of_range c.args.lane c.if-lane.true)

pub returns-then-lacks-eq0 : goal.returns-then-lacks-eq0
returns-then-lacks-eq0 c = none-wrong (goal.at.returns-then-lacks-eq0 c).After-lane_check c.if-lacks-eq0.true

pub overflow_cast-lacks : goal.overflow_cast-lacks
overflow_cast-lacks c = omega (arith, lacks-lt (goal.at.overflow_cast-lacks c).After-lane_check)

pub bounds-table-lacks : goal.bounds-table-lacks
bounds-table-lacks c = omega (arith, long c, lacks-lt (goal.at.bounds-table-lacks c).After-lane_check)

-- the entry of a table that has the place for each is the place for it
module _ (at : After-lane_check) (t : List (Option ℕ)) (e : t ≡ listed 0 64 place_for) where
  abbrev entry : Option ℕ
  entry = get_or t (lacks at) None

  entry-place : entry ≡ place_for (lacks at)
  entry-place = ap (λ (u : List (Option ℕ)). get_or u (lacks at) None) e ∙ get_or-listed 64 place_for (lacks at) None (lacks-lt at)

  answered : (lacks at ≡ 0 → ⊥) → repaired (lane at) ≡ at_place (lane at) entry
  answered n = some-wrong at n ∙ ap (at_place (lane at)) (sym entry-place)

pub overflow_shl-result : goal.overflow_shl-result
overflow_shl-result c =
    let p = (goal.at.overflow_shl-result c).After-lane_check in
    let is = entry-place p c.places-table.result.now c.places-table.ensures in
    omega (arith, place_below (lacks p) c.in_ok-place.place (sym is ∙ c.in_ok-place.ensures.ok_part))

pub returns : goal.returns
unfolding flip
returns c =
    let p = (goal.at.returns c).After-lane_check in
    let is = entry-place p c.places-table.result.now c.places-table.ensures in
    let l : c.in_ok-place.place < 32 = omega (arith, place_below (lacks p) c.in_ok-place.place (sym is ∙ c.in_ok-place.ensures.ok_part)) in
    ap (λ (w : ℕ). accepted (bit_xor (lane p) w)) (one_shl 32 c.in_ok-place.place l)
    ∙ sym (answered p c.places-table.result.now c.places-table.ensures c.if-lacks-eq0.false
    ∙ ap (at_place (lane p)) c.in_ok-place.ensures.ok_part)

pub returns-in_err-place : goal.returns-in_err-place
returns-in_err-place c =
    let p = err_from_is_err_and c.from_residual.result c.from_residual.ensures.1 in
    let q = (goal.at.returns-in_err-place c).After-lane_check in
    let o = entry q c.places-table.result.now c.places-table.ensures in
    rw (p.1, p.2, refused_so o (Lane 0) _ c.in_err-place.ensures.value)
    (sym (answered q c.places-table.result.now c.places-table.ensures c.if-lacks-eq0.false
    ∙ ap (at_place (lane q)) (nothing_there o (Lane 0) _ c.in_err-place.ensures.value)))
