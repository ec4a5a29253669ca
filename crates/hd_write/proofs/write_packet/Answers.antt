-- `hd_write::write_packet` meets its contract, refusal by refusal. Assumes nothing.
use mathlib.Core.Path.{◌≡◌, refl, sym, ap, ◌∙◌}
use mathlib.Core.List.{List, ◌++◌}
use Prim.Native.Nat.{ℕ}
use native.Mathlib.Omega.{arith}
use borrow.Author.Tests.{eq-eqb, ne_eqb}
use lib.ListN.{length, replicate}
use Rattle.std.specs.Prelude.{Option, Some, None}
use Rattle.bits.specs.Pick.{first}
use Rattle.answer.specs.Demand.{◌&◌}
use Rattle.answer.specs.Demand.Stops.{fails, later}
use Rattle.anc.proofs.Searched.{first-below, first-stops, first-clear}
use Rattle.answer.proofs.Residues.{shows-refusal, shows-acceptance}
use Rattle.codes.specs.Inner.{with_checks}
use Rattle.codes.proofs.RepairedLanes.{checked}
use Rattle.hd_packet.specs.Packet.{data_octets, odd_body}
use Rattle.hd_packet.specs.Inner.{packet_laid}
use Rattle.hd_packet.proofs.Laid.{length-data}
use Rattle.hd_packet.proofs.PacketLaws.{laid}
use Rattle.hd_write.specs.Write.{low_body, write_answer}
use Rattle.hd_write.specs.Inner.{first_odd, first_low}
use Rattle.hd_write.proofs.WriteLaws.{ranges, written_octets, length-written, packet-of-octets, packet-size}
use Rattle.hd_write.proofs.write_packet.Goals as goal
use Rattle.hd_write.proofs.write_packet.Goals.{In-Some}

pub returns-in_default : goal.returns-in_default
unfolding write_answer
returns-in_default c =
    let both = shows-refusal _ _ _ _ (fails (ne_eqb _ 4 c.in_default.ensures.cases)) in
    record { result_value = both.0; words_after = both.1 }

-- there are four bodies
module _ (t : In-Some) where
  abbrev bodies : List ℕ
  bodies = t.args.bodies.now

  four : length bodies ≡ 4
  four = t.in-Some.ensures.cases.long

  same : t.in-Some.bodies.now ≡ bodies
  same = t.in-Some.ensures.cases.same

  odd-at : (o : Option ℕ) → o ≡ first_odd t.in-Some.bodies.now → o ≡ first (odd_body bodies) 0 (length bodies) Some None
  unfolding first_odd
  odd-at o e = e ∙ ap (λ (bs : List ℕ). first (odd_body bs) 0 (length bs) Some None) same

  low-at : (o : Option ℕ) → o ≡ first_low t.in-Some.bodies.now → o ≡ first (low_body bodies) 0 (length bodies) Some None
  unfolding first_low
  low-at o e = e ∙ ap (λ (bs : List ℕ). first (low_body bs) 0 (length bs) Some None) same

pub returns-then-words-ne31 : goal.returns-then-words-ne31
unfolding write_answer
returns-then-words-ne31 c =
    let t = (goal.at.returns-then-words-ne31 c).In-Some in
    let both = shows-refusal _ _ _ _ (later (eq-eqb _ 4 (four t)) (fails (ne_eqb _ 31 c.if-words-ne31.true))) in
    record { result_value = both.0; words_after = both.1 }

pub returns-then-not-in_ranges : goal.returns-then-not-in_ranges
unfolding write_answer
returns-then-not-in_ranges c =
    let t = (goal.at.returns-then-not-in_ranges c).In-Some in
    let both = shows-refusal _ _ _ _
    (later (eq-eqb _ 4 (four t)) (later (eq-eqb _ 31 c.if-words-ne31.false) (fails (sym c.if-not-in_ranges.ensures)))) in
    record { result_value = both.0; words_after = both.1 }

pub overflow_cast-result : goal.overflow_cast-result
overflow_cast-result c =
    let t = (goal.at.overflow_cast-result c).In-Some in
    omega (arith, first-below (odd_body (bodies t)) (length (bodies t)) (odd-at t _ c.in-Some-first_odd.ensures), four t)

pub returns-in-Some-first_odd : goal.returns-in-Some-first_odd
unfolding write_answer
returns-in-Some-first_odd c =
    let t = (goal.at.returns-in-Some-first_odd c).In-Some in
    let bs = bodies t in
    let both = shows-refusal _ _ _ _
    (later (eq-eqb _ 4 (four t)) (later (eq-eqb _ 31 c.if-words-ne31.false) (later (sym c.if-not-in_ranges.ensures)
    (first-stops (odd_body bs) (length bs) (odd-at t _ c.in-Some-first_odd.ensures))))) in
    record { result_value = both.0; words_after = both.1 }

pub overflow_cast-result-in-Some-first_low : goal.overflow_cast-result-in-Some-first_low
overflow_cast-result-in-Some-first_low c =
    let t = (goal.at.overflow_cast-result-in-Some-first_low c).In-Some in
    omega (arith, first-below (low_body (bodies t)) (length (bodies t)) (low-at t _ c.in-Some-first_low.ensures), four t)

pub returns-in-Some-first_low : goal.returns-in-Some-first_low
unfolding write_answer
returns-in-Some-first_low c =
    let t = (goal.at.returns-in-Some-first_low c).In-Some in
    let bs = bodies t in
    let both = shows-refusal _ _ _ _
    (later (eq-eqb _ 4 (four t)) (later (eq-eqb _ 31 c.if-words-ne31.false) (later (sym c.if-not-in_ranges.ensures)
    (later (first-clear (odd_body bs) (length bs) (odd-at t _ c.in_default-first_odd.ensures))
    (first-stops (low_body bs) (length bs) (low-at t _ c.in-Some-first_low.ensures)))))) in
    record { result_value = both.0; words_after = both.1 }

pub lay_data-octets-requires : goal.lay_data-octets-requires
lay_data-octets-requires c = ranges c.args.f (sym c.if-not-in_ranges.ensures)

pub returns : goal.returns
unfolding write_answer
returns c =
    let t = (goal.at.returns c).In-Some in
    let a = c.args in
    let bs = bodies t in
    let both = shows-acceptance _ _ _ _ _
    (eq-eqb _ 4 (four t) & eq-eqb _ 31 c.if-words-ne31.false & sym c.if-not-in_ranges.ensures
    & first-clear (odd_body bs) (length bs) (odd-at t _ c.in_default-first_odd.ensures)
    & first-clear (low_body bs) (length bs) (low-at t _ c.in_default-first_low.ensures) & tt)
    (packet-size a.f bs ∙ sym c.if-words-ne31.false)
    (c.lay_packet.ensures
    ∙ ap (λ (os : List ℕ). packet_laid os a.words.now)
    (c.fill_checks.ensures
    ∙ ap with_checks (c.lay_data-octets.ensures ∙ ap (λ (bs : List ℕ). data_octets a.f bs ++ replicate 6 0) (same t))
    ∙ checked (data_octets a.f bs) (replicate 6 0) (length-data a.f bs) refl)
    ∙ laid (written_octets a.f bs) a.words.now (length-written a.f bs) c.if-words-ne31.false ∙ sym (packet-of-octets a.f bs)) in
    record { result_value = both.0; words_after = both.1 }
