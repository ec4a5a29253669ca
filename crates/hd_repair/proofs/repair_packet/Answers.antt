-- `hd_repair::repair_packet` meets its contract, refusal by refusal. Assumes nothing.
use mathlib.Core.Path.{◌≡◌, refl, sym, ap, ◌∙◌}
use mathlib.Core.List.{List, ◌∷◌}
use Prim.Native.Nat.{ℕ}
use native.Mathlib.Omega.{arith}
use borrow.Author.Tests.{eq-eqb, ne_eqb}
use lib.Dec.{eqb}
use lib.ListN.{length}
use Rattle.answer.specs.Answer.{Answer.accepted}
use Rattle.answer.specs.Demand.{Demand, Demand.asks, Demand.finds_none, Met, ◌&◌, Stops}
use Rattle.answer.specs.Demand.Stops.{fails, later}
use Rattle.answer.proofs.Residues.{shows-refusal, shows-acceptance}
use Rattle.answer.specs.Said.{said}
use Rattle.anc.specs.Word.{wide_at}
use Rattle.std.proofs.lemmas.Result.{err_from_is_err_and}
use Rattle.anc.proofs.Searched.{wide-found, wide-below}
use Rattle.anc.proofs.Searched.{none-wide as no-wide}
use Rattle.codes.specs.Lanes.{hopeless_at, mended_octets, lanes_apart}
use Rattle.codes.specs.Inner.{mend_answer, octets_after}
use Rattle.codes.proofs.RepairedLanes.{mending-stops, mending-met}
use Rattle.hd_packet.specs.Packet.{octets_of}
use Rattle.hd_packet.specs.Inner.{packet_laid}
use Rattle.hd_packet.proofs.PacketLaws.{taken, laid}
use Rattle.hd_repair.specs.Repair.{repaired_octets, packet_repaired, repair_demands, repair_answer, lanes_changed, packet_out}
use Rattle.hd_repair.proofs.RepairLaws.{long, below, mended-octets, repaired-30, packet-of-octets, packet-size}
use Rattle.hd_repair.proofs.repair_packet.Goals as goal
use Rattle.hd_repair.proofs.repair_packet.Goals.{After-mend, then-words-ne31-via-then-words-ne31, then-words-ne31-via-else-words-ne31+then-repaired-ne31}

-- the lanes have answered
module _ (m : After-mend) where
  abbrev ws : List ℕ
  ws = m.args.words.now

  abbrev old : List ℕ
  old = m.args.repaired.now

  h : length ws ≡ 31
  h = m.if-words-ne31.false

  room : length old ≡ 31
  room = m.if-repaired-ne31.false

  none-wide : Met (finds_none 14 (wide_at ws) 0 (length ws))
  none-wide = no-wide ws m.in_default.ensures

  got : m.take_octets.new.octets ≡ octets_of ws
  got = m.take_octets.ensures ∙ taken ws _ (omega (arith, h)) refl

-- and all of them are mended: this many differ
module _ (m : After-mend) {n : ℕ} (said : accepted n ≡ said m.mend.result) where
  answered : accepted n ≡ mend_answer (octets_of (ws m))
  answered = said ∙ m.mend.ensures.result_value ∙ ap mend_answer (got m)

  lanes : Met (finds_none 15 (hopeless_at (octets_of (ws m))) 0 8)
      × (n ≡ lanes_apart 8 (mended_octets (octets_of (ws m))) (octets_of (ws m)))
      × (octets_after (octets_of (ws m)) ≡ mended_octets (octets_of (ws m)))
  lanes = mending-met (octets_of (ws m)) (long (ws m) (h m)) (below (ws m) (h m)) answered

  octets : m.mend.new.octets ≡ repaired_octets (ws m)
  octets = m.mend.ensures.octets_after ∙ ap octets_after (got m) ∙ lanes.2 ∙ sym (mended-octets (ws m) (h m))

  count : n ≡ lanes_apart 8 (repaired_octets (ws m)) (octets_of (ws m))
  count = lanes.1 ∙ ap (λ (os : List ℕ). lanes_apart 8 os (octets_of (ws m))) (sym (mended-octets (ws m) (h m)))

  -- what the ADF's demands say
  then-adf : {ds : List Demand} {number place : ℕ} → Stops ds number place
      → Stops (asks 1 0 (eqb (length (ws m)) 31) ∷ asks 1 0 (eqb (length (old m)) 31)
      ∷ finds_none 14 (wide_at (ws m)) 0 (length (ws m))
      ∷ finds_none 15 (hopeless_at (octets_of (ws m))) 0 8 ∷ ds) number place
  then-adf s = later (eq-eqb _ 31 (h m)) (later (eq-eqb _ 31 (room m)) (later (none-wide m) (later lanes.0 s)))

pub returns-then-words-ne31 : goal.returns-then-words-ne31
unfolding repair_answer
returns-then-words-ne31 c =
    elim c.then-words-ne31.branch [
      | then-words-ne31-via-then-words-ne31 w ↦
          let both = shows-refusal _ _ _ _ (fails (ne_eqb _ 31 w.if-words-ne31.true)) in
          record { result_value = both.0; repaired_after = both.1 }
      | then-words-ne31-via-else-words-ne31+then-repaired-ne31 w ↦
          let both = shows-refusal _ _ _ _ (later (eq-eqb _ 31 w.if-words-ne31.false) (fails (ne_eqb _ 31 w.if-repaired-ne31.true))) in
          record { result_value = both.0; repaired_after = both.1 }
    ]

pub overflow_cast-result : goal.overflow_cast-result
overflow_cast-result c = omega (arith, wide-below c.args.words.now c.in-Some.ensures)

pub returns-in-Some : goal.returns-in-Some
unfolding repair_answer
returns-in-Some c =
    let both = shows-refusal _ _ _ _
    (later (eq-eqb _ 31 c.if-words-ne31.false) (later (eq-eqb _ 31 c.if-repaired-ne31.false)
    (wide-found c.args.words.now c.in-Some.ensures))) in
    record { result_value = both.0; repaired_after = both.1 }

pub returns-then-octets-ne0 : goal.returns-then-octets-ne0
unfolding repair_answer
returns-then-octets-ne0 c =
    let m = (goal.at.returns-then-octets-ne0 c).After-mend in
    let said = ap said (sym c.in_ok-lanes.was) in
    let x = octets m said in
    let both = shows-refusal _ _ _ _ (then-adf m said (fails (ne_eqb _ 0 (rw x at c.if-octets-ne0.true)))) in
    record { result_value = both.0; repaired_after = both.1 }

pub returns-then-octets : goal.returns-then-octets
unfolding repair_answer
returns-then-octets c =
    let m = (goal.at.returns-then-octets c).After-mend in
    let said = ap said (sym c.in_ok-lanes.was) in
    let x = octets m said in
    let both = shows-refusal _ _ _ _
    (then-adf m said (later (eq-eqb _ 0 (rw x at c.if-octets-ne0.false)) (fails (ne_eqb _ 255 (rw x at c.if-octets.true))))) in
    record { result_value = both.0; repaired_after = both.1 }

pub returns-then-octets-2 : goal.returns-then-octets-2
unfolding repair_answer
returns-then-octets-2 c =
    let m = (goal.at.returns-then-octets-2 c).After-mend in
    let said = ap said (sym c.in_ok-lanes.was) in
    let x = octets m said in
    let both = shows-refusal _ _ _ _
    (then-adf m said (later (eq-eqb _ 0 (rw x at c.if-octets-ne0.false)) (later (eq-eqb _ 255 (rw x at c.if-octets.false))
    (fails (ne_eqb _ 255 (rw x at c.if-octets-2.true)))))) in
    record { result_value = both.0; repaired_after = both.1 }

pub returns-in_err-lanes : goal.returns-in_err-lanes
unfolding repair_answer
returns-in_err-lanes c =
    let m = (goal.at.returns-in_err-lanes c).After-mend in
    let p = err_from_is_err_and c.from_residual.result c.from_residual.ensures.1 in
    let both = shows-refusal _ _ _ _
    (later (eq-eqb _ 31 (h m)) (later (eq-eqb _ 31 (room m)) (later (none-wide m)
    (mending-stops (octets_of (ws m)) (long (ws m) (h m)) (below (ws m) (h m))
    (ap said (sym c.in_err-lanes.was) ∙ m.mend.ensures.result_value ∙ ap mend_answer (got m)))))) in
    record { result_value = rw (p.1, p.2) both.0; repaired_after = both.1 }

pub returns : goal.returns
unfolding repair_answer
returns c =
    let m = (goal.at.returns c).After-mend in
    let said = ap said (sym c.in_ok-lanes.was) in
    let x = octets m said in
    let shown =
    shows-acceptance lanes_changed packet_out (lanes_apart 8 (repaired_octets (ws m)) (octets_of (ws m)), packet_repaired (ws m)) (old m)
    (repair_demands (ws m) (length (old m)))
    (eq-eqb _ 31 (h m) & eq-eqb _ 31 (room m) & none-wide m & (lanes m said).0 & eq-eqb _ 0 (rw x at c.if-octets-ne0.false)
    & eq-eqb _ 255 (rw x at c.if-octets.false) & eq-eqb _ 255 (rw x at c.if-octets-2.false) & tt)
    (packet-size (ws m) (h m) ∙ sym (room m))
    (c.lay_packet.ensures ∙ ap (λ (o : List ℕ). packet_laid o (old m)) x
    ∙ laid (repaired_octets (ws m)) (old m) (repaired-30 (ws m) (h m)) (room m) ∙ sym (packet-of-octets (ws m) (h m))) in
    record { result_value = ap accepted (count m said) ∙ shown.0; repaired_after = shown.1 }
