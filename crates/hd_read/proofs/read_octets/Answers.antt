-- `hd_read::read_octets` meets its contract, refusal by refusal. Assumes nothing.
use mathlib.Core.Path.{◌≡◌, sym, ap, ap₂, ◌∙◌}
use mathlib.Core.Bool.{false}
use mathlib.Core.List.{List, [], ◌∷◌}
use Prim.Native.Nat.{ℕ, ◌+◌, ◌*◌, ◌<◌}
use native.Mathlib.Omega.{arith}
use Rattle.std.proofs.lemmas.Result.{err_from_is_err_and}
use Rattle.answer.specs.Answer.{Answer.accepted}
use Rattle.answer.specs.Demand.{Demand.finds_none, Met, AllMet, ◌&◌, Stops}
use Rattle.answer.specs.Demand.Stops.{found, later}
use Rattle.answer.specs.Said.{said}
use Rattle.answer.proofs.Chains.{passing, stopped, extended, past, both-met}
use Rattle.anc.proofs.Searched.{first-stops, first-clear}
use Rattle.codes.specs.Lanes.{failing}
use Rattle.codes.proofs.RepairedLanes.{first-failing-place}
use Rattle.hd_packet.specs.Packet.{body_at, bodies_in, spare_demands, odd_body}
use Rattle.hd_packet.specs.declared.Fields.{Fields}
use Rattle.hd_packet.proofs.Channels.{bodies-of}
use Rattle.hd_packet.proofs.Laid.{fields-of}
use Rattle.hd_read.specs.Read.{octet_demands}
use Rattle.hd_read.specs.Inner.{subframe_at, octets_read}
use Rattle.hd_read.proofs.ReadLaws.{spares-stop, spares-met, odd-channel, even-channel, evens-next}
use Rattle.hd_read.proofs.read_octets.Goals as goal
use Rattle.hd_read.proofs.read_octets.Goals.{In_default, In_ok-check_spares}

-- no lane fails
no-lane : (f : In_default) → Met (finds_none 15 (failing f.args.octets.now) 0 8)
no-lane f =
    let o = f.args.octets.now in
    first-clear (failing o) 8 (f.in_default.ensures ∙ first-failing-place o f.told-octets)

pub returns-in-Some : goal.returns-in-Some
unfolding octets_read
returns-in-Some c =
    let o = c.args.octets.now in
    sym (stopped _ (first-stops (failing o) 8 (c.in-Some.ensures ∙ first-failing-place o c.told-octets)))

pub returns-in_err-check_spares : goal.returns-in_err-check_spares
unfolding octets_read
returns-in_err-check_spares c =
    let p = err_from_is_err_and c.from_residual.result c.from_residual.ensures.1 in
    rw (p.1, p.2)
    (sym (stopped _ (later (no-lane (goal.at.returns-in_err-check_spares c).In_default)
    (extended (spares-stop c.args.octets.now c.in_err-check_spares.ensures) _))))

-- no lane fails, and no spare bit is set
module _ (x : In_ok-check_spares) where
  abbrev os : List ℕ
  os = x.args.octets.now

  lanes : Met (finds_none 15 (failing os) 0 8)
  lanes = first-clear (failing os) 8 (x.in_default.ensures ∙ first-failing-place os x.told-octets)

  then-bodies : {number place : ℕ} → Stops (finds_none 9 (odd_body (bodies_in os)) 0 4 ∷ []) number place → Stops (octet_demands os) number place
  then-bodies s = later lanes (past (spare_demands os) (spares-met os x.in_ok-check_spares.ensures) s)

  then-all : AllMet (finds_none 9 (odd_body (bodies_in os)) 0 4 ∷ []) → AllMet (octet_demands os)
  then-all m =
      lanes
      & both-met (spare_demands os) (finds_none 9 (odd_body (bodies_in os)) 0 4 ∷ []) (spares-met os x.in_ok-check_spares.ensures) m

-- the channels before n and channel n
abbrev Evens : List ℕ → ℕ → Type 0
Evens o n = (j : ℕ) → j < n → odd_body (bodies_in o) j ≡ false

next-even : (o : List ℕ) (n : ℕ) {a : ℕ} → n < 4 → Evens o n → accepted a ≡ subframe_at o (8 + 4 * n)
    → Evens o (n + 1) × (a ≡ body_at o (8 + 4 * n))
next-even o n l before e = let v = even-channel o n l e in (evens-next o n before v.0, v.1)

pub returns-in_default-subframe_at : goal.returns-in_default-subframe_at
unfolding octets_read
returns-in_default-subframe_at c =
    let x = (goal.at.returns-in_default-subframe_at c).In_ok-check_spares in
    sym (stopped _ (then-bodies x (found (omega arith) (omega arith)
    (odd-channel (os x) 0 (omega arith) (ap said (sym c.in_default-subframe_at.is) ∙ c.subframe_at.ensures)) (λ j a l. absurd (omega arith)))))

pub returns-in_default-subframe_at-2 : goal.returns-in_default-subframe_at-2
unfolding octets_read
returns-in_default-subframe_at-2 c =
    let x = (goal.at.returns-in_default-subframe_at-2 c).In_ok-check_spares in
    let e1 = next-even (os x) 0 (omega arith) (λ j l. absurd (omega arith)) (ap said (sym c.in-Ok.is) ∙ c.subframe_at.ensures) in
    sym (stopped _ (then-bodies x (found (omega arith) (omega arith)
    (odd-channel (os x) 1 (omega arith) (ap said (sym c.in_default-subframe_at-2.is) ∙ c.subframe_at-2.ensures)) (λ j a l. e1.0 j l))))

pub returns-in_default-subframe_at-3 : goal.returns-in_default-subframe_at-3
unfolding octets_read
returns-in_default-subframe_at-3 c =
    let x = (goal.at.returns-in_default-subframe_at-3 c).In_ok-check_spares in
    let e1 = next-even (os x) 0 (omega arith) (λ j l. absurd (omega arith)) (ap said (sym c.in-Ok.is) ∙ c.subframe_at.ensures) in
    let e2 = next-even (os x) 1 (omega arith) e1.0 (ap said (sym c.in-Ok-subframe_at.is) ∙ c.subframe_at-2.ensures) in
    sym (stopped _ (then-bodies x (found (omega arith) (omega arith)
    (odd-channel (os x) 2 (omega arith) (ap said (sym c.in_default-subframe_at-3.is) ∙ c.subframe_at-3.ensures)) (λ j a l. e2.0 j l))))

pub returns-in_default-subframe_at-4 : goal.returns-in_default-subframe_at-4
unfolding octets_read
returns-in_default-subframe_at-4 c =
    let x = (goal.at.returns-in_default-subframe_at-4 c).In_ok-check_spares in
    let e1 = next-even (os x) 0 (omega arith) (λ j l. absurd (omega arith)) (ap said (sym c.in-Ok.is) ∙ c.subframe_at.ensures) in
    let e2 = next-even (os x) 1 (omega arith) e1.0 (ap said (sym c.in-Ok-subframe_at.is) ∙ c.subframe_at-2.ensures) in
    let e3 = next-even (os x) 2 (omega arith) e2.0 (ap said (sym c.in-Ok-subframe_at-2.is) ∙ c.subframe_at-3.ensures) in
    sym (stopped _ (then-bodies x (found (omega arith) (omega arith)
    (odd-channel (os x) 3 (omega arith) (ap said (sym c.in_default-subframe_at-4.is) ∙ c.subframe_at-4.ensures)) (λ j a l. e3.0 j l))))

pub returns : goal.returns
unfolding octets_read
returns c =
    let x = (goal.at.returns c).In_ok-check_spares in
    let a = c.args in
    let o = a.octets.now in
    let e1 = next-even o 0 (omega arith) (λ j l. absurd (omega arith)) (ap said (sym c.in-Ok.is) ∙ c.subframe_at.ensures) in
    let e2 = next-even o 1 (omega arith) e1.0 (ap said (sym c.in-Ok-subframe_at.is) ∙ c.subframe_at-2.ensures) in
    let e3 = next-even o 2 (omega arith) e2.0 (ap said (sym c.in-Ok-subframe_at-2.is) ∙ c.subframe_at-3.ensures) in
    let e4 = next-even o 3 (omega arith) e3.0 (ap said (sym c.in-Ok-subframe_at-3.is) ∙ c.subframe_at-4.ensures) in
    rw (c.from.ensures, c.from-2.ensures, c.from-3.ensures, c.from-4.ensures, c.from-5.ensures, c.from-6.ensures, e1.1, e2.1, e3.1, e4.1)
    (ap₂ (λ (f : Fields) (bodies : List ℕ). accepted (f, bodies)) (fields-of a.group o) (bodies-of o)
    ∙ sym (passing _ (octet_demands o) (then-all x ((λ j z l. e4.0 j (omega arith)) & tt))))
