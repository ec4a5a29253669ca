-- `leases::close` meets its contract: the leased slots go down, and what is behind them is cleared. Assumes nothing.
use mathlib.Core.Path.{◌≡◌, sym, ap, ◌∙◌}
use mathlib.Core.Logic.{◌≢◌}
use mathlib.Core.List.{List, ◌++◌, append-nil}
use Prim.Native.Nat.{ℕ, ◌-◌, ◌*◌, ◌≤◌}
use native.Mathlib.Omega.{arith}
use borrow.Author.Tests.{eq-eqb, ne_eqb}
use borrow.Rule.Slice.PartMut.{put_mid, mid_of}
use lib.ListN.{length, take, drop, replicate, length-drop, drop_of_length-le}
use lib.Seq.{take_all}
use Rattle.std.specs.Array.{IsWholeChunk}
use Rattle.std.proofs.lemmas.Option.{MatchOption-at_some, MatchOption-at_none}
use Rattle.std.proofs.lemmas.Result.{err_from_is_err_and}
use Rattle.answer.specs.declared.Refusal.TheVariants.{Length}
use Rattle.answer.specs.Answer.{Answer.accepted, Answer.refused, mapped}
use Rattle.answer.specs.Demand.{Stops, AllMet, ◌&◌}
use Rattle.answer.specs.Demand.Stops.{fails, later}
use Rattle.answer.proofs.Residues.{shows-refusal, shows-acceptance}
use Rattle.leases.specs.Table.{closed}
use Rattle.leases.specs.Inner.{Moved, zeroed_from}
use Rattle.leases.specs.Calls.{leased_count, close_demands, close_answer, close_table, moves_list, close_moves}
use Rattle.leases.proofs.Exits.{nothing_there, refused_so}
use Rattle.leases.proofs.Closing.{length-closed}
use Rattle.leases.proofs.MoveTurns.{cleared-table, cleared-moves}
use Rattle.leases.proofs.Answering.{length-list}
use Rattle.leases.proofs.close.Goals as goal
use Rattle.leases.proofs.close.Goals.{In_ok-table, In_ok-moves}

-- a way out by a demand that is not met
refuses : (table old : List ℕ) {number place : ℕ} → Stops (close_demands (length old) table) number place
    → (refused number place ≡ mapped leased_count (close_answer (length old) table))
    × ((table ≡ close_table (length old) table) × (old ≡ close_moves table old))
unfolding close_answer
refuses table old stop =
    let a = shows-refusal leased_count closed table table stop in
    let b = shows-refusal leased_count moves_list table old stop in
    (a.0, (a.1, b.1))

-- a part from a place on that is filled with zeros
filled_with : (n at : ℕ) (xs part : List ℕ) → length xs ≡ n → at ≤ n → part ≡ replicate (length (mid_of at (n - at) xs)) 0
    → put_mid at (n - at) xs part ≡ zeroed_from at xs
unfolding zeroed_from
filled_with n at xs part h l e =
    let long : length (drop at xs) ≡ n - at = length-drop at xs ∙ omega arith in
    let none = drop_of_length-le (drop at xs) {i = n - at} (omega arith) in
    let all = take_all (n - at) (drop at xs) (omega arith) in
    let size : length (mid_of at (n - at) xs) ≡ length xs - at = ap length all ∙ length-drop at xs in
    ap (λ (r : List ℕ). take at xs ++ r)
    (ap (λ (r : List ℕ). part ++ r) none ∙ append-nil part ∙ e ∙ ap (λ (k : ℕ). replicate k 0) size)

-- the slots and the octets are those of the slices
chunk : (c : In_ok-table) → IsWholeChunk c.args.table.now c.in_ok-table.table.now 64
chunk c =
    MatchOption-at_some (length c.args.table.now ≢ 64) (λ y. IsWholeChunk c.args.table.now y.now 64) c.in_ok-table.table
    c.in_ok-table.ensures.ok_part c.as_mut_array.ensures.cases

moves-chunk : (c : In_ok-moves) → IsWholeChunk c.args.moves.now c.in_ok-moves.moves.now 128
moves-chunk c =
    MatchOption-at_some (length c.args.moves.now ≢ 128) (λ y. IsWholeChunk c.args.moves.now y.now 128) c.in_ok-moves.moves
    c.in_ok-moves.ensures.ok_part c.as_mut_array-2.ensures.cases

pub returns-in_err-table : goal.returns-in_err-table
returns-in_err-table c =
    let p = err_from_is_err_and c.from_residual.result c.from_residual.ensures.1 in
    let q = nothing_there c.as_mut_array.result Length _ c.in_err-table.ensures.value in
    let n = MatchOption-at_none (length c.args.table.now ≢ 64) (λ y. IsWholeChunk c.args.table.now y.now 64) q c.as_mut_array.ensures.cases in
    let both = refuses c.args.table.now c.args.moves.now (fails (ne_eqb _ _ n)) in
    record {
      result_value = rw (p.1, p.2, refused_so c.as_mut_array.result Length _ c.in_err-table.ensures.value) both.0;
      table_after = both.1.0;
      moves_after = both.1.1;
    }

pub returns-in_err-moves : goal.returns-in_err-moves
returns-in_err-moves c =
    let k = chunk (goal.at.returns-in_err-moves c).In_ok-table in
    let p = err_from_is_err_and c.from_residual-in_err-moves.result c.from_residual-in_err-moves.ensures.1 in
    let q = nothing_there c.as_mut_array-2.result Length _ c.in_err-moves.ensures.value in
    let n = MatchOption-at_none (length c.args.moves.now ≢ 128) (λ y. IsWholeChunk c.args.moves.now y.now 128) q c.as_mut_array-2.ensures.cases in
    let both = refuses c.args.table.now c.args.moves.now (later (eq-eqb _ _ k.long) (fails (ne_eqb _ _ n))) in
    record {
      result_value = rw (p.1, p.2, refused_so c.as_mut_array-2.result Length _ c.in_err-moves.ensures.value) both.0;
      table_after = k.same ∙ both.1.0;
      moves_after = both.1.1;
    }

-- what was moved down, of the slices
pub returns : goal.returns
unfolding close_answer
returns c =
    let k = chunk (goal.at.returns c).In_ok-table in
    let l = moves-chunk (goal.at.returns c).In_ok-moves in
    let table : List ℕ = c.args.table.now in
    let old : List ℕ = c.args.moves.now in
    let r = c.move_down-leased.result in
    let m : Moved table c.move_down-leased.new.table c.move_down-leased.new.moves r = rw k.same at c.move_down-leased.ensures in
    let ds = close_demands (length old) table in
    let met : AllMet ds = eq-eqb _ _ k.long & eq-eqb _ _ l.long & tt in
    let a =
    shows-acceptance leased_count closed table table ds met (length-closed table)
    (filled_with 64 r c.move_down-leased.new.table c.fill.new.self (omega arith) m.few (c.fill.ensures.after (λ y e. e))
    ∙ cleared-table m (omega (arith, k.long))) in
    let b =
    shows-acceptance leased_count moves_list table old ds met (length-list table k.long ∙ sym l.long)
    (filled_with 128 (2 * r) c.move_down-leased.new.moves c.fill-2.new.self (omega arith) (omega (arith, m.few)) (c.fill-2.ensures.after (λ y e. e))
    ∙ cleared-moves m (omega (arith, k.long)) (omega arith)) in
    record { result_value = ap accepted m.as_many ∙ a.0; table_after = a.1; moves_after = b.1 }
