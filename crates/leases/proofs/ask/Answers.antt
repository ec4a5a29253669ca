-- `leases::ask` meets its contract, test by test. Assumes nothing.
use mathlib.Core.Path.{◌≡◌, sym, ap, ◌∙◌}
use mathlib.Core.Logic.{◌≢◌}
use mathlib.Core.Bool.{true}
use mathlib.Core.List.{List}
use Prim.Native.Nat.{ℕ}
use native.Mathlib.Omega.{arith}
use borrow.Author.Tests.{eq-eqb, ne_eqb, le-leb, lt-leb}
use lib.ListN.{length}
use Rattle.std.specs.Array.{IsWholeChunk}
use Rattle.std.proofs.lemmas.Option.{MatchOption-at_some, MatchOption-at_none}
use Rattle.std.proofs.lemmas.Result.{err_from_is_err_and}
use Rattle.answer.specs.declared.Refusal.TheVariants.{Length}
use Rattle.answer.specs.Answer.{Answer.accepted}
use Rattle.answer.specs.Demand.{◌&◌}
use Rattle.answer.specs.Demand.Stops.{fails, later}
use Rattle.answer.proofs.Residues.{shows-refusal, shows-acceptance}
use Rattle.leases.specs.Table.{held_by, slots_of, granted}
use Rattle.leases.specs.Calls.{tenant, request, ask_demands, ask_answer}
use Rattle.leases.proofs.Exits.{nothing_there, refused_so}
use Rattle.leases.proofs.Holding.{length-granted}
use Rattle.leases.proofs.Answering.{tenant-octet}
use Rattle.leases.proofs.ask.Goals as goal
use Rattle.leases.proofs.ask.Goals.{Else-not-is_tenant, Else-not-is_request, In_ok-table}

pub returns-then-not-is_tenant : goal.returns-then-not-is_tenant
unfolding ask_answer
returns-then-not-is_tenant c =
    let both = shows-refusal _ _ _ _ (fails (sym c.is_tenant.ensures ∙ c.if-not-is_tenant.true)) in
    record { result_value = both.0; table_after = both.1 }

one : (c : Else-not-is_tenant) → tenant c.args.tenant ≡ true
one c = sym c.is_tenant.ensures ∙ c.if-not-is_tenant.false

pub returns-then-not-is_request : goal.returns-then-not-is_request
unfolding ask_answer
returns-then-not-is_request c =
    let h = one (goal.at.returns-then-not-is_request c).Else-not-is_tenant in
    let both = shows-refusal _ _ _ _ (later h (fails (sym c.is_request.ensures ∙ c.if-not-is_request.true))) in
    record { result_value = both.0; table_after = both.1 }

some : (c : Else-not-is_request) → request c.args.n ≡ true
some c = sym c.is_request.ensures ∙ c.if-not-is_request.false

-- the slots are the 64 of the slice
chunk : (c : In_ok-table) → IsWholeChunk c.args.table.now c.in_ok-table.table.now 64
chunk c =
    MatchOption-at_some (length c.args.table.now ≢ 64) (λ y. IsWholeChunk c.args.table.now y.now 64) c.in_ok-table.table
    c.in_ok-table.ensures.ok_part c.as_mut_array.ensures.cases

pub returns-in_err-table : goal.returns-in_err-table
unfolding ask_answer
returns-in_err-table c =
    let h = one (goal.at.returns-in_err-table c).Else-not-is_tenant in
    let g = some (goal.at.returns-in_err-table c).Else-not-is_request in
    let p = err_from_is_err_and c.from_residual.result c.from_residual.ensures.1 in
    let q = nothing_there c.as_mut_array.result Length _ c.in_err-table.ensures.value in
    let n = MatchOption-at_none (length c.args.table.now ≢ 64) (λ y. IsWholeChunk c.args.table.now y.now 64) q c.as_mut_array.ensures.cases in
    let both = shows-refusal _ _ _ _ (later h (later g (fails (ne_eqb _ _ n)))) in
    record {
      result_value = rw (p.1, p.2, refused_so c.as_mut_array.result Length _ c.in_err-table.ensures.value) both.0;
      table_after = both.1;
    }

pub returns-then-count_of-n : goal.returns-then-count_of-n
unfolding ask_answer
returns-then-count_of-n c =
    let h = one (goal.at.returns-then-count_of-n c).Else-not-is_tenant in
    let g = some (goal.at.returns-then-count_of-n c).Else-not-is_request in
    let k = chunk (goal.at.returns-then-count_of-n c).In_ok-table in
    let table : List ℕ = c.args.table.now in
    let both = shows-refusal _ _ _ _ (later h (later g (later (eq-eqb _ _ k.long)
    (fails (lt-leb c.args.n (held_by 0 table) (omega (arith, c.count_of.ensures ∙ ap (held_by 0) k.same, c.if-count_of-n.true))))))) in
    record { result_value = both.0; table_after = k.same ∙ both.1 }

pub overflow_cast-tenant : goal.overflow_cast-tenant
overflow_cast-tenant c = omega (arith, tenant-octet c.args.tenant (one (goal.at.overflow_cast-tenant c).Else-not-is_tenant))

pub overflow_cast-tenant-2 : goal.overflow_cast-tenant-2
overflow_cast-tenant-2 c = omega (arith, tenant-octet c.args.tenant (one (goal.at.overflow_cast-tenant-2 c).Else-not-is_tenant))

pub returns : goal.returns
unfolding ask_answer
returns c =
    let t : ℕ = c.args.tenant in
    let n : ℕ = c.args.n in
    let table : List ℕ = c.args.table.now in
    let k = chunk (goal.at.returns c).In_ok-table in
    let h = one (goal.at.returns c).Else-not-is_tenant in
    let g = some (goal.at.returns c).Else-not-is_request in
    let e = c.grant.ensures ∙ ap (granted t n) k.same in
    let a =
    shows-acceptance (slots_of t) (λ (l : List ℕ). l) (granted t n table) table (ask_demands t n table)
    (h & g & eq-eqb _ _ k.long & le-leb n (held_by 0 table) (omega (arith, c.count_of.ensures ∙ ap (held_by 0) k.same, c.if-count_of-n.false)) & tt)
    (length-granted t n table) e in
    record { result_value = ap accepted (c.slots_of.ensures ∙ ap (slots_of t) e) ∙ a.0; table_after = a.1 }
