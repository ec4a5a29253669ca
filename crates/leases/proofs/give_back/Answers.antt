-- `leases::give_back` meets its contract, test by test: a tenant that gave back holds no slot. Assumes nothing.
use mathlib.Core.Path.{◌≡◌, sym, ap, ◌∙◌}
use mathlib.Core.Logic.{◌≢◌}
use mathlib.Core.Bool.{true}
use mathlib.Core.List.{List}
use Prim.Native.Nat.{ℕ}
use native.Mathlib.Omega.{arith}
use borrow.Author.Tests.{eq-eqb, ne_eqb}
use lib.ListN.{length}
use Rattle.std.specs.Array.{IsWholeChunk}
use Rattle.std.proofs.lemmas.Option.{MatchOption-at_some, MatchOption-at_none}
use Rattle.std.proofs.lemmas.Result.{err_from_is_err_and}
use Rattle.answer.specs.declared.Refusal.TheVariants.{Length}
use Rattle.answer.specs.Answer.{Answer.accepted}
use Rattle.answer.specs.Demand.{◌&◌}
use Rattle.answer.specs.Demand.Stops.{fails, later}
use Rattle.answer.proofs.Residues.{shows-refusal, shows-acceptance}
use Rattle.leases.specs.Table.{slots_of, returned}
use Rattle.leases.specs.Calls.{tenant, back_demands, back_answer}
use Rattle.leases.proofs.Exits.{nothing_there, refused_so}
use Rattle.leases.proofs.Holding.{returned-slots, length-returned}
use Rattle.leases.proofs.Answering.{tenant-nonzero, tenant-octet}
use Rattle.leases.proofs.give_back.Goals as goal
use Rattle.leases.proofs.give_back.Goals.{Else-not-is_tenant, In_ok-table}

pub returns-then-not-is_tenant : goal.returns-then-not-is_tenant
unfolding back_answer
returns-then-not-is_tenant c =
    let both = shows-refusal _ _ _ _ (fails (sym c.is_tenant.ensures ∙ c.if-not-is_tenant.true)) in
    record { result_value = both.0; table_after = both.1 }

-- past the test of the tenant
one : (c : Else-not-is_tenant) → tenant c.args.tenant ≡ true
one c = sym c.is_tenant.ensures ∙ c.if-not-is_tenant.false

-- the slots are the 64 of the slice
chunk : (c : In_ok-table) → IsWholeChunk c.args.table.now c.in_ok-table.table.now 64
chunk c =
    MatchOption-at_some (length c.args.table.now ≢ 64) (λ y. IsWholeChunk c.args.table.now y.now 64) c.in_ok-table.table
    c.in_ok-table.ensures.ok_part c.as_mut_array.ensures.cases

pub returns-in_err-table : goal.returns-in_err-table
unfolding back_answer
returns-in_err-table c =
    let p = err_from_is_err_and c.from_residual.result c.from_residual.ensures.1 in
    let q = nothing_there c.as_mut_array.result Length _ c.in_err-table.ensures.value in
    let n = MatchOption-at_none (length c.args.table.now ≢ 64) (λ y. IsWholeChunk c.args.table.now y.now 64) q c.as_mut_array.ensures.cases in
    let both = shows-refusal _ _ _ _ (later (one (goal.at.returns-in_err-table c).Else-not-is_tenant) (fails (ne_eqb _ _ n))) in
    record {
      result_value = rw (p.1, p.2, refused_so c.as_mut_array.result Length _ c.in_err-table.ensures.value) both.0;
      table_after = both.1;
    }

pub overflow_cast-tenant : goal.overflow_cast-tenant
overflow_cast-tenant c = omega (arith, tenant-octet c.args.tenant (one (goal.at.overflow_cast-tenant c).Else-not-is_tenant))

pub returns : goal.returns
unfolding back_answer
returns c =
    let t : ℕ = c.args.tenant in
    let table : List ℕ = c.args.table.now in
    let k = chunk (goal.at.returns c).In_ok-table in
    let h = one (goal.at.returns c).Else-not-is_tenant in
    let a =
    shows-acceptance (slots_of t) (λ (l : List ℕ). l) (returned t table) table (back_demands t table)
    (h & eq-eqb _ _ k.long & tt) (length-returned t table) (c.release.ensures ∙ ap (returned t) k.same) in
    record { result_value = ap accepted (sym (returned-slots t (tenant-nonzero t h) table)) ∙ a.0; table_after = a.1 }
