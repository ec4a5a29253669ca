-- `codes::crcc_added` meets its contract. The loop's invariant: what the code holds is the octet that the stages are
-- sent as, after the difference and the zeros up to the byte before. Assumes nothing.
use mathlib.Core.Path.{◌≡◌, ap, ◌∙◌}
use mathlib.Core.List.{List}
use Prim.Native.Nat.{ℕ, ◌+◌, ◌-◌}
use native.Mathlib.Omega.{arith}
use lib.ListN.{get_or}
use Rattle.codes.specs.Crcc.{octet_of}
use Rattle.codes.specs.Inner.{crcc_added}
use Rattle.codes.proofs.SentOctet.{octet-lt}
use Rattle.codes.proofs.EditLaws.{followed, added-first, added_next}
use Rattle.codes.proofs.crcc_added.Goals as goal

pub loop-init : goal.loop-init
loop-init c =
    let d = c.args.difference in
    let table : List ℕ = c.sent_table-table.result in
    let none : 0 ≡ c.args.byte - c.args.byte = omega arith in (
      omega arith,
      ap (λ (k : ℕ). get_or table k 0) c.from.ensures ∙ added-first table d c.sent_table-table.ensures (omega arith)
          ∙ ap (λ (n : ℕ). octet_of (followed d n)) none,
    )

pub bounds-table-from-in-loop : goal.bounds-table-from-in-loop
bounds-table-from-in-loop c =
    omega (arith, c.from-in-loop.ensures, c.loop.invariant.1, octet-lt (followed c.args.difference (c.loop.counter - c.args.byte)))

pub loop-preserved : goal.loop-preserved
loop-preserved c =
    let d = c.args.difference in
    let table : List ℕ = c.sent_table-table.result in
    let n = c.loop.counter - c.args.byte in
    let more : n + 1 ≡ c.loop.counter + 1 - c.args.byte = omega arith in (
      omega arith,
      ap (λ (x : ℕ). get_or table x 0) (c.from-in-loop.ensures ∙ c.loop.invariant.1) ∙ added_next table d n c.sent_table-table.ensures
          ∙ ap (λ (k : ℕ). octet_of (followed d k)) more,
    )

pub returns : goal.returns
unfolding crcc_added
returns c =
    let all : c.loop.counter - c.args.byte ≡ 22 - c.args.byte = omega arith in
    c.loop.invariant.1 ∙ ap (λ (n : ℕ). octet_of (followed c.args.difference n)) all
