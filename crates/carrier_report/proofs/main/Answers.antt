-- `carrier_report::main` meets its contract. Assumes nothing.
use mathlib.Core.Path.{◌≡◌, sym, ◌∙◌}
use mathlib.Core.List.{List, ◌++◌}
use Prim.Native.Nat.{ℕ, ◌≤◌}
use native.Mathlib.Omega.{arith}
use lib.ListN.{length, drop, length-append}
use lib.Seq.{length-take-le, length_front}
use Rattle.report.specs.Text.{heading}
use Rattle.records.specs.Head.{body_size}
use Rattle.report.proofs.Lengths.{starts, heading-size}
use Rattle.report.proofs.Written.{step-starts, step-size}
use Rattle.records.proofs.HeadLaws.{read_fits}
use Rattle.report.proofs.Whole.{step_counts}
use borrow.Author.Rules.{rules}
use Rattle.carrier_report.proofs.main.Goals as goal

fits : (head : List ℕ) {size : ℕ} → size ≡ body_size head → size ≤ 8192
fits head e = omega (arith, e, read_fits head)

longer : (a b : List ℕ) {n : ℕ} → n ≤ length a → n ≤ length (a ++ b)
longer a b h = omega (arith, length-append a b)

pub slice_bounds-write_all-count : goal.slice_bounds-write_all-count
slice_bounds-write_all-count c = omega (arith, c.begin-start.ensures.value, starts 128 heading)

pub slice_bounds-write_all-start : goal.slice_bounds-write_all-start
slice_bounds-write_all-start c = omega (arith, c.begin-start.ensures.value, starts 128 heading)

pub slice_bounds-write_all-end : goal.slice_bounds-write_all-end
slice_bounds-write_all-end c = omega (arith, heading-size _ (search rules) c.begin-start.ensures.out_after)

pub loop-input-init : goal.loop-input-init
loop-input-init c = (search rules, search rules, heading-size _ (search rules) c.begin-start.ensures.out_after, search rules)

pub slice_bounds-body-end : goal.slice_bounds-body-end
slice_bounds-body-end c = omega (arith, fits _ c.body_size-size.ensures)

pub slice_bounds-read-end-in-loop-input : goal.slice_bounds-read-end-in-loop-input
slice_bounds-read-end-in-loop-input c = sym (length-take-le _ _ (omega (arith, fits _ c.body_size-size.ensures)))

pub slice_bounds-body-end-in-loop-input : goal.slice_bounds-body-end-in-loop-input
slice_bounds-body-end-in-loop-input c =
    longer c.read-had.new.buf (drop c.body_size-size.result c.loop-input.body) c.read-had.ensures.0

pub slice_bounds-print-end-in-loop-input : goal.slice_bounds-print-end-in-loop-input
slice_bounds-print-end-in-loop-input c =
    sym (length-take-le _ _
    (longer c.read-had.new.buf (drop c.body_size-size.result c.loop-input.body) c.read-had.ensures.0))

pub slice_bounds-write_all-count-in-loop-input : goal.slice_bounds-write_all-count-in-loop-input
slice_bounds-write_all-count-in-loop-input c = step-starts _ c.print-step.ensures.value

pub slice_bounds-write_all-start-in-loop-input : goal.slice_bounds-write_all-start-in-loop-input
slice_bounds-write_all-start-in-loop-input c = step-starts _ c.print-step.ensures.value

pub slice_bounds-write_all-end-in-loop-input : goal.slice_bounds-write_all-end-in-loop-input
slice_bounds-write_all-end-in-loop-input c =
    let l = c.loop-input in
    omega (arith, step-size l.out l.invariant.2 _ _ _ c.print-step.ensures.out_after)

pub loop-input-smaller : goal.loop-input-smaller
loop-input-smaller c =
    omega (arith, step_counts _ _ _ c.print-step.ensures.value c.if-step.false)

pub loop-input-preserved : goal.loop-input-preserved
loop-input-preserved c =
    let l = c.loop-input in
    let m : c.body_size-size.result ≤ length l.body = omega (arith, fits _ c.body_size-size.ensures) in (
      search rules,
      length_front l.body c.read-had.new.buf c.body_size-size.result (search rules) ∙ l.invariant.1,
      step-size l.out l.invariant.2 _ _ _ c.print-step.ensures.out_after,
      search rules,
    )
