-- `packet_replay::run` meets its contract. Assumes nothing.
use mathlib.Core.Path.{◌≡◌, sym, ◌∙◌}
use mathlib.Core.List.{List, ◌++◌}
use Prim.Native.Nat.{ℕ, ◌≤◌}
use native.Mathlib.Omega.{arith}
use lib.ListN.{length, drop, length-append}
use lib.Seq.{length-take-le, length_front}
use Rattle.records.specs.Head.{body_size}
use Rattle.records.proofs.HeadLaws.{read_fits}
use borrow.Author.Rules.{rules}
use Rattle.packet_replay.proofs.run.Goals as goal

fits : (head : List ℕ) {size : ℕ} → size ≡ body_size head → size ≤ 8192
fits head e = omega (arith, e, read_fits head)

longer : (a b : List ℕ) {n : ℕ} → n ≤ length a → n ≤ length (a ++ b)
longer a b h = omega (arith, length-append a b)

pub slice_bounds-body-end : goal.slice_bounds-body-end
slice_bounds-body-end c = omega (arith, fits _ c.body_size-size.ensures)

pub slice_bounds-read-end-in-loop-record : goal.slice_bounds-read-end-in-loop-record
slice_bounds-read-end-in-loop-record c = sym (length-take-le _ _ (omega (arith, fits _ c.body_size-size.ensures)))

pub slice_bounds-body-end-in-loop-record : goal.slice_bounds-body-end-in-loop-record
slice_bounds-body-end-in-loop-record c =
    longer c.read-had.new.buf (drop c.body_size-size.result c.loop-record.body) c.read-had.ensures.0

pub slice_bounds-step-end-in-loop-record : goal.slice_bounds-step-end-in-loop-record
slice_bounds-step-end-in-loop-record c =
    sym (length-take-le _ _
    (longer c.read-had.new.buf (drop c.body_size-size.result c.loop-record.body) c.read-had.ensures.0))

pub loop-record-preserved : goal.loop-record-preserved
loop-record-preserved c =
    let l = c.loop-record in
    let m : c.body_size-size.result ≤ length l.body = omega (arith, fits _ c.body_size-size.ensures) in
    (search rules, length_front l.body c.read-had.new.buf c.body_size-size.result (search rules) ∙ l.invariant.1)
