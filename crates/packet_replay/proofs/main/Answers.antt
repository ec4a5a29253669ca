-- `packet_replay::main` meets its contract. Assumes nothing.
use native.Mathlib.Omega.{arith}
use Rattle.report.proofs.Lengths.{starts-in}
use Rattle.report.proofs.NightLaws.{night-heading-size, figures-size}
use borrow.Author.Rules.{rules}
use Rattle.packet_replay.proofs.main.Goals as goal

pub slice_bounds-write_all-count : goal.slice_bounds-write_all-count
slice_bounds-write_all-count c = starts-in 8192 _ c.begin_replay-from.ensures.value

pub slice_bounds-write_all-start : goal.slice_bounds-write_all-start
slice_bounds-write_all-start c = starts-in 8192 _ c.begin_replay-from.ensures.value

pub slice_bounds-write_all-end : goal.slice_bounds-write_all-end
slice_bounds-write_all-end c = omega (arith, night-heading-size _ (search rules) c.begin_replay-from.ensures.out_after)

pub slice_bounds-write_all-count-2 : goal.slice_bounds-write_all-count-2
slice_bounds-write_all-count-2 c = starts-in 8192 _ c.end_replay-from.ensures.value

pub slice_bounds-write_all-start-2 : goal.slice_bounds-write_all-start-2
slice_bounds-write_all-start-2 c = starts-in 8192 _ c.end_replay-from.ensures.value

pub slice_bounds-write_all-end-2 : goal.slice_bounds-write_all-end-2
slice_bounds-write_all-end-2 c =
    omega (arith, figures-size _ (night-heading-size _ (search rules) c.begin_replay-from.ensures.out_after) _ _ c.end_replay-from.ensures.out_after)
