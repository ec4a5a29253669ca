-- `anc::none_wide` meets its contract: what is gathered is 0 only if no word passed is above 1,023. Assumes nothing.
use Prim.Native.Nat.{◌/◌}
use native.Mathlib.Omega.{arith}
use borrow.Author.Tests.{le-ltb, eqb-true}
use lib.ListN.{length, get_or}
use Rattle.std.specs.Prelude.{Some, None}
use Rattle.bits.proofs.Places.{first-none}
use Rattle.bits.proofs.Searches.{clear_next}
use Rattle.anc.specs.Word.{wide_at}
use Rattle.anc.specs.Inner.{first_wide}
use Rattle.anc.proofs.none_wide.Goals as goal

pub loop-w-preserved : goal.loop-w-preserved
unfolding wide_at
loop-w-preserved c =
    let ws = c.args.words.now in
    let w = get_or ws c.loop-w.w-index 0 in
    clear_next (wide_at ws) (length ws) c.loop-w.above (w / 1024) c.loop-w.w-index c.loop-w-test.true
    (λ e. le-ltb 1023 w (omega arith)) c.loop-w.invariant

pub returns : goal.returns
unfolding first_wide
returns c e =
    let ws = c.args.words.now in
    first-none (wide_at ws) Some None 0 (length ws) (λ j l. c.loop-w.invariant.1 (eqb-true c.loop-w.above 0 e) j (omega (arith, c.loop-w-test.false)))
