-- `madi_write::Frame::lay_active` meets its contract: the octets passed are the frame's, and `last` is the level before
-- the next block. Assumes nothing.
use mathlib.Core.Path.{◌≡◌, sym, ap, subst, ◌∙◌}
use Prim.Native.Nat.{ℕ}
use native.Mathlib.Omega.{arith}
use lib.ListN.{length}
use Rattle.bits.specs.Row.{big}
use Rattle.madi_code.specs.Channels.{channel_row}
use Rattle.madi_code.proofs.TableLaws.{groups-sent, groups-send}
use Rattle.madi_write.specs.Inner.{block_of, Passed}
use Rattle.madi_write.proofs.Frames.{sent-active}
use Rattle.madi_write.proofs.Blocks.{first-level}
use Rattle.madi_write.proofs.Turns.{passed_first, passed-lt, passed-next, block-lt, active-block}
use Rattle.madi_write.proofs.Frame.lay_active.Goals as goal
use Rattle.madi_write.proofs.Frame.lay_active.Goals.{After-bits_by-x, At-loop-b}

pub loop-b-init : goal.loop-b-init
loop-b-init c =
    let a = c.args in
    let f = a.self.now in
    subst (λ (last : ℕ). Passed f.channels f.words.now f.commands.now a.level a.line.now 0 a.line.now last 0) (sym c.from-last.ensures)
    (passed_first f.channels f.words.now f.commands.now a.level a.line.now a.level 0
    (first-level f.channels f.words.now f.commands.now a.level c.requires.room.0))

-- what the block of a channel is
active-is : (c : After-bits_by-x)
    → let f = c.args.self.now in c.bits_by-x.result ≡ block_of f.channels f.words.now f.commands.now c.loop-b.b
active-is c =
    let f = c.args.self.now in
    c.bits_by-x.ensures ∙ groups-sent _ c.sent_word.result (groups-send _ c.requires.ready.sends)
    ∙ ap (λ (w : ℕ). big (channel_row w)) (c.sent_word.ensures ∙ sym (sent-active f.words.now c.loop-b.b c.loop-b-test.true))
    ∙ active-block f.channels f.words.now f.commands.now c.args.level c.requires.ready.most c.loop-b.b c.loop-b-test.true

pub lay-last-requires : goal.lay-last-requires
lay-last-requires c =
    let p = (goal.at.lay-last-requires c).At-loop-b in
    let a = p.args in
    let f = a.self.now in
    let ready = p.requires.ready in (
      omega arith,
      passed-lt f.channels f.words.now f.commands.now a.level p.loop-b.last p.loop-b.b p.loop-b.invariant.1,
      block-lt f.channels f.words.now f.commands.now a.level ready.most p.loop-b.b _ (omega (arith, ready.most)) (active-is (goal.at.lay-last-requires c).After-bits_by-x),
      omega arith,
    )

pub loop-b-preserved : goal.loop-b-preserved
loop-b-preserved c =
    let p = (goal.at.loop-b-preserved c).At-loop-b in
    let a = p.args in
    let f = a.self.now in
    let most = p.requires.ready.most in
    passed-next f.channels f.words.now f.commands.now a.level most a.line.now 0 p.loop-b.line p.loop-b.last p.loop-b.b _ _ _
    (omega arith) (omega arith) (active-is (goal.at.loop-b-preserved c).After-bits_by-x) c.lay-last.ensures p.loop-b.invariant

pub returns : goal.returns
returns c =
    let a = c.args in
    let f = a.self.now in
    let e : c.loop-b.b ≡ length f.words.now = omega arith in
    subst (λ (b : ℕ). Passed f.channels f.words.now f.commands.now a.level a.line.now 0 c.loop-b.line c.loop-b.last b) e c.loop-b.invariant
