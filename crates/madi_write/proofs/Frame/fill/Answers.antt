-- `madi_write::Frame::fill` meets its contract: part after part is the frame's. Assumes nothing.
use Prim.Native.Nat.{◌+◌, ◌/◌, ◌<◌}
use native.Mathlib.Omega.{arith}
use lib.ListN.{length}
use Rattle.madi_write.specs.Inner.{LevelAt}
use Rattle.madi_write.proofs.Turns.{passed-lt, all-passed}
use Rattle.madi_write.proofs.Frame.fill.Goals as goal
use Rattle.madi_write.proofs.Frame.fill.Goals.{After-lay_active-last, After-lay_fours-end, After-lay_inactive}

-- the level behind the channels, behind all of them, behind the fours
active-lt : (c : After-lay_active-last) → c.lay_active-last.result < 2
active-lt c =
    let f = c.args.self.now in
    passed-lt f.channels f.words.now f.commands.now c.args.level c.lay_active-last.result (length f.words.now) c.lay_active-last.ensures.1

level-channels : (c : After-lay_inactive)
    → let f = c.args.self.now in LevelAt f.channels f.words.now f.commands.now c.args.level c.lay_active-last.result f.channels
level-channels c = (c.lay_inactive.ensures c.args.level c.lay_active-last.ensures.1).1

level-fours : (c : After-lay_fours-end)
    → let f = c.args.self.now in
    LevelAt f.channels f.words.now f.commands.now c.args.level c.lay_fours-end.result (f.channels + length f.commands.now / 4)
level-fours c = (c.lay_fours-end.ensures c.args.level (c.lay_inactive.ensures c.args.level c.lay_active-last.ensures.1).1).1

pub lay_active-last-requires : goal.lay_active-last-requires
lay_active-last-requires c = record { ready = c.requires.ready; room = (c.requires.room.0, omega (arith, c.requires.ready.most)) }

pub lay_inactive-requires : goal.lay_inactive-requires
lay_inactive-requires c =
    let t = (goal.at.lay_inactive-requires c).After-lay_active-last in
    record { ready = t.requires.ready; room = (active-lt t, omega arith) }

pub lay_fours-end-requires : goal.lay_fours-end-requires
lay_fours-end-requires c =
    let t = (goal.at.lay_fours-end-requires c).After-lay_active-last in
    record { ready = t.requires.ready; room = (active-lt t, omega arith) }

pub lay_left-requires : goal.lay_left-requires
lay_left-requires c =
    let t = (goal.at.lay_left-requires c).After-lay_fours-end in
    let f = t.args.self.now in
    record {
      ready = t.requires.ready;
      room = (passed-lt f.channels f.words.now f.commands.now t.args.level t.lay_fours-end.result (f.channels + length f.commands.now / 4) (level-fours t), omega arith);
    }

pub returns : goal.returns
returns c =
    let t = (goal.at.returns c).After-lay_fours-end in
    let i = (goal.at.returns c).After-lay_inactive in
    let a = t.args in
    let f = a.self.now in
    all-passed f.channels f.words.now f.commands.now a.level a.line.now _ _ _ _ t.lay_active-last.result t.lay_fours-end.result _ _ t.requires.room.1
    t.lay_active-last.ensures (i.lay_inactive.ensures a.level t.lay_active-last.ensures.1) (t.lay_fours-end.ensures a.level (level-channels i))
    (c.lay_left.ensures a.level (level-fours t))
