-- `madi_write::Frame::lay_inactive` meets its contract: the level is what it was, and with it what is stored. Assumes
-- nothing.
use mathlib.Core.Path.{◌≡◌, sym, subst, ◌∙◌}
use Prim.Native.Nat.{ℕ, ◌+◌, ◌*◌, ◌^◌}
use native.Mathlib.Omega.{arith}
use lib.ListN.{length}
use Rattle.bits.specs.Row.{big}
use Rattle.madi_code.specs.Channels.{channel_row}
use Rattle.madi_code.proofs.ChannelLaws.{idle-bits}
use Rattle.madi_code.proofs.TableLaws.{groups-sent, groups-send}
use Rattle.madi_write.specs.Inner.{Levels, Passed}
use Rattle.madi_write.proofs.Turns.{passed_first, passed-next, idle-block, idle-level}
use Rattle.madi_write.proofs.Frame.lay_inactive.Goals as goal
use Rattle.madi_write.proofs.Frame.lay_inactive.Goals.{After-bits_by-idle, At-loop-b}

-- what an inactive channel is
idle-sent : (c : After-bits_by-idle) → c.bits_by-idle.result ≡ big (channel_row 0)
idle-sent c = c.bits_by-idle.ensures ∙ groups-sent _ 0 (groups-send _ c.requires.ready.sends)

pub overflow_mul-last : goal.overflow_mul-last
overflow_mul-last c = omega arith

pub overflow_add-last : goal.overflow_add-last
overflow_add-last c = omega (arith, idle-sent c, idle-bits)

pub loop-b-init : goal.loop-b-init
loop-b-init c =
    let a = c.args in
    let f = a.self.now in
    λ level e. passed_first f.channels f.words.now f.commands.now level a.line.now a.last (length f.words.now) e

pub overflow_mul-b : goal.overflow_mul-b
overflow_mul-b c = omega arith

pub store_five-requires : goal.store_five-requires
store_five-requires c = omega arith

pub loop-b-preserved : goal.loop-b-preserved
loop-b-preserved c =
    let p = (goal.at.loop-b-preserved c).At-loop-b in
    let a = p.args in
    let f = a.self.now in
    let y = p.levels_after-y.result in
    let same : Levels (a.last * 2 ^ 40 + big (channel_row 0)) y =
    subst (λ (x : ℕ). Levels (a.last * 2 ^ 40 + x) y) (idle-sent (goal.at.loop-b-preserved c).After-bits_by-idle) p.levels_after-y.ensures in
    let most = p.requires.ready.most in
    λ level e. passed-next f.channels f.words.now f.commands.now level most a.line.now (length f.words.now) p.loop-b.line a.last p.loop-b.b _ _ _
    (omega arith) (omega arith) (idle-block f.channels f.words.now f.commands.now level most p.loop-b.b (omega arith) (omega arith))
    (y, same, sym (idle-level a.last y (omega arith) same), c.store_five.ensures) (p.loop-b.invariant level e)

pub returns : goal.returns
returns c =
    let a = c.args in
    let f = a.self.now in
    let most = c.requires.ready.most in
    let z : c.loop-b.b ≡ f.channels = omega arith in
    λ level e.
    subst (λ (b : ℕ). Passed f.channels f.words.now f.commands.now level a.line.now (length f.words.now) c.loop-b.line a.last b) z
    (c.loop-b.invariant level e)
