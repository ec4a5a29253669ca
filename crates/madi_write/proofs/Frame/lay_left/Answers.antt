-- `madi_write::Frame::lay_left` meets its contract: the last block, cut at the frame's end. Assumes nothing.
use mathlib.Core.Path.{◌≡◌, ap, ap₂, subst, ◌∙◌}
use Prim.Native.Nat.{ℕ, ◌+◌, ◌*◌, ◌/◌, ◌%◌, ◌^◌, ◌-◌, ◌≤◌, ◌<◌}
use native.Mathlib.Omega.{arith}
use lib.ListN.{length, take, drop}
use Rattle.madi_write.specs.Inner.{commands_number, Levels, Stored}
use Rattle.madi_write.proofs.Frames.{length-cut, numbered-cut, commands-cut, commands-lt}
use Rattle.madi_write.proofs.Turns.{level-moved, level-fits, left_ended}
use Rattle.madi_write.proofs.Frame.lay_left.Goals as goal
use Rattle.madi_write.proofs.Frame.lay_left.Goals.{Start}

-- the commands that are left
module _ (c : Start) where
  abbrev at : ℕ
  at = 4 * (length c.args.self.now.commands.now / 4)

  abbrev count : ℕ
  count = length c.args.self.now.commands.now - 4 * (length c.args.self.now.commands.now / 4)

  fits : at + count ≤ length c.args.self.now.commands.now
  fits = omega arith

  few : count ≡ length c.args.self.now.commands.now % 4
  few = omega arith

pub commands_number-x-requires : goal.commands_number-x-requires
commands_number-x-requires c =
    let s = (goal.at.commands_number-x-requires c).Start in
    let cs = c.args.self.now.commands.now in
    (c.requires.ready.codes, omega (arith, length-cut cs (at s) (count s) (fits s)), numbered-cut cs (at s) (count s) (fits s) c.requires.ready.named)

left : (s : Start) (x : ℕ) → let cs = s.args.self.now.commands.now in
    let part = take (count s) (drop (at s) cs) in
    x ≡ commands_number part 0 (length part) → x ≡ commands_number cs (4 * (length cs / 4)) (length cs % 4)
left s x e =
    let cs = s.args.self.now.commands.now in
    e ∙ commands-cut cs (at s) (count s) (fits s) ∙ ap (commands_number cs (at s)) (few s)

pub overflow_add-last : goal.overflow_add-last
overflow_add-last c =
    let a = c.args in
    let n = length a.self.now.commands.now in
    let x = c.commands_number-x.result in
    let small : x < 2 ^ 40 =
    omega (arith, left (goal.at.overflow_add-last c).Start x c.commands_number-x.ensures, commands-lt a.self.now.commands.now (4 * (n / 4)) (n % 4) (omega arith) (omega arith)) in
    record { fits = level-fits a.last (n % 4) x (omega arith) (omega arith) small }

pub store-requires : goal.store-requires
store-requires c = (omega (arith, c.div_ceil.ensures), omega (arith, c.div_ceil.ensures))

pub returns : goal.returns
returns c =
    let a = c.args in
    let f = a.self.now in
    let k : ℕ = length f.commands.now % 4 in
    let y = c.levels_after-y.result in
    let x = c.commands_number-x.result in
    let n : c.div_ceil.result ≡ (10 * k + 7) / 8 = omega (arith, c.div_ceil.ensures) in
    λ level e. left_ended f.channels f.words.now f.commands.now level c.requires.ready.most a.line.now c.store.new.line a.last y e
    (subst (λ (s : ℕ). Levels s y)
    (ap₂ (λ (u v : ℕ). u + v) (level-moved a.last k (omega arith) (omega arith)) (left (goal.at.returns c).Start x c.commands_number-x.ensures)) c.levels_after-y.ensures)
    (subst (λ (m : ℕ). Stored (5 * (f.channels + length f.commands.now / 4)) (y * 2 ^ (40 - 10 * k) % 2 ^ 64) m a.line.now c.store.new.line) n c.store.ensures)
