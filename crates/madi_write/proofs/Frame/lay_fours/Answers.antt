-- `madi_write::Frame::lay_fours` meets its contract: the octets passed are the frame's, and `end` is the level before the
-- next block. Assumes nothing.
use mathlib.Core.Path.{◌≡◌, sym, ap, subst, ◌∙◌}
use Prim.Native.Nat.{ℕ, ◌+◌, ◌*◌, ◌-◌, ◌/◌, ◌≤◌}
use native.Mathlib.Nat.{add-zero}
use native.Mathlib.Omega.{arith}
use lib.ListN.{length, take, drop}
use Rattle.madi_write.specs.Inner.{commands_number, Passed}
use Rattle.madi_write.proofs.Frames.{length-cut, numbered-cut, commands-cut, commands-lt}
use Rattle.madi_write.proofs.Turns.{passed_first, passed-next, command-block}
use Rattle.madi_write.proofs.Frame.lay_fours.Goals as goal
use Rattle.madi_write.proofs.Frame.lay_fours.Goals.{In-loop-i}

pub loop-i-init : goal.loop-i-init
loop-i-init c =
    let a = c.args in
    let f = a.self.now in (
      omega arith,
      λ level e. subst (λ (b : ℕ). Passed f.channels f.words.now f.commands.now level a.line.now f.channels a.line.now a.last b) (sym (add-zero f.channels))
          (passed_first f.channels f.words.now f.commands.now level a.line.now a.last f.channels e),
    )

-- the commands of this turn
module _ (c : In-loop-i) where
  abbrev at : ℕ
  at = 4 * c.loop-i.i

  abbrev count : ℕ
  count = 4 * c.loop-i.i + 4 - 4 * c.loop-i.i

  fits : at + count ≤ length c.args.self.now.commands.now
  fits = omega arith

pub commands_number-x-requires : goal.commands_number-x-requires
commands_number-x-requires c =
    let l = (goal.at.commands_number-x-requires c).In-loop-i in
    let cs = c.args.self.now.commands.now in
    (c.requires.ready.codes, omega (arith, length-cut cs (at l) (count l) (fits l)), numbered-cut cs (at l) (count l) (fits l) c.requires.ready.named)

four : (l : In-loop-i) (x : ℕ) → let cs = l.args.self.now.commands.now in
    let part = take (count l) (drop (at l) cs) in
    x ≡ commands_number part 0 (length part) → x ≡ commands_number cs (4 * l.loop-i.i) 4
four l x e =
    let cs = l.args.self.now.commands.now in
    let n : count l ≡ 4 = omega arith in
    e ∙ commands-cut cs (at l) (count l) (fits l) ∙ ap (commands_number cs (at l)) n

pub lay-end-requires : goal.lay-end-requires
lay-end-requires c =
    let l = (goal.at.lay-end-requires c).In-loop-i in
    let cs = c.args.self.now.commands.now in
    let ready = c.requires.ready in (
      omega (arith, ready.at_most, ready.short),
      omega arith,
      omega (arith, four l c.commands_number-x.result c.commands_number-x.ensures, commands-lt cs (4 * c.loop-i.i) 4 (omega arith) (omega arith)),
      omega arith,
    )

pub loop-i-preserved : goal.loop-i-preserved
loop-i-preserved c =
    let p = (goal.at.loop-i-preserved c).In-loop-i in
    let a = p.args in
    let f = a.self.now in
    let i : ℕ = p.loop-i.i in
    let b : ℕ = f.channels + i in
    let laid = c.lay-end.ensures in
    let most = p.requires.ready.most in
    let next : b + 1 ≡ f.channels + (i + 1) = omega arith in
    let back : i ≡ b - f.channels = omega arith in (
      omega (arith, laid.2),
      λ level e. subst (λ (k : ℕ). Passed f.channels f.words.now f.commands.now level a.line.now f.channels c.lay-end.new.line c.lay-end.result k) next
          (passed-next f.channels f.words.now f.commands.now level most a.line.now f.channels p.loop-i.line p.loop-i.end b _ _ _
          (omega arith) (omega arith)
          (four p c.commands_number-x.result c.commands_number-x.ensures ∙ ap (λ (k : ℕ). commands_number f.commands.now (4 * k) 4) back
          ∙ command-block f.channels f.words.now f.commands.now level most b (omega arith)) laid
          (p.loop-i.invariant.1 level e)),
    )

pub returns : goal.returns
returns c =
    let a = c.args in
    let f = a.self.now in
    let z : c.loop-i.i ≡ length f.commands.now / 4 = omega arith in
    λ level e.
    subst (λ (i : ℕ). Passed f.channels f.words.now f.commands.now level a.line.now f.channels c.loop-i.line c.loop-i.end (f.channels + i)) z
    (c.loop-i.invariant.1 level e)
