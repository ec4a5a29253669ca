-- `madi_code::channel_of` meets its contract: what is left of the channel is what the definition has left. Assumes
-- nothing.
use mathlib.Core.Path.{◌≡◌, refl, sym, ap, ◌∙◌}
use mathlib.Core.Logic.{⊎_elim}
use Prim.Native.Nat.{ℕ, ◌+◌, ◌-◌, ◌*◌, ◌^◌, ◌<◌}
use native.Mathlib.Omega.{arith}
use Rattle.bits.specs.Row.{big_bits}
use Rattle.bits.specs.Window.{window}
use Rattle.madi_code.specs.Groups.{group_of}
use Rattle.madi_code.specs.Channels.{channel_from, channel_of}
use Rattle.madi_code.specs.declared.Group.TheVariants.{Half, Nothing}
use Rattle.madi_code.proofs.GroupLaws.{group-only}
use Rattle.madi_code.proofs.ChannelLaws.{group-inside, channel-more, channel-stop, word-grows, word_fits, four-shl}
use Rattle.madi_code.proofs.channel_of.Goals as goal
use Rattle.madi_code.proofs.channel_of.Goals.{After-decode_group, In-Data}

pub loop-g-init : goal.loop-g-init
unfolding channel_of
loop-g-init c = (omega arith, omega arith, refl)

-- what the code decodes is the definition's group
told : (c : After-decode_group)
    → group_of (window (big_bits 40 c.args.v) (5 * c.loop-g.g) 5) ≡ c.decode_group.result
told c =
    let v = c.args.v in
    let g = c.loop-g.g in
    sym (c.decode_group.ensures ∙ ap group_of (group-inside v g (omega arith)))

data-small : (c : In-Data) → group_of (window (big_bits 40 c.args.v) (5 * c.loop-g.g) 5) ≡ c.decode_group.result → c.in-Data.y < 16
data-small c e = (group-only (window (big_bits 40 c.args.v) (5 * c.loop-g.g) 5) c.in-Data.y (e ∙ c.in-Data.is)).0

pub overflow_add-w : goal.overflow_add-w
overflow_add-w c =
    let x = c.in-Data.y in
    let small = data-small (goal.at.overflow_add-w c).In-Data (told (goal.at.overflow_add-w c).After-decode_group) in
    record { fits = rw (c.from.ensures, four-shl x c.loop-g.g small (omega arith)) (word_fits (c.loop-g.w + x * 2 ^ (4 * c.loop-g.g)) (c.loop-g.g + 1) (omega arith) (word-grows c.loop-g.w x c.loop-g.g small (omega arith))) }

pub returns-in-Half : goal.returns-in-Half
returns-in-Half c =
    let r = big_bits 40 c.args.v in
    let g : ℕ = c.loop-g.g in
    let t = told (goal.at.returns-in-Half c).After-decode_group in
    ⊎_elim (λ (e : c.decode_group.result ≡ Half). sym (channel-stop r g c.loop-g.w (omega arith) Half (t ∙ e) (λ on stop. refl)))
    (λ (e : c.decode_group.result ≡ Nothing). sym (channel-stop r g c.loop-g.w (omega arith) Nothing (t ∙ e) (λ on stop. refl))) c.in-Half.is
    ∙ c.loop-g.invariant.2

pub loop-g-preserved : goal.loop-g-preserved
loop-g-preserved c =
    let x = c.in-Data.y in
    let small = data-small (goal.at.loop-g-preserved c).In-Data (told (goal.at.loop-g-preserved c).After-decode_group) in
    rw (c.from.ensures, four-shl x c.loop-g.g small (omega arith)) (
      omega arith,
      word-grows c.loop-g.w x c.loop-g.g small (omega arith),
      sym (channel-more (big_bits 40 c.args.v) c.loop-g.g c.loop-g.w (omega arith) x (told (goal.at.loop-g-preserved c).After-decode_group ∙ c.in-Data.is)) ∙ c.loop-g.invariant.2,
    )

pub returns : goal.returns
unfolding channel_from
returns c =
    let v = c.args.v in
    let z : 8 - c.loop-g.g ≡ 0 = omega arith in
    sym (ap (λ (n : ℕ). channel_from (big_bits 40 v) n c.loop-g.g c.loop-g.w) z) ∙ c.loop-g.invariant.2
