-- `block::from_bodies::channel_octets` meets its contract: after m turns n holds the last m of the eight frames. Assumes nothing.
use mathlib.Core.Path.{◌≡◌, sym, ap, ap₂, ◌∙◌}
use mathlib.Core.List.{List}
use Prim.Native.Nat.{ℕ, ◌+◌, ◌-◌, ◌*◌, ◌^◌, ◌<◌}
use native.Mathlib.Omega.{arith}
use lib.ListN.{get_or}
use Rattle.block.specs.Side.{column_bits, column_length}
use Rattle.block.specs.Inner.{number_of, digits_of}
use Rattle.block.proofs.Gathering.{more, gathered-lt, none}
use Rattle.block.proofs.from_bodies.channel_octets.Goals.{After-apart, At-loop-m}
use Rattle.block.proofs.from_bodies.channel_octets.Goals as goal

module _ (c : At-loop-m) where
  abbrev bodies : List ℕ
  bodies = c.args.bodies.now

  abbrev channel : ℕ
  channel = number_of c.args.channel

  abbrev j : ℕ
  j = c.args.j

  abbrev m : ℕ
  m = c.loop-m.m

  abbrev body : ℕ
  body = get_or bodies (2 * (j * 8 + 7 - m) + channel) 0

  -- there is room for one frame more
  room : m < 8 → j < column_length → c.loop-m.n * 2 + digits_of column_bits body < 2 ^ 32
  room h hj =
      omega (
        arith,
        c.loop-m.invariant,
        more bodies channel (j * 8) m column_bits (omega arith) h,
        gathered-lt bodies channel (j * 8 + 8 - (m + 1)) (m + 1) column_bits (omega arith),
      )

pub loop-m-init : goal.loop-m-init
loop-m-init c =
    let a = c.args in
    sym (none column_bits a.bodies.now (number_of a.channel) (a.j * 8 + 8 - 0))

pub overflow_mul-n : goal.overflow_mul-n
overflow_mul-n c = omega (arith, room (goal.at.overflow_mul-n c).At-loop-m (omega arith) (omega arith))

-- what the turn adds
added : (c : After-apart) → c.apart.result ≡ digits_of column_bits (get_or c.args.bodies.now (2 * (c.args.j * 8 + 7 - c.loop-m.m) + number_of c.args.channel) 0)
added c = c.apart.ensures ∙ ap (digits_of column_bits) c.body_at.ensures

pub overflow_add-n : goal.overflow_add-n
overflow_add-n c = omega (arith, added c, room (goal.at.overflow_add-n c).At-loop-m (omega arith) (omega arith))

pub loop-m-preserved : goal.loop-m-preserved
loop-m-preserved c =
    let p = (goal.at.loop-m-preserved c).At-loop-m in
    ap₂ (λ (x y : ℕ). x * 2 + y) p.loop-m.invariant (added c)
    ∙ sym (more (bodies p) (channel p) (j p * 8) (m p) column_bits (omega arith) c.loop-m-test.true)

pub returns : goal.returns
returns c =
    let p = (goal.at.returns c).At-loop-m in
    let e : m p ≡ 8 = omega arith in
    let f : j p * 8 + 8 - 8 ≡ j p * 8 = omega arith in
    rw (e, f) at p.loop-m.invariant
