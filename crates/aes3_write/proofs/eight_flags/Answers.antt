-- `aes3_write::eight_flags` meets its contract: three octets, their bits woven. Assumes nothing.
use mathlib.Core.Path.{ap, ◌∙◌}
use native.Mathlib.Omega.{arith}
use Rattle.aes3_write.specs.Inner.{spread}
use Rattle.aes3_write.proofs.Flags.{octet-at, eight-laid}
use Rattle.aes3_write.proofs.eight_flags.Goals as goal

pub returns : goal.returns
returns c =
    let v = c.spread_octet-v in
    let u = c.spread_octet-u in
    let d = c.spread_octet-c in
    let a = c.args in (
      eight-laid a.side.now a.channel a.j v.result u.result d.result
          (v.ensures.0 ∙ ap spread (octet-at a.side.now a.channel 0 a.j))
          (u.ensures.0 ∙ ap spread (octet-at a.side.now a.channel 1 a.j))
          (d.ensures.0 ∙ ap spread (octet-at a.side.now a.channel 2 a.j)),
      omega (arith, v.ensures.1, u.ensures.1, d.ensures.1),
    )
