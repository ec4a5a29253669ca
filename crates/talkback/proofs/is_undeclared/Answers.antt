-- `talkback::is_undeclared` meets its contract. Assumes nothing.
use mathlib.Core.Path.{◌≡◌, sym, ap, ◌∙◌}
use mathlib.Core.Bool.{not}
use Prim.Native.Nat.{ℕ, ◌/◌, ◌%◌}
use native.Mathlib.Omega.{arith}
use lib.Dec.{eqb}
use lib.ListN.{get_or}
use Rattle.block.specs.Check.{status_of}
use Rattle.block.proofs.CheckLaws.{status-octet}
use Rattle.talkback.specs.Talkback.{undeclared}
use Rattle.talkback.proofs.is_undeclared.Goals as goal

pub returns : goal.returns
unfolding undeclared
returns c =
    let byte = get_or (status_of c.args.channel c.args.side.now) 2 0 in
    let low : byte % 8 ≡ byte / 1 % 8 = omega arith in
    ap (λ (n : ℕ). not (eqb (n % 8) 2)) (sym (status-octet c.args.side.now c.args.channel 2 (omega arith)))
    ∙ ap (λ (n : ℕ). not (eqb n 2)) low
