-- `madi_read::line_bits::Source::bits_at` meets its contract: the levels against the levels one place earlier. Assumes nothing.
use mathlib.Core.Path.{◌∙◌}
use native.Mathlib.Omega.{arith}
use lib.Pow.{pow_pos}
use Rattle.bits.specs.Row.{odd}
use Rattle.bits.specs.Pack.{symbols}
use Rattle.bits.proofs.Windows.{one_shl}
use Rattle.bits.proofs.Packing.{length-chain, highest}
use Rattle.line.proofs.NrziLaws.{changes-window}
use Rattle.madi_read.proofs.Carrying.{window-carried}
use Rattle.madi_read.proofs.line_bits.Source.bits_at.Goals as goal

pub nonzero_rem-result : goal.nonzero_rem-result
nonzero_rem-result c = rw (one_shl 64 c.args.n (omega arith)) (pow_pos c.args.n)

pub returns : goal.returns
returns c =
    let a = c.args in
    let s = a.self.now in
    rw (one_shl 64 a.n (omega arith), c.levels_at-v.ensures)
    (changes-window (odd s.level) (symbols s.line.now) a.at a.n (omega (arith, s.long, length-chain (highest 8) s.line.now)))
    ∙ window-carried s.level s.bits s.line.now s.long a.at a.n (omega arith)
