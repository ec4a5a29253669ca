-- `madi_read::line_bits::Source::levels_at` meets its contract: at the start the given level, later the level on the line. Assumes
-- nothing.
use mathlib.Core.Path.{◌≡◌, sym, ap, ap₂, ◌∙◌}
use mathlib.Core.List.{List, ◌∷◌}
use Prim.Native.Nat.{ℕ, ◌+◌, ◌*◌, ◌-◌, ◌%◌, ◌^◌, ◌≤◌}
use native.Mathlib.Omega.{arith}
use lib.Pow.{shl_exact, pow_mono}
use Rattle.bits.specs.Row.{odd}
use Rattle.bits.specs.Window.{window}
use Rattle.bits.specs.Pack.{symbols}
use Rattle.bits.proofs.Digits.{digit-same}
use Rattle.bits.proofs.Windows.{window-lt}
use Rattle.line.specs.Load.{loaded}
use Rattle.line.proofs.LoadLaws.{load-window}
use Rattle.line.proofs.NrziLaws.{before-first, before-later}
use Rattle.madi_read.proofs.line_bits.Source.levels_at.Goals as goal

first-levels : (line : List ℕ) (level n v : ℕ) → level ≤ 1 → n ≤ 40 → v ≡ loaded line 0 n
    → level * 2 ^ n % 2 ^ 64 + v ≡ window (odd level ∷ symbols line) 0 (n + 1)
first-levels line level n v hl hn e =
    ap₂ (λ (x y : ℕ). x + y) (shl_exact {a = level} 1 n 64 (omega arith) (omega arith)) (e ∙ load-window line 0 n (omega arith))
    ∙ ap (λ (x : ℕ). x * 2 ^ n + window (symbols line) 0 n) (sym (digit-same level (omega arith)))
    ∙ before-first (odd level) (symbols line) n

pub overflow_add-result : goal.overflow_add-result
overflow_add-result c =
    let a = c.args in
    let s = a.self.now in
    record {
      fits =
          rw (first-levels s.line.now s.level a.n c.load-v.result s.digital (omega arith) c.load-v.ensures)
          (omega (arith, window-lt (odd s.level ∷ symbols s.line.now) 0 (a.n + 1), pow_mono {i = a.n + 1} {j = 41} (omega arith)));
    }

pub returns-then-at-eq0 : goal.returns-then-at-eq0
returns-then-at-eq0 c =
    let a = c.args in
    let s = a.self.now in
    first-levels s.line.now s.level a.n c.load-v.result s.digital (omega arith) c.load-v.ensures
    ∙ ap (λ (k : ℕ). window (odd s.level ∷ symbols s.line.now) k (a.n + 1)) (sym c.if-at-eq0.true)

pub returns : goal.returns
returns c =
    let a = c.args in
    let s = a.self.now in
    let e : a.at - 1 + 1 ≡ a.at = omega arith in
    rw (c.load.ensures, load-window s.line.now (a.at - 1) (a.n + 1) (omega arith), before-later (odd s.level) (symbols s.line.now) (a.at - 1) (a.n + 1), e)
