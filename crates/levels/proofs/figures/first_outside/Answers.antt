-- `levels::figures::first_outside` meets its contract: where both extremes of both channels are in range, all samples are.
-- Assumes nothing.
use mathlib.Core.Path.{◌≡◌, sym, ap, ◌∙◌}
use mathlib.Core.Bool.{true, ◌&&◌}
use mathlib.Core.List.{List}
use Prim.Native.Nat.{ℕ, zero, suc, ◌<◌}
use native.Mathlib.Omega.{arith}
use lib.IntN.{ℤ}
use Rattle.bits.proofs.Tests.{both_true}
use Rattle.subframe.specs.Signed.{in_range}
use Rattle.levels.specs.Sheets.{channel_samples, of_samples}
use Rattle.levels.specs.Inner.{figures_of}
use Rattle.levels.specs.declared.figures.Figures.{Figures}
use Rattle.levels.proofs.Folds.{none-outside, first-searched}
use Rattle.levels.proofs.figures.first_outside.Goals as goal

abbrev Extremes : List ℤ → ℕ → Type 0
Extremes samples c =
    (in_range 24 (of_samples 2 (channel_samples c samples)) ≡ true) × (in_range 24 (of_samples 3 (channel_samples c samples)) ≡ true)

either : (samples : List ℤ) → Extremes samples 0 → Extremes samples 1 → (c : ℕ) → c < 2 → Extremes samples c
either samples a b zero h = a
either samples a b (suc zero) h = b
either samples a b (suc (suc c)) h = absurd (omega arith)

-- what the test of a channel's figures says
told : (samples : List ℤ) (c : ℕ) (f : Figures) → f ≡ figures_of (channel_samples c samples)
    → true ≡ (in_range 24 f.smallest && in_range 24 f.largest) → Extremes samples c
told samples c f e t = both_true _ _ (sym (t ∙ ap (λ (g : Figures). in_range 24 g.smallest && in_range 24 g.largest) e))

pub returns-then-are_in_range-2 : goal.returns-then-are_in_range-2
returns-then-are_in_range-2 c =
    let s = c.args.samples.now in
    none-outside s (either s (told s 0 c.args.a c.requires.0 c.if-are_in_range.ensures) (told s 1 c.args.b c.requires.1 c.if-are_in_range-2.ensures))

pub returns : goal.returns
returns c = c.search.ensures ∙ first-searched c.args.samples.now c.told-samples
