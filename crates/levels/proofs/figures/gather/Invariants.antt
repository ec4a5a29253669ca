-- `levels::figures::gather` meets its contract: after i turns the figures are those of the first i samples. Assumes nothing.
use mathlib.Core.Path.{◌≡◌}
use mathlib.Core.List.{List}
use Prim.Native.Nat.{ℕ, ◌*◌, ◌≤◌, ◌<◌, ◌^◌}
use lib.IntN.{ℤ, nat_abs}
use lib.ListN.{take}
use lib.Signed.{mag}
use Rattle.levels.specs.Sheets.{channel_samples, of_samples}
use Rattle.levels.proofs.figures.gather.Given as goal

-- the figures of samples, in the code's variables; the sum grows by less than 2 ^ 31 at a turn
pub record Held (xs : List ℤ) (i : ℕ) (smallest largest total : ℤ) (ends : ℕ) : Type 0 where
  pub low : smallest ≡ of_samples 2 (take i xs)
  pub high : largest ≡ of_samples 3 (take i xs)
  pub all : total ≡ of_samples 5 (take i xs)
  pub all_small : mag total < 2 ^ 31 * i
  pub end : ends ≡ nat_abs (of_samples 6 (take i xs))
  pub few : ends ≤ i

abbrev pub invariant-loop-i : goal.invariant-loop-i
invariant-loop-i l = Held (channel_samples l.c l.samples) l.i l.smallest l.largest l.total l.ends
