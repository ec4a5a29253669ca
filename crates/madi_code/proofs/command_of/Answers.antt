-- `madi_code::command_of` meets its contract: ten bits whose first half is none are no command. Assumes nothing.
use mathlib.Core.Path.{◌≡◌, sym, ap, ◌∙◌}
use mathlib.Core.Logic.{◌⊎◌, inl, inr}
use Prim.Native.Nat.{ℕ}
use native.Mathlib.Omega.{arith}
use Rattle.madi_code.specs.Groups.{command_codes, command_code, command_of}
use Rattle.madi_code.specs.declared.Group.{Group}
use Rattle.madi_code.specs.declared.Group.TheVariants.{Data, Half, Nothing}
use Rattle.madi_code.proofs.FrameLaws.{below-is}
use Rattle.madi_code.proofs.GroupLaws.{command-back, no-half}
use Rattle.madi_code.proofs.command_of.Goals as goal

pub returns-then-v-eq-SYNC : goal.returns-then-v-eq-SYNC
unfolding command_code command_codes
returns-then-v-eq-SYNC c =
    sym (below-is 16 (command_of c.args.v) 0 (omega arith) (ap command_of c.if-v-eq-SYNC.true ∙ command-back 0 (omega arith)))

pub returns-in-Half : goal.returns-in-Half
returns-in-Half c = c.listed_command.ensures

pub returns-in-Data : goal.returns-in-Data
returns-in-Data c = rw (no-half c.args.v (λ e. neither _ (c.decode_group.ensures ∙ e) c.in-Data.is))
  where
    neither : (t : Group) → t ≡ Half → ((x : ℕ) × (t ≡ Data x)) ⊎ (t ≡ Nothing) → ⊥
    neither t e (inl (x, d)) = cc
    neither t e (inr n) = cc
