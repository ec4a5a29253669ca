-- The use that is asked for is the one that the meaning of status calls coordination. Assumes nothing.
use mathlib.Core.Path.{◌≡◌, ap, ◌∙◌}
use mathlib.Core.Bool.{false, not}
use mathlib.Core.List.{List}
use Prim.Native.Nat.{ℕ}
use borrow.Author.Tests.{eq-eqb, eqb-true, not-false}
use lib.Dec.{eqb}
use lib.ListN.{get_or}
use Rattle.status.specs.Meaning.{field, auxiliary_of}
use Rattle.status.specs.declared.Auxiliary.TheVariants.{Coordination}
use Rattle.status.proofs.Coordination.{state-coordination, coordination-state}
use Rattle.block.specs.Check.{status_of}
use Rattle.talkback.specs.Talkback.{undeclared}

module _ (side : List ℕ) (channel : ℕ) where
  -- byte 2 bits 2, 1, 0 of the channel's status
  abbrev state : ℕ
  state = field 0 3 (get_or (status_of channel side) 2 0)

  pub declared-is-coordination : undeclared side channel ≡ false → auxiliary_of state ≡ Coordination
  unfolding undeclared
  declared-is-coordination e = ap auxiliary_of (eqb-true state 0b010 (not-false (eqb state 0b010) e)) ∙ state-coordination

  pub coordination-is-declared : auxiliary_of state ≡ Coordination → undeclared side channel ≡ false
  unfolding undeclared
  coordination-is-declared e = ap not (eq-eqb state 0b010 (coordination-state state e))
