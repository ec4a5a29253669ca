-- The patch by the lease table. Assumes nothing.
use Rattle.std.specs.Prelude.{ℕ, List, [], ◌∷◌, eqb, leb, length, take}
use Rattle.answer.specs.Answer.{Answer, after}
use Rattle.answer.specs.Demand.{Demand, Demand.asks, provided}
use Rattle.madi_code.specs.Frame.{counted}
use Rattle.madi_patch.specs.Slot.{Panel, panel}
use Rattle.madi_patch.specs.Patch.{Patched, frame_of, verdicts_of, patch_answer}

-- both ownership tables are the lease table, cut to the channel count; a free slot, 0, is the house's
abbrev pub leased_panel : ℕ → ℕ → List ℕ → List ℕ → List ℕ → Panel
leased_panel channels active leases rows frame = panel active (take channels leases) (take channels leases) rows frame

-- 56 or 64 channels, of which at least one is active (2); a lease table of 64 slots (1)
abbrev pub leased_demands : ℕ → ℕ → List ℕ → List Demand
leased_demands channels active leases =
    asks 2 0 (counted channels) ∷ asks 2 0 (leb 1 active) ∷ asks 2 0 (leb active channels) ∷ asks 1 0 (eqb (length leases) 64) ∷ []

module _ (channels active : ℕ) (leases rows frame : List ℕ) where
  -- then as by two tables, the other lengths (1) among it
  unfoldable pub leased_answer : ℕ → ℕ → Answer Patched
  leased_answer out verdicts =
      provided (leased_demands channels active leases) (patch_answer channels (leased_panel channels active leases rows frame) out verdicts)

  -- what the two lists hold afterwards
  abbrev pub leased_frame : List ℕ → List ℕ → List ℕ
  leased_frame old-frame old-verdicts = after frame_of (leased_answer (length old-frame) (length old-verdicts)) old-frame

  abbrev pub leased_verdicts : List ℕ → List ℕ → List ℕ
  leased_verdicts old-frame old-verdicts = after verdicts_of (leased_answer (length old-frame) (length old-verdicts)) old-verdicts
