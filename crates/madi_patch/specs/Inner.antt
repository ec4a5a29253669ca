-- What inner functions of the patch go by. Assumes nothing.
use Rattle.std.specs.Prelude.{◌≡◌, ℕ, ◌≤◌, ◌<◌, List, [], ◌∷◌, leb, length}
use Rattle.answer.specs.Demand.{Demand, Demand.asks}
use Rattle.madi_code.specs.Frame.{counted}
use Rattle.madi_patch.specs.Slot.{Panel, panel}
use Rattle.madi_patch.specs.declared.Lent.{Lent}

-- what was lent
abbrev pub lent : Lent → Panel
lent l = panel l.active l.ins.now l.outs.now l.rows.now l.frame.now

-- the demands that both patches begin with
abbrev pub count_demands : ℕ → ℕ → List Demand
count_demands channels active = asks 2 0 (counted channels) ∷ asks 2 0 (leb 1 active) ∷ asks 2 0 (leb active channels) ∷ []

-- output slot o has an owner and a row, and each active slot an owner and a word
pub record Reaches (p : Panel) (o : ℕ) : Type 0 where
  pub owned : o < length p.outs
  pub rowed : o < length p.rows
  pub owners : p.active ≤ length p.ins
  pub words : p.active ≤ length p.frame

-- each list has an element for each channel
pub record Long (channels : ℕ) (p : Panel) (out verdicts : ℕ) : Type 0 where
  pub within : p.active ≤ channels
  pub of-ins : length p.ins ≡ channels
  pub of-outs : length p.outs ≡ channels
  pub of-rows : length p.rows ≡ channels
  pub of-frame : length p.frame ≡ channels
  pub of-out : out ≡ channels
  pub of-verdicts : verdicts ≡ channels
