-- A patched frame: what a call answers, and what the two lists that are lent to be written then hold. Assumes nothing.
use Rattle.std.specs.Prelude.{ℕ, Bool, true, ◌&&◌, List, [], ◌∷◌, eqb, leb, length}
use Rattle.bits.specs.Listed.{listed}
use Rattle.answer.specs.Answer.{Answer, Answer.accepted, after}
use Rattle.answer.specs.Demand.{Demand, Demand.asks, provided}
use Rattle.madi_code.specs.Frame.{counted}
use Rattle.madi_patch.specs.Slot.{Panel, slot_octet, slot_word}

-- the frame out, and a verdict for each of its slots; no total
pub record Patched : Type 0 where
  pub words : List ℕ
  pub octets : List ℕ

unfoldable pub patched : ℕ → Panel → Patched
patched channels p = record { words = listed 0 channels (slot_word p); octets = listed 0 channels (slot_octet p) }

abbrev pub frame_of : Patched → List ℕ
frame_of made = made.words

abbrev pub verdicts_of : Patched → List ℕ
verdicts_of made = made.octets

-- ---- the answer

-- each length is the channel count
abbrev pub as_long : ℕ → List ℕ → Bool
as_long channels [] = true
as_long channels (n ∷ ns) = eqb n channels && as_long channels ns

-- 56 or 64 channels, of which at least one is active (2); every table and frame as long as the channel count (1)
abbrev pub patch_demands : ℕ → Panel → ℕ → ℕ → List Demand
patch_demands channels p out verdicts =
    asks 2 0 (counted channels) ∷ asks 2 0 (leb 1 p.active) ∷ asks 2 0 (leb p.active channels)
    ∷ asks 1 0 (as_long channels (length p.ins ∷ length p.outs ∷ length p.rows ∷ length p.frame ∷ out ∷ verdicts ∷ [])) ∷ []

-- with a frame out and a list of verdicts of these lengths
unfoldable pub patch_answer : ℕ → Panel → ℕ → ℕ → Answer Patched
patch_answer channels p out verdicts = provided (patch_demands channels p out verdicts) (accepted (patched channels p))

-- what the two lists hold afterwards
module _ (channels : ℕ) (p : Panel) (old-frame old-verdicts : List ℕ) where
  abbrev pub frame_after : List ℕ
  frame_after = after frame_of (patch_answer channels p (length old-frame) (length old-verdicts)) old-frame

  abbrev pub verdicts_after : List ℕ
  verdicts_after = after verdicts_of (patch_answer channels p (length old-frame) (length old-verdicts)) old-verdicts
