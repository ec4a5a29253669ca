-- What only the functions inside need. Assumes nothing.
use Rattle.std.specs.Prelude.{ℕ, ◌+◌, ◌≤◌, ◌<◌, Bool, true, false, List, [], ◌∷◌, get_or}
use Rattle.bits.specs.Pick.{pick}
use Rattle.replay.specs.Sheet.{break_of, more, all_fit, written}
use Rattle.replay.specs.declared.Entry.{Entry}
use Rattle.replay.specs.declared.Entry.TheVariants.{Passed, Data, Control, Refused}
use Rattle.replay.specs.declared.Next.{Next}
use Rattle.replay.specs.declared.Next.TheVariants.{Going, End, Long, Cut, Full}

-- an entry whose group has a line, whose DBN is one, and whose number has a place
abbrev pub ProperEntry : Entry → Type 0
ProperEntry Passed = Unit {0}
ProperEntry (Data group lanes dbn) = (1 ≤ group) × (group ≤ 4) × (dbn ≤ 255)
ProperEntry (Control group) = (1 ≤ group) × (group ≤ 4)
ProperEntry (Refused group lanes n) = (group ≤ 4) × (n < 18)

-- the sheet with changes that all fit, or as it was
unfoldable pub changed : List (ℕ × ℕ) → List ℕ → List ℕ
changed cs sheet = pick (all_fit cs) (written cs sheet) sheet

-- the changes of a packet that was refused, and of a data packet that was read, by places
abbrev pub refused_changes : List ℕ → ℕ → ℕ → ℕ → List (ℕ × ℕ)
refused_changes sheet a lanes b = more sheet a lanes ∷ more sheet b 1 ∷ []

abbrev pub data_places : ℕ → ℕ → ℕ → ℕ → ℕ → List (ℕ × ℕ)
data_places start read lanes breaks dbn = (start, read) ∷ (start + 1, lanes) ∷ (start + 22, breaks) ∷ (start + 20, 1) ∷ (start + 21, dbn) ∷ []

abbrev pub data_changes : List ℕ → ℕ → ℕ → ℕ → List (ℕ × ℕ)
data_changes sheet start lanes dbn =
    data_places start (get_or sheet start 0 + 1) (get_or sheet (start + 1) 0 + lanes)
    (get_or sheet (start + 22) 0 + break_of (get_or sheet (start + 20) 0) (get_or sheet (start + 21) 0) dbn) dbn

-- it goes on; it is full
abbrev pub goes : Next → Bool
goes Going = true
goes End = false
goes Long = false
goes Cut = false
goes Full = false

abbrev pub full : Next → Bool
full Going = false
full End = false
full Long = false
full Cut = false
full Full = true
