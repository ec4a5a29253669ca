-- The sheet: 110 figures, a line of 23 for each of groups 1 to 4, and 18 of refused packets without a group. What an
-- entry makes of it. Assumes nothing.
use Rattle.std.specs.Prelude.{ℕ, ◌+◌, ◌-◌, ◌*◌, ◌^◌, Bool, true, false, ◌&&◌, List, [], ◌∷◌, eqb, leb, get_or, set}
use Rattle.bits.specs.Pick.{pick}
use Rattle.answer.specs.Answer.{Answer}
use Rattle.anc.specs.Dbn.{next_dbn}
use Rattle.replay.specs.declared.Entry.{Entry}
use Rattle.replay.specs.declared.Entry.TheVariants.{Passed, Data, Control, Refused}

-- ---- where each figure stands

abbrev pub line_start : ℕ → ℕ
line_start group = 23 * (group - 1)

-- packets read
abbrev pub read_at : ℕ → ℕ
read_at group = line_start group

-- lanes repaired
abbrev pub lanes_at : ℕ → ℕ
lanes_at group = line_start group + 1

-- packets refused by number n
abbrev pub refused_at : ℕ → ℕ → ℕ
refused_at group n = line_start group + 2 + n

-- 1 where a data packet was read, else 0; and the last DBN of those read
abbrev pub seen_at : ℕ → ℕ
seen_at group = line_start group + 20

abbrev pub last_at : ℕ → ℕ
last_at group = line_start group + 21

abbrev pub breaks_at : ℕ → ℕ
breaks_at group = line_start group + 22

-- refused packets of wrong length or without a DID that is listed, by number n
abbrev pub unlisted_at : ℕ → ℕ
unlisted_at n = 92 + n

-- ---- a break

abbrev pub follows : Answer ℕ → ℕ → Bool
follows (Answer.accepted next) dbn = eqb dbn next
follows (Answer.refused n p) dbn = false

-- 1 where the DBN of a data packet read is not the next after the last one read of its group; none at a first packet,
-- at 0 or after 0
unfoldable pub break_of : (seen last dbn : ℕ) → ℕ
break_of seen last dbn =
    pick (eqb seen 0) 0 (pick (eqb last 0) 0 (pick (eqb dbn 0) 0 (pick (follows (next_dbn last) dbn) 0 1)))

-- ---- what an entry changes: places, and the figure of each then

-- one figure, raised
abbrev pub more : List ℕ → ℕ → ℕ → ℕ × ℕ
more sheet k n = (k, get_or sheet k 0 + n)

unfoldable pub entry_changes : Entry → List ℕ → List (ℕ × ℕ)
entry_changes Passed sheet = []
entry_changes (Data group lanes dbn) sheet =
    more sheet (read_at group) 1 ∷ more sheet (lanes_at group) lanes
    ∷ more sheet (breaks_at group) (break_of (get_or sheet (seen_at group) 0) (get_or sheet (last_at group) 0) dbn)
    ∷ (seen_at group, 1) ∷ (last_at group, dbn) ∷ []
entry_changes (Control group) sheet = more sheet (read_at group) 1 ∷ []
entry_changes (Refused group lanes n) sheet =
    pick (eqb group 0) (more sheet (unlisted_at n) 1 ∷ []) (more sheet (lanes_at group) lanes ∷ more sheet (refused_at group n) 1 ∷ [])

-- no figure would pass 2 ^ 32 - 1
unfoldable pub all_fit : List (ℕ × ℕ) → Bool
all_fit [] = true
all_fit (c ∷ cs) = leb c.1 (2 ^ 32 - 1) && all_fit cs

abbrev pub entry_fits : Entry → List ℕ → Bool
entry_fits entry sheet = all_fit (entry_changes entry sheet)

-- the sheet with these figures
unfoldable pub written : List (ℕ × ℕ) → List ℕ → List ℕ
written [] sheet = sheet
written (c ∷ cs) sheet = written cs (set sheet c.0 c.1)

abbrev pub entered : Entry → List ℕ → List ℕ
entered entry sheet = written (entry_changes entry sheet) sheet

-- ---- a sheet that is accepted: each mark 0 or 1, each last DBN 0 to 255, and 0 where no data packet was read

abbrev pub group_sound : List ℕ → ℕ → Bool
group_sound sheet group =
    pick (eqb (get_or sheet (seen_at group) 0) 0) (eqb (get_or sheet (last_at group) 0) 0)
    (eqb (get_or sheet (seen_at group) 0) 1 && leb (get_or sheet (last_at group) 0) 255)

unfoldable pub marks_sound : List ℕ → Bool
marks_sound sheet = group_sound sheet 1 && group_sound sheet 2 && group_sound sheet 3 && group_sound sheet 4
