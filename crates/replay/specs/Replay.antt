-- The replay of a file from a sheet: the records that are counted, the figures after them, how it ends; and the same
-- for one record from the octets that there were of it. Assumes nothing.
use Rattle.std.specs.Prelude.{ℕ, Bool, true, false, ◌&&◌, List, [], ◌∷◌, eqb, length, replicate}
use Rattle.bits.specs.Pick.{pick}
use Rattle.answer.specs.Answer.{Answer, Answer.accepted, mapped, after}
use Rattle.answer.specs.Said.{said}
use Rattle.answer.specs.Demand.{Demand, Demand.asks, provided}
use Rattle.records.specs.Head.{turn_of}
use Rattle.records.specs.declared.Turn.{Turn}
use Rattle.records.specs.declared.Turn.TheVariants.{End as TurnEnd, Cut as TurnCut, Long as TurnLong, Record}
use Rattle.replay.specs.File.{records_of, octets_in, file_stop}
use Rattle.replay.specs.Packet.{entry_of}
use Rattle.replay.specs.Sheet.{entry_fits, entered, marks_sound}
use Rattle.replay.specs.declared.Replayed.{Replayed}
use Rattle.replay.specs.declared.Stop.{Stop}
use Rattle.replay.specs.declared.Stop.TheVariants.{End as StopEnd, Long as StopLong, Cut as StopCut}
use Rattle.replay.specs.declared.Next.{Next}
use Rattle.replay.specs.declared.Next.TheVariants.{Going, End, Long, Cut, Full}

-- ---- records

-- the sheet with one record more, and with several
abbrev pub with_record : List ℕ → List ℕ → List ℕ
with_record sheet r = entered (entry_of r) sheet

unfoldable pub figures_after : List ℕ → List (List ℕ) → List ℕ
figures_after sheet [] = sheet
figures_after sheet (r ∷ rs) = figures_after (with_record sheet r) rs

-- a record has room in a sheet
abbrev pub room_for : List ℕ → List ℕ → Bool
room_for sheet r = entry_fits (entry_of r) sheet

-- the records that are counted: those before the first that has no room
unfoldable pub records_counted : List ℕ → List (List ℕ) → List (List ℕ)
records_counted sheet [] = []
records_counted sheet (r ∷ rs) = pick (room_for sheet r) (r ∷ records_counted (with_record sheet r) rs) []

-- all have room
unfoldable pub all_counted : List ℕ → List (List ℕ) → Bool
all_counted sheet [] = true
all_counted sheet (r ∷ rs) = pick (room_for sheet r) (all_counted (with_record sheet r) rs) false

-- ---- a file

-- the octets of the records that are counted, and the figures after them
unfoldable pub taken_of : List ℕ → List ℕ → ℕ
taken_of octets sheet = octets_in (records_counted sheet (records_of octets))

unfoldable pub replay_figures : List ℕ → List ℕ → List ℕ
replay_figures octets sheet = figures_after sheet (records_counted sheet (records_of octets))

-- how it ends
unfoldable pub replay_end : List ℕ → List ℕ → Next
replay_end octets sheet = pick (all_counted sheet (records_of octets)) (file_stop octets) Full

-- as a number; a replay that is refused has none
abbrev pub stop_number : Next → ℕ
stop_number Going = 0
stop_number End = 0
stop_number Long = 1
stop_number Cut = 2
stop_number Full = 0

-- 110 figures (1), marks and last DBNs (2), room for all records (23)
abbrev pub replay_demands : List ℕ → List ℕ → List Demand
replay_demands octets sheet =
    asks 1 0 (eqb (length sheet) 110) ∷ asks 2 0 (marks_sound sheet) ∷ asks 23 0 (all_counted sheet (records_of octets)) ∷ []

-- the stop and the figures
unfoldable pub replay_answer : List ℕ → List ℕ → Answer (ℕ × List ℕ)
replay_answer octets sheet =
    provided (replay_demands octets sheet) (accepted (stop_number (file_stop octets), replay_figures octets sheet))

abbrev pub stop_told : ℕ × List ℕ → ℕ
stop_told v = v.0

abbrev pub figures_told : ℕ × List ℕ → List ℕ
figures_told v = v.1

-- the lent sheet afterwards: the figures, or on a refusal what stood there
abbrev pub sheet_after : List ℕ → List ℕ → List ℕ
sheet_after octets sheet = after figures_told (replay_answer octets sheet) sheet

-- beside the answer, also where it is 23: octets and figures; for a sheet that is refused zeros
abbrev pub begun : List ℕ → Bool
begun sheet = eqb (length sheet) 110 && marks_sound sheet

unfoldable pub taken_told : List ℕ → List ℕ → ℕ
taken_told octets sheet = pick (begun sheet) (taken_of octets sheet) 0

unfoldable pub figures_handed : List ℕ → List ℕ → List ℕ
figures_handed octets sheet = pick (begun sheet) (replay_figures octets sheet) (replicate 110 0)

-- the whole answer, and what is beside it
unfoldable pub replay_told : List ℕ → List ℕ → Answer ℕ × ℕ × List ℕ
replay_told octets sheet = (mapped stop_told (replay_answer octets sheet), taken_told octets sheet, figures_handed octets sheet)

-- what the struct says
abbrev pub stop_code : Stop → ℕ
stop_code StopEnd = 0
stop_code StopLong = 1
stop_code StopCut = 2

abbrev pub replay_said : Replayed → Answer ℕ × ℕ × List ℕ
replay_said r = (mapped stop_code (said r.stop), r.taken, r.figures)

-- ---- one record, from the octets that there were of its header and of its body

abbrev pub next_for : Turn → Bool → Next
next_for (TurnEnd n) room = End
next_for (TurnCut n) room = Cut
next_for (TurnLong n) room = Long
next_for (Record n) room = pick room Going Full

unfoldable pub next_of : List ℕ → List ℕ → List ℕ → Next
next_of sheet head body = next_for (turn_of 0 head (length body)) (room_for sheet body)

-- only a record that is counted changes the sheet
abbrev pub sheet_for : Next → List ℕ → List ℕ → List ℕ
sheet_for Going old new = new
sheet_for End old new = old
sheet_for Long old new = old
sheet_for Cut old new = old
sheet_for Full old new = old

unfoldable pub sheet_stepped : List ℕ → List ℕ → List ℕ → List ℕ
sheet_stepped sheet head body = sheet_for (next_of sheet head body) sheet (with_record sheet body)
