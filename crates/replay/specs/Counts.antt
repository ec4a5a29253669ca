-- Packets counted from the file: those offered to a group, those of them read, those refused, by each number. Assumes
-- nothing.
use Rattle.std.specs.Prelude.{ℕ, zero, suc, ◌+◌, Bool, false, ◌&&◌, List, [], ◌∷◌, eqb, get_or}
use Rattle.bits.specs.Row.{digit}
use Rattle.bits.specs.Pick.{pick}
use Rattle.replay.specs.Packet.{entry_of}
use Rattle.replay.specs.declared.Entry.{Entry}
use Rattle.replay.specs.declared.Entry.TheVariants.{Passed, Data, Control, Refused}

-- how many of some records enter what has a property
unfoldable pub count_in : (Entry → Bool) → List (List ℕ) → ℕ
count_in p [] = 0
count_in p (r ∷ rs) = digit (p (entry_of r)) + count_in p rs

-- a packet of this group
abbrev pub offered_to : ℕ → Entry → Bool
offered_to group Passed = false
offered_to group (Data g lanes dbn) = eqb g group
offered_to group (Control g) = eqb g group
offered_to group (Refused g lanes n) = eqb g group

abbrev pub read_of : ℕ → Entry → Bool
read_of group Passed = false
read_of group (Data g lanes dbn) = eqb g group
read_of group (Control g) = eqb g group
read_of group (Refused g lanes n) = false

abbrev pub refused_of : ℕ → ℕ → Entry → Bool
refused_of group number Passed = false
refused_of group number (Data g lanes dbn) = false
refused_of group number (Control g) = false
refused_of group number (Refused g lanes n) = eqb g group && eqb n number

abbrev pub refused_any : ℕ → Entry → Bool
refused_any group Passed = false
refused_any group (Data g lanes dbn) = false
refused_any group (Control g) = false
refused_any group (Refused g lanes n) = eqb g group

-- the records that are packets of this group, in their order
unfoldable pub packets_of : ℕ → List (List ℕ) → List (List ℕ)
packets_of group [] = []
packets_of group (r ∷ rs) = pick (offered_to group (entry_of r)) (r ∷ packets_of group rs) (packets_of group rs)

-- the sum of the n figures of a sheet from place k on
unfoldable pub figures_sum : List ℕ → ℕ → ℕ → ℕ
figures_sum sheet k zero = 0
figures_sum sheet k (suc n) = get_or sheet k 0 + figures_sum sheet (suc k) n
