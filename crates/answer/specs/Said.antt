-- What a result says: an answer, by document 01's number and place of each refusal. Assumes nothing.
use Rattle.std.specs.Prelude.{ℕ, Ok, Err, Result}
use Rattle.answer.specs.Answer.{Answer, Answer.accepted, Answer.refused}
use Rattle.answer.specs.declared.Refusal.{Refusal}
use Rattle.answer.specs.declared.Refusal.TheVariants.{Length, Range, Sample, Consumer, Crcc, Validity, Preamble, Slot, Parity}
use Rattle.answer.specs.declared.Refusal.TheVariants.{Frame, Group, State, Header, Word, Lane, Checksum, NoStart}
use Rattle.answer.specs.declared.Refusal.TheVariants.{WordLength, Undeclared, FaultMap, Slots, Full, Count}

abbrev pub number_of : Refusal → ℕ
number_of Length = 1
number_of Range = 2
number_of (Sample at) = 3
number_of (Consumer at) = 4
number_of (Crcc at) = 5
number_of (Validity at) = 6
number_of (Preamble at) = 7
number_of (Slot at) = 8
number_of (Parity at) = 9
number_of (Frame at) = 10
number_of (Group at) = 11
number_of (State at) = 12
number_of (Header at) = 13
number_of (Word at) = 14
number_of (Lane at) = 15
number_of (Checksum at) = 16
number_of NoStart = 17
number_of (WordLength at) = 18
number_of (Undeclared at) = 19
number_of (FaultMap at) = 20
number_of Slots = 21
number_of Full = 22
number_of Count = 23

abbrev pub place_of : Refusal → ℕ
place_of Length = 0
place_of Range = 0
place_of (Sample at) = at
place_of (Consumer at) = at
place_of (Crcc at) = at
place_of (Validity at) = at
place_of (Preamble at) = at
place_of (Slot at) = at
place_of (Parity at) = at
place_of (Frame at) = at
place_of (Group at) = at
place_of (State at) = at
place_of (Header at) = at
place_of (Word at) = at
place_of (Lane at) = at
place_of (Checksum at) = at
place_of NoStart = 0
place_of (WordLength at) = at
place_of (Undeclared at) = at
place_of (FaultMap at) = at
place_of Slots = 0
place_of Full = 0
place_of Count = 0

abbrev pub said : {A : Type 0} → Result A Refusal → Answer A
said (Ok value) = accepted value
said (Err r) = refused (number_of r) (place_of r)
