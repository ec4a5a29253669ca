-- A result says an answer in one way only, so a contract that gives what is said gives the result. Assumes nothing.
use mathlib.Core.Path.{◌≡◌, refl, sym, ap, ◌∙◌}
use mathlib.Core.List.{List, [], ◌∷◌}
use Prim.Native.Nat.{ℕ}
use lib.Dec.{eqb}
use Rattle.std.specs.Prelude.{Ok, Err, Result}
use Rattle.bits.specs.Pick.{pick}
use Rattle.answer.specs.Answer.{Answer, Answer.accepted, Answer.refused, mapped}
use Rattle.answer.specs.Said.{number_of, place_of, said}
use Rattle.answer.specs.declared.Refusal.{Refusal}
use Rattle.answer.specs.declared.Refusal.TheVariants.{Length, Range, Sample, Consumer, Crcc, Validity, Preamble, Slot, Parity}
use Rattle.answer.specs.declared.Refusal.TheVariants.{Frame, Group, State, Header, Word, Lane, Checksum, NoStart}
use Rattle.answer.specs.declared.Refusal.TheVariants.{WordLength, Undeclared, FaultMap, Slots, Full, Count}

-- the refusal of a number and a place; beyond the table any
refusal_at : ℕ → ℕ → Refusal
refusal_at n at =
    pick (eqb n 1) Length (
    pick (eqb n 2) Range (
    pick (eqb n 3) (Sample at) (
    pick (eqb n 4) (Consumer at) (
    pick (eqb n 5) (Crcc at) (
    pick (eqb n 6) (Validity at) (
    pick (eqb n 7) (Preamble at) (
    pick (eqb n 8) (Slot at) (
    pick (eqb n 9) (Parity at) (
    pick (eqb n 10) (Frame at) (
    pick (eqb n 11) (Group at) (
    pick (eqb n 12) (State at) (
    pick (eqb n 13) (Header at) (
    pick (eqb n 14) (Word at) (
    pick (eqb n 15) (Lane at) (
    pick (eqb n 16) (Checksum at) (
    pick (eqb n 17) NoStart (
    pick (eqb n 18) (WordLength at) (
    pick (eqb n 19) (Undeclared at) (
    pick (eqb n 20) (FaultMap at) (
    pick (eqb n 21) Slots (
    pick (eqb n 22) Full (
    Count))))))))))))))))))))))

comes-back : (r : Refusal) → refusal_at (number_of r) (place_of r) ≡ r
unfolding refusal_at
comes-back Length = refl
comes-back Range = refl
comes-back (Sample at) = refl
comes-back (Consumer at) = refl
comes-back (Crcc at) = refl
comes-back (Validity at) = refl
comes-back (Preamble at) = refl
comes-back (Slot at) = refl
comes-back (Parity at) = refl
comes-back (Frame at) = refl
comes-back (Group at) = refl
comes-back (State at) = refl
comes-back (Header at) = refl
comes-back (Word at) = refl
comes-back (Lane at) = refl
comes-back (Checksum at) = refl
comes-back NoStart = refl
comes-back (WordLength at) = refl
comes-back (Undeclared at) = refl
comes-back (FaultMap at) = refl
comes-back Slots = refl
comes-back Full = refl
comes-back Count = refl

refusal-once : (p q : Refusal) → number_of p ≡ number_of q → place_of p ≡ place_of q → p ≡ q
refusal-once p q n k =
    let same : refusal_at (number_of p) (place_of p) ≡ refusal_at (number_of q) (place_of q) = cc in
    sym (comes-back p) ∙ (same ∙ comes-back q)

pub said-once : {A : Type 0} (a b : Result A Refusal) → said a ≡ said b → a ≡ b
said-once (Ok v) (Ok w) e = cc
said-once (Ok v) (Err q) e = cc
said-once (Err p) (Ok w) e = cc
said-once (Err p) (Err q) e =
    let n : number_of p ≡ number_of q = cc in
    let k : place_of p ≡ place_of q = cc in
    ap Err (refusal-once p q n k)

-- the same where an answer gives what f makes of the value, and f loses nothing
pub said-once-by : {A B : Type 0} (f : A → B) → ((v w : A) → f v ≡ f w → v ≡ w) → (a b : Result A Refusal)
    → mapped f (said a) ≡ mapped f (said b) → a ≡ b
said-once-by f once (Ok v) (Ok w) e =
    let same : f v ≡ f w = cc in
    ap Ok (once v w same)
said-once-by f once (Ok v) (Err q) e = cc
said-once-by f once (Err p) (Ok w) e = cc
said-once-by f once (Err p) (Err q) e = said-once (Err p) (Err q) cc
