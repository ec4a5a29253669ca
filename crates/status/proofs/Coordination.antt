-- The one state of byte 2 bits 2, 1, 0 that says coordination. Assumes nothing.
use mathlib.Core.Path.{◌≡◌, refl}
use mathlib.Core.List.{List, [], ◌∷◌}
use Prim.Native.Nat.{ℕ}
use borrow.Author.Tests.{eqb-true}
use lib.Dec.{eqb}
use Rattle.bits.proofs.Tests.{pick-cases}
use Rattle.status.specs.Meaning.{in_table, auxiliary_of}
use Rattle.status.specs.declared.Auxiliary.{Auxiliary}
use Rattle.status.specs.declared.Auxiliary.TheVariants as auxiliary

pub state-coordination : auxiliary_of 0b010 ≡ auxiliary.Coordination
unfolding auxiliary_of in_table
state-coordination = refl

-- no other row says it, and no state without a row
pub coordination-state : (x : ℕ) → auxiliary_of x ≡ auxiliary.Coordination → x ≡ 0b010
unfolding auxiliary_of in_table
coordination-state x =
    let Says : Auxiliary → Type 0 = λ a. a ≡ auxiliary.Coordination → x ≡ 0b010 in
    let users : List (ℕ × Auxiliary) = (0b110, auxiliary.UserDefined) ∷ [] in
    let coordinations : List (ℕ × Auxiliary) = (0b010, auxiliary.Coordination) ∷ users in
    let mains : List (ℕ × Auxiliary) = (0b100, auxiliary.MainAudio) ∷ coordinations in
    pick-cases Says (eqb x 0b000) auxiliary.NotDefined (in_table mains (auxiliary.Reserved x) x) (λ t e. cc)
    (λ f. pick-cases Says (eqb x 0b100) auxiliary.MainAudio (in_table coordinations (auxiliary.Reserved x) x) (λ t e. cc)
    (λ g. pick-cases Says (eqb x 0b010) auxiliary.Coordination (in_table users (auxiliary.Reserved x) x) (λ t e. eqb-true x 0b010 t)
    (λ h. pick-cases Says (eqb x 0b110) auxiliary.UserDefined (auxiliary.Reserved x) (λ t e. cc) (λ k e. cc))))
