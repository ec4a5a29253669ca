-- The E of sixteen subframes stand in one octet of each channel: where all these octets are 0 no E is set. Assumes nothing.
use mathlib.Core.Path.{◌≡◌, sym}
use mathlib.Core.Bool.{false}
use mathlib.Core.List.{List}
use Prim.Native.Nat.{ℕ, ◌+◌, ◌*◌, ◌/◌, ◌%◌, ◌<◌}
use native.Mathlib.Nat.{zero-div}
use native.Mathlib.Omega.{arith}
use borrow.Author.Tests.{eqb-true, not-false}
use lib.Dec.{eqb}
use lib.ListN.{get_or}
use Rattle.bits.specs.Row.{bit, count}
use Rattle.bits.specs.Listed.{listed}
use Rattle.bits.proofs.Digits.{digit-cases}
use Rattle.answer.proofs.Chains.{none_found}
use Rattle.block.specs.Side.{fault, columns, column_length}
use Rattle.block.specs.Check.{faulty}
use Rattle.block.specs.Inner.{faults_of, some_fault}
use Rattle.block.proofs.BlockLaws.{side-octet}
use Rattle.block.proofs.CheckLaws.{count_none}

-- E of a subframe, by its octet
pub by-octet : (t : List ℕ) (i : ℕ) → i < 384
    → eqb (bit (i / 2 % 8) (get_or t (column_length * (columns * (i % 2) + fault) + i / 16) 0)) 1 ≡ faulty t i
unfolding faulty
by-octet t i h = rw (side-octet t fault i (omega arith) h)

-- none is set of those whose octets are 0
clear : (t : List ℕ) (i : ℕ) → i < 384 → faults_of t 0 (i / 16) + faults_of t 1 (i / 16) ≡ 0 → faulty t i ≡ false
unfolding faulty faults_of
clear t i h z =
    let o : get_or t (column_length * (columns * (i % 2) + fault) + i / 16) 0 ≡ 0 =
    digit-cases (λ (c : ℕ). faults_of t c (i / 16) ≡ 0) (omega arith) (omega arith) (i % 2) (omega arith) in
    rw (side-octet t fault i (omega arith) h, o, zero-div)

-- where no sixteen has an E that is set, none is
pub none-set : (t : List ℕ) → count (listed 0 24 (some_fault t)) ≡ 0 → (i : ℕ) → i < 384 → faulty t i ≡ false
unfolding some_fault
none-set t z i h =
    let none = none_found (some_fault t) 24 24 (sym (count_none (some_fault t) (λ i. i) 24 0 24 z)) (omega arith) in
    clear t i h (eqb-true _ 0 (not-false (eqb (faults_of t 0 (i / 16) + faults_of t 1 (i / 16)) 0) (none (i / 16) (omega arith) (omega arith))))
