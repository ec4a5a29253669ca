-- `madi_write::are_sound` meets its contract: a word that is passed breaks no rule. Assumes nothing.
use mathlib.Core.Path.{◌≡◌}
use mathlib.Core.Bool.{true}
use Prim.Native.Nat.{ℕ, ◌%◌}
use native.Mathlib.Omega.{arith}
use borrow.Author.Tests.{eq-eqb}
use lib.Bits.{bit_or}
use lib.ListN.{length}
use Rattle.std.proofs.Common.{rules, tests}
use Rattle.std.specs.List.{AllWithin}
use Rattle.std.proofs.lemmas.Iterator.{YieldsList-from_slice, cases_from_all}
use Rattle.subframe.specs.Body.{parity_of, even_body}
use Rattle.madi_write.proofs.Checks.{left_in, right-in}
use Rattle.madi_write.proofs.are_sound.Goals as goal

-- a word whose parity and bits 0 and 1 together are 0
neither : (w : ℕ) → bit_or (parity_of w) (w % 4) ≡ 0 → (even_body w ≡ true) × (w % 4 ≡ 0)
neither w e = (eq-eqb (parity_of w) 0 (omega (arith, left_in (parity_of w) (w % 4))), omega (arith, right-in (parity_of w) (w % 4)))

pub returns : goal.returns
returns c = λ e i h.
    let all = cases_from_all _ _ c.all.result (λ w. bit_or (parity_of w) (w % 4) ≡ 0) (λ w. Unit {0}) c.all.ensures.ran
    (YieldsList-from_slice c.args.words.now cc) (λ x q k. search (rules, tests)) (λ x q k. tt) in
    let each : AllWithin (λ w. bit_or (parity_of w) (w % 4) ≡ 0) c.args.words.now 0 (length c.args.words.now) = rw e at all in
    neither _ (each i 0 (omega arith) h)
