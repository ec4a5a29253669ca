-- `codes::fill_checks` meets its contract. Assumes nothing.
use mathlib.Core.Path.{◌≡◌, sym, ap, ◌∙◌}
use mathlib.Core.List.{List, ◌++◌, append-nil}
use Prim.Native.Nat.{ℕ}
use native.Mathlib.Omega.{arith}
use borrow.Author.Tests.{eq-eqb, ne_eqb}
use borrow.Rule.Slice.PartMut.{put_mid}
use lib.ListN.{length, take, drop, drop_of_length-le, length-drop}
use Rattle.codes.specs.Lanes.{check_octets}
use Rattle.codes.specs.Inner.{with_checks}
use Rattle.codes.proofs.fill_checks.Goals as goal

-- the last six of 30 octets
placed : (os cs : List ℕ) → length os ≡ 30 → cs ≡ check_octets (take 24 os) → put_mid 24 6 os cs ≡ with_checks os
unfolding with_checks
placed os cs h e =
    ap (λ (l : List ℕ). take 24 os ++ l)
    (ap (λ (l : List ℕ). cs ++ l) (drop_of_length-le (drop 24 os) {i = 6} (omega (arith, length-drop 24 os))) ∙ append-nil cs ∙ e)
    ∙ sym (rw (eq-eqb (length os) 30 h))

pub returns-in-Some : goal.returns-in-Some
returns-in-Some c =
    let chunk = c.in-Some.ensures.cases in
    placed c.in-Some.octets.now c.copy_from_slice.new.self (ap length chunk.same ∙ chunk.long) (c.copy_from_slice.ensures.after ∙ c.checks-checks.ensures)
    ∙ ap with_checks chunk.same

pub returns-in_default : goal.returns-in_default
unfolding with_checks
returns-in_default c = rw (ne_eqb (length c.args.octets.now) 30 c.in_default.ensures.cases)
