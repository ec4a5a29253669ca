-- `madi_read::on_end::commands_on` meets its contract: each turn is a piece of the definition's reading. Assumes nothing.
use mathlib.Core.Path.{◌≡◌, refl, sym, ap, subst, ◌∙◌}
use mathlib.Core.List.{List}
use Prim.Native.Nat.{ℕ, ◌+◌, ◌-◌}
use native.Mathlib.Omega.{arith}
use lib.ListN.{length, take}
use Rattle.bits.specs.Row.{Row}
use Rattle.bits.specs.Window.{window}
use Rattle.madi_code.specs.Frame.{boundary}
use Rattle.madi_code.specs.Groups.{command_of}
use Rattle.madi_read.specs.Reader.{read_on}
use Rattle.madi_read.specs.Inner.{sofar, row_of, Listed}
use Rattle.madi_read.proofs.Carrying.{length-carried}
use Rattle.madi_read.proofs.Copying.{length-listed, listed_next, listed_more}
use Rattle.madi_read.proofs.Onward.{command-on}
use Rattle.madi_read.proofs.on_end.commands_on.Goals as goal

pub loop-s-preserved : goal.loop-s-preserved
loop-s-preserved c =
    let source = c.args.source.now in
    let all : ℕ = source.channels in
    let r : Row = row_of source in
    let f = c.loop-s.so_far in
    let n : ℕ = f.channels in
    let s : ℕ = c.loop-s.s in
    let codes : List ℕ = f.codes in
    let held : List ℕ = take n f.words in
    let k : ℕ = c.in-Some.c in
    let i = c.loop-s.invariant in
    let fits = i.3 in
    let list : Listed s codes = subst (λ (m : ℕ). Listed m codes) i.0 fits.5 in
    let came : length (take s codes) ≡ s = length-listed s codes list (omega arith) in
    let e : command_of (window r (boundary n (length (take s codes))) 10) ≡ k =
    ap (λ (j : ℕ). command_of (window r (boundary n j) 10)) came ∙ sym (c.in-Some.ensures.0 ∙ ap command_of c.bits_at.ensures) in (
      refl,
      i.1,
      omega arith,
      (fits.0, fits.1, omega arith, omega arith, fits.4, listed_more s codes list k (omega arith)),
      ap (λ (cs : List ℕ). read_on r all (all + 256 - (n + length cs)) (sofar n f.active cs held)) (listed_next s codes list k (omega arith))
          ∙ command-on r all n (take s codes) k f.active fits.0 (omega arith)
          (omega (arith, came, length-carried source.level source.bits source.line.now)) c.in-Some.ensures.1 e held
          ∙ ap (λ (m : ℕ). read_on r all (all + 256 - (n + length (take m codes))) (sofar n f.active (take m codes) held)) (sym i.0)
          ∙ i.4,
    )
