-- `madi_read::on_end::channels_on` meets its contract: each turn is a piece of the definition's reading. Assumes nothing.
use mathlib.Core.Path.{◌≡◌, refl, sym, ap, subst, ◌∙◌}
use mathlib.Core.List.{List}
use Prim.Native.Nat.{ℕ, ◌+◌, ◌-◌, ◌<◌}
use native.Mathlib.Numerals.{add-one}
use native.Mathlib.Omega.{arith}
use lib.ListN.{length, take, set, length-set}
use lib.Seq.{take-suc-set}
use Rattle.bits.specs.Row.{Row}
use Rattle.madi_code.specs.Frame.{boundary}
use Rattle.madi_read.specs.Reader.{read_on}
use Rattle.madi_read.specs.Inner.{sofar, row_of, Plain}
use Rattle.madi_read.proofs.Carrying.{length-carried}
use Rattle.madi_read.proofs.Copying.{length-listed}
use Rattle.madi_read.proofs.Onward.{channel-on}
use Rattle.madi_read.proofs.on_end.channels_on.Goals as goal

pub loop-n-preserved : goal.loop-n-preserved
loop-n-preserved c =
    let source = c.args.source.now in
    let all : ℕ = source.channels in
    let r : Row = row_of source in
    let f = c.loop-n.so_far in
    let n : ℕ = c.loop-n.n in
    let word : ℕ = c.in-Some.w in
    let i = c.loop-n.invariant in
    let fits = i.4 in
    let cs : List ℕ = take f.commands f.codes in
    let held : List ℕ = f.words in
    let many : length cs ≡ f.commands = length-listed f.commands f.codes fits.5 fits.2 in
    let h : n < length held = omega (arith, fits.4, source.most) in (
      refl,
      omega arith,
      omega arith,
      i.3,
      (omega arith, omega arith, fits.2, omega arith, length-set held n (word - 2) ∙ fits.4, fits.5),
      ap (λ (t : List ℕ). read_on r all (all + 256 - (n + 1 + length cs)) (sofar (n + 1) (n + 1) cs t))
          (ap (λ (k : ℕ). take k (set held n (word - 2))) (add-one n) ∙ take-suc-set held n (word - 2) h)
          ∙ channel-on r all n cs word (omega arith) (omega arith) (omega (arith, many, fits.2))
          (omega (arith, many, length-carried source.level source.bits source.line.now))
          (subst (λ (k : ℕ). Plain r (boundary n k) word) (sym many) c.in-Some.ensures) (take n held)
          ∙ ap (λ (x : ℕ). read_on r all (all + 256 - (x + length cs)) (sofar x x cs (take x held))) (sym i.0)
          ∙ i.5,
    )
