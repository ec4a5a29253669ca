-- `anc::all_coded` meets its contract: what is gathered is 0 exactly if each word passed is coded. Assumes nothing.
use mathlib.Core.Path.{◌≡◌, refl, sym, ◌∙◌}
use mathlib.Core.Bool.{Bool, true, false, ◌&&◌}
use mathlib.Core.List.{List}
use Prim.Native.Nat.{ℕ, ◌+◌, ◌≤◌, ◌<◌}
use native.Mathlib.Numerals.{add-one}
use borrow.Author.Rules.{rules}
use lib.Dec.{eqb}
use lib.ListN.{length, get_or, drop, drop_of_length-le}
use lib.Seq.{drop-cons}
use lib.Bits.{bit_or}
use Rattle.anc.specs.Inner.{coded, all_coded}
use Rattle.bits.proofs.Searches.{or-none}
use Rattle.anc.proofs.all_coded.Goals as goal

and_assoc : (a b c : Bool) → ((a && b) && c) ≡ (a && (b && c))
and_assoc true b c = refl
and_assoc false b c = refl

and-true : (a : Bool) → (a && true) ≡ a
and-true true = refl
and-true false = refl

-- a word more
next : (words : List ℕ) (sum e i : ℕ) → i < length words → eqb e 0 ≡ coded (get_or words i 0)
    → (eqb (bit_or sum e) 0 && all_coded (drop (i + 1) words)) ≡ (eqb sum 0 && all_coded (drop i words))
unfolding all_coded
next words sum e i h q =
    rw (or-none sum e, q, and_assoc (eqb sum 0) (coded (get_or words i 0)) (all_coded (drop (i + 1) words)), drop-cons words i 0 h, add-one i)

all : (words : List ℕ) (sum i : ℕ) → length words ≤ i → (eqb sum 0 && all_coded (drop i words)) ≡ eqb sum 0
unfolding all_coded
all words sum i h = rw (drop_of_length-le words {i = i} h) (and-true (eqb sum 0))

pub loop-w-preserved : goal.loop-w-preserved
loop-w-preserved c = (
  search rules,
  next c.args.words.now c.loop-w.sum c.excess-sum.result c.loop-w.w-index c.loop-w-test.true c.excess-sum.ensures
      ∙ c.loop-w.invariant.1,
)

pub returns : goal.returns
returns c =
    sym (all c.args.words.now c.loop-w.sum c.loop-w.w-index c.loop-w-test.false) ∙ c.loop-w.invariant.1
