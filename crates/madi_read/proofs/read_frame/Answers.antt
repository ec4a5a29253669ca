-- `madi_read::read_frame` meets its contract: each way out is a demand of the definition, and then the frame. Assumes
-- nothing.
use mathlib.Core.Path.{◌≡◌, refl, sym, ◌∙◌}
use mathlib.Core.Bool.{Bool, true, false, ◌&&◌}
use mathlib.Core.List.{List, ◌∷◌}
use Prim.Native.Nat.{ℕ, ◌+◌, ◌/◌}
use native.Mathlib.Omega.{arith}
use borrow.Author.Tests.{leb-true, eqb-true}
use lib.Dec.{eqb, leb}
use lib.ListN.{length}
use Rattle.bits.proofs.Tests.{both_true, no-yes}
use Rattle.answer.specs.Answer.{Answer.refused, mapped, after}
use Rattle.answer.specs.Demand.{Demand, Demand.asks, Stops, AllMet, ◌&◌}
use Rattle.answer.specs.Demand.Stops.{fails, later}
use Rattle.answer.proofs.Chains.{passing, stopped}
use Rattle.madi_code.specs.Frame.{counted}
use Rattle.madi_code.proofs.FrameLaws.{counted-le}
use Rattle.madi_read.specs.Reader.{carried, row_read, read_demands, frame_read, counts_of, words_of, commands_of}
use Rattle.madi_read.proofs.read_frame.Goals as goal
use Rattle.madi_read.proofs.read_frame.Goals.{Start, Else-not-lengths_right, Else-not-numbers_right}

abbrev demands : Start → List Demand
demands s =
    read_demands s.args.channels s.args.level s.args.bits s.args.line.now (length s.args.words.now) (length s.args.commands.now)

-- a way out by a demand that is not met
refuses : (s : Start) {number place : ℕ} → Stops (demands s) number place
    → (refused number place ≡ mapped counts_of (frame_read s.args.channels s.args.level s.args.bits s.args.line.now (length s.args.words.now) (length s.args.commands.now)))
    × ((s.args.words.now ≡ after words_of (frame_read s.args.channels s.args.level s.args.bits s.args.line.now (length s.args.words.now) (length s.args.commands.now)) s.args.words.now)
    × (s.args.commands.now ≡ after commands_of (frame_read s.args.channels s.args.level s.args.bits s.args.line.now (length s.args.words.now) (length s.args.commands.now)) s.args.commands.now))
unfolding frame_read
refuses s stop = rw (stopped (row_read (carried s.args.level s.args.bits s.args.line.now) s.args.channels) stop) (refl, (refl, refl))

-- one of three demands with the same refusal is not met
one-fails : (number : ℕ) (a b c : Bool) (ds : List Demand) → (a && (b && c)) ≡ false → Stops (asks number 0 a ∷ asks number 0 b ∷ asks number 0 c ∷ ds) number 0
one-fails number false b c ds e = fails refl
one-fails number true false c ds e = later refl (fails refl)
one-fails number true true false ds e = later refl (later refl (fails refl))
one-fails number true true true ds e = no-yes true e refl

numbers : (c : Else-not-numbers_right) → let a = c.args in
    (counted a.channels ≡ true) × (leb a.level 1 ≡ true) × (leb a.bits 5110 ≡ true)
numbers c =
    let h = both_true _ _ (sym c.numbers_right.ensures ∙ c.if-not-numbers_right.false) in
    let k = both_true _ _ h.1 in
    (h.0, k.0, k.1)

lengths : (c : Else-not-lengths_right) → let a = c.args in
    (eqb (length a.line.now) ((a.bits + 7) / 8) ≡ true) × (eqb (length a.words.now) a.channels ≡ true)
    × (eqb (length a.commands.now) 255 ≡ true)
lengths c =
    let h = both_true _ _ (sym c.lengths_right.ensures ∙ c.if-not-lengths_right.false) in
    let k = both_true _ _ h.1 in
    (h.0, k.0, k.1)

pub returns-then-not-numbers_right : goal.returns-then-not-numbers_right
returns-then-not-numbers_right c =
    let both = refuses (goal.at.returns-then-not-numbers_right c).Start (one-fails 2 _ _ _ _ (sym c.numbers_right.ensures ∙ c.if-not-numbers_right.true)) in
    record { result_value = both.0; words_after = both.1.0; commands_after = both.1.1 }

pub returns-then-not-lengths_right : goal.returns-then-not-lengths_right
returns-then-not-lengths_right c =
    let n = numbers (goal.at.returns-then-not-lengths_right c).Else-not-numbers_right in
    let both = refuses (goal.at.returns-then-not-lengths_right c).Start
    (later n.0 (later n.1 (later n.2 (one-fails 1 _ _ _ _ (sym c.lengths_right.ensures ∙ c.if-not-lengths_right.true))))) in
    record { result_value = both.0; words_after = both.1.0; commands_after = both.1.1 }

pub spare_zero-requires : goal.spare_zero-requires
spare_zero-requires c = (leb-true _ 5110 (numbers (goal.at.spare_zero-requires c).Else-not-numbers_right).2, eqb-true _ _ (lengths c).0)

pub returns-then-not-spare_zero : goal.returns-then-not-spare_zero
returns-then-not-spare_zero c =
    let l = lengths (goal.at.returns-then-not-spare_zero c).Else-not-lengths_right in
    let n = numbers (goal.at.returns-then-not-spare_zero c).Else-not-numbers_right in
    let both = refuses (goal.at.returns-then-not-spare_zero c).Start
    (later n.0 (later n.1 (later n.2 (later l.0 (later l.1 (later l.2 (fails (sym c.spare_zero.ensures ∙ c.if-not-spare_zero.true)))))))) in
    record { result_value = both.0; words_after = both.1.0; commands_after = both.1.1 }

pub invariant_of-source : goal.invariant_of-source
invariant_of-source c =
    let n = numbers (goal.at.invariant_of-source c).Else-not-numbers_right in
    let octets = eqb-true _ _ (lengths (goal.at.invariant_of-source c).Else-not-lengths_right).0 in
    record {
      digital = leb-true _ 1 n.1;
      short = leb-true _ 5110 n.2;
      long = omega (arith, octets);
      most = counted-le _ n.0;
      means = c.meanings.ensures;
    }

pub read_checked-requires : goal.read_checked-requires
read_checked-requires c =
    let l = lengths (goal.at.read_checked-requires c).Else-not-lengths_right in
    (eqb-true _ _ l.1, eqb-true _ 255 l.2)

pub returns : goal.returns
unfolding frame_read
returns c =
    let l = lengths (goal.at.returns c).Else-not-lengths_right in
    let n = numbers (goal.at.returns c).Else-not-numbers_right in
    let s = (goal.at.returns c).Start in
    let m : AllMet (demands s) =
    n.0 & n.1 & n.2 & l.0 & l.1 & l.2 & (sym c.spare_zero.ensures ∙ c.if-not-spare_zero.false) & tt in
    rw (passing (row_read (carried s.args.level s.args.bits s.args.line.now) s.args.channels) (demands s) m)
    c.read_checked.ensures
