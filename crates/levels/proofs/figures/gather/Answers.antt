-- `levels::figures::gather` meets its contract: after i turns the figures are those of the first i samples. Assumes nothing.
use mathlib.Core.Path.{◌≡◌, sym, ap, ap₂, ◌∙◌}
use Prim.Native.Nat.{ℕ, ◌+◌, ◌*◌, ◌<◌}
use native.Mathlib.Omega.{arith}
use Rattle.std.proofs.Common.{rules}
use lib.IntN.{ℤ, pos, nat_abs, ◌+ℤ◌}
use lib.ListN.{length, get_or, take}
use lib.Seq.{take_all}
use mir.Syntax.{w32, w64}
use mir.Val.{SFits, to_z, of_z}
use mir.Facts.{to_z-of_z}
use Rattle.bits.specs.Row.{digit}
use Rattle.bits.proofs.Digits.{digit_lt}
use Rattle.levels.specs.Lines.{least, most}
use Rattle.levels.specs.Sheets.{at_end, channel_samples, of_samples}
use Rattle.levels.proofs.Wholes.{mag_sum}
use Rattle.levels.proofs.Stretches.{length-channel}
use Rattle.levels.proofs.Blocks.{channel-at}
use Rattle.levels.proofs.Folds.{smallest-first, largest-first, sum_first, ends-first}
use Rattle.levels.proofs.Folds.{smallest-next, largest-next, sum-next, ends_next}
use Rattle.levels.proofs.Levels.{back, byte-digit, least-is, most-is}
use Rattle.levels.proofs.figures.gather.Goals as goal

pub loop-i-init : goal.loop-i-init
loop-i-init c =
    let s = c.args.samples.now in
    let q = channel_samples c.args.c s in
    let x = get_or s c.args.c (pos 0) in
    let f : SFits w32 x = search rules in
    let z : 2 * 0 + c.args.c ≡ c.args.c = omega arith in
    let same : get_or q 0 (pos 0) ≡ x = channel-at c.args.c s 0 (omega arith) ∙ ap (λ (k : ℕ). get_or s k (pos 0)) z in
    let some : 0 < length q = omega (arith, length-channel c.args.c s) in
    let w : to_z w64 (of_z w64 c.from-total.result) ≡ x = back c.from-total.result c.from-total.type_inv ∙ c.from-total.ensures ∙ to_z-of_z f in
    let e : c.from-ends.result ≡ digit (at_end x) =
    c.from-ends.ensures ∙ byte-digit c.at_end.result ∙ ap digit (rw (to_z-of_z f) at c.at_end.ensures) in
    record {
      low = to_z-of_z f ∙ sym (smallest-first q some ∙ same);
      high = to_z-of_z f ∙ sym (largest-first q some ∙ same);
      all = w ∙ sym (sum_first q some ∙ same);
      all_small = rw w (omega (arith, f.sfits));
      end = e ∙ sym (ends-first q some ∙ ap (λ (z : ℤ). digit (at_end z)) same);
      few = omega (arith, e, digit_lt (at_end x));
    }

pub loop-i-preserved : goal.loop-i-preserved
loop-i-preserved c =
    let s = c.args.samples.now in
    let i = c.loop-i.i in
    let q = channel_samples c.args.c s in
    let x = get_or s (2 * i + c.args.c) (pos 0) in
    let f : SFits w32 x = search rules in
    let held = c.loop-i.invariant in
    let h : i < 192 = c.loop-i-test.true in
    let some : 0 < i = omega arith in
    let inside : i < length q = omega (arith, length-channel c.args.c s) in
    let same : x ≡ get_or q i (pos 0) = sym (channel-at c.args.c s i h) in
    let low = to_z w32 c.loop-i.smallest-bits in
    let high = to_z w32 c.loop-i.largest-bits in
    let all = to_z w64 c.loop-i.total-bits in
    let l : to_z w32 (of_z w32 c.min-smallest.result) ≡ least low x =
    to_z-of_z {w = w32} (record { sfits = c.min-smallest.type_inv }) ∙ (rw (to_z-of_z f) at c.min-smallest.ensures.value) ∙ least-is low x in
    let m : to_z w32 (of_z w32 c.max-largest.result) ≡ most high x =
    to_z-of_z {w = w32} (record { sfits = c.max-largest.type_inv }) ∙ (rw (to_z-of_z f) at c.max-largest.ensures.value) ∙ most-is high x in
    let w : to_z w64 (of_z w64 c.from-total-in-loop-i.result) ≡ x =
    back c.from-total-in-loop-i.result c.from-total-in-loop-i.type_inv ∙ c.from-total-in-loop-i.ensures ∙ to_z-of_z f in
    let t : to_z w64 (of_z w64 (all +ℤ to_z w64 (of_z w64 c.from-total-in-loop-i.result))) ≡ all +ℤ x =
    rw w (back (all +ℤ x) (omega (arith, mag_sum all x, held.all_small, f.sfits))) in
    let e : c.from-ends-in-loop-i.result ≡ digit (at_end x) =
    c.from-ends-in-loop-i.ensures ∙ byte-digit c.at_end-in-loop-i.result ∙ ap digit (rw (to_z-of_z f) at c.at_end-in-loop-i.ensures) in
    record {
      low = l ∙ ap₂ least held.low same ∙ sym (smallest-next q i some inside);
      high = m ∙ ap₂ most held.high same ∙ sym (largest-next q i some inside);
      all = t ∙ ap₂ (λ (y z : ℤ). y +ℤ z) held.all same ∙ sym (sum-next q i some inside);
      all_small = rw t (omega (arith, mag_sum all x, held.all_small, f.sfits));
      end = ap (λ (n : ℕ). n + c.from-ends-in-loop-i.result) held.end
          ∙ ap (λ (n : ℕ). nat_abs (of_samples 6 (take i q)) + n) (e ∙ ap (λ (z : ℤ). digit (at_end z)) same)
          ∙ sym (ends_next q i some inside);
      few = omega (arith, e, digit_lt (at_end x), held.few);
    }

pub returns : goal.returns
returns c =
    let q = channel_samples c.args.c c.args.samples.now in
    let a : take c.loop-i.i q ≡ q = take_all c.loop-i.i q (omega (arith, length-channel c.args.c c.args.samples.now, c.loop-i-test.false)) in
    let e = c.loop-i.invariant in
    rw (e.low, e.high, e.all, e.end, a)
