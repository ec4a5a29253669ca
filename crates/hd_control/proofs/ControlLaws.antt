-- Laws of the ranges, of the values of a packet's words, and of what is read of them. Assumes nothing.
use mathlib.Core.Path.{◌≡◌, refl, sym, ap, ◌∙◌}
use mathlib.Core.Bool.{true, ◌&&◌}
use mathlib.Core.List.{List, [], ◌∷◌, ◌++◌}
use Prim.Native.Nat.{ℕ, zero, suc, ◌+◌, ◌*◌, ◌%◌, ◌^◌, ◌≤◌, ◌<◌}
use native.Mathlib.Omega.{arith}
use borrow.Author.Tests.{leb-true, le-leb}
use lib.Count.{ones}
use lib.Dec.{leb}
use lib.IntN.{ℤ}
use lib.ListN.{length, get_or}
use Rattle.bits.specs.Pick.{first}
use Rattle.bits.proofs.Tests.{both_true}
use Rattle.anc.specs.Word.{opposed, word_of, width_by}
use Rattle.anc.specs.Head.{did_in, group_in}
use Rattle.anc.specs.Enclosed.{words_by, enclosed}
use Rattle.anc.proofs.SumLaws.{opposed-none}
use Rattle.anc.proofs.Enclosing.{length-words, length-enclosed}
use Rattle.anc.proofs.Heads.{each-group, in_full, full-word}
use Rattle.subframe.specs.Signed.{in_range}
use Rattle.subframe.proofs.SignedLaws.{code_lt}
use Rattle.hd_control.specs.Control.{control_dids, control_dc, rule_of, delay_number, control_values, control_packet, delay_at, control_in}
use Rattle.hd_control.specs.Write.{control_in_ranges}
use Rattle.hd_control.specs.Inner.{ControlRanges, words_of_delay}
use Rattle.hd_control.specs.declared.Control.{Control}

-- ---- the ranges

pub ranges : (c : Control) → control_in_ranges c ≡ true → ControlRanges c
unfolding control_in_ranges
ranges c e =
    let s9 = both_true (leb 1 c.group && leb c.group 4 && leb c.frame 511 && leb c.rate 7 && leb c.asynchronous 1 && leb c.active 15 && leb c.valid12 1 && leb c.valid34 1 && in_range 26 c.delay12) (in_range 26 c.delay34) e in
    let s8 = both_true (leb 1 c.group && leb c.group 4 && leb c.frame 511 && leb c.rate 7 && leb c.asynchronous 1 && leb c.active 15 && leb c.valid12 1 && leb c.valid34 1) (in_range 26 c.delay12) s9.0 in
    let s7 = both_true (leb 1 c.group && leb c.group 4 && leb c.frame 511 && leb c.rate 7 && leb c.asynchronous 1 && leb c.active 15 && leb c.valid12 1) (leb c.valid34 1) s8.0 in
    let s6 = both_true (leb 1 c.group && leb c.group 4 && leb c.frame 511 && leb c.rate 7 && leb c.asynchronous 1 && leb c.active 15) (leb c.valid12 1) s7.0 in
    let s5 = both_true (leb 1 c.group && leb c.group 4 && leb c.frame 511 && leb c.rate 7 && leb c.asynchronous 1) (leb c.active 15) s6.0 in
    let s4 = both_true (leb 1 c.group && leb c.group 4 && leb c.frame 511 && leb c.rate 7) (leb c.asynchronous 1) s5.0 in
    let s3 = both_true (leb 1 c.group && leb c.group 4 && leb c.frame 511) (leb c.rate 7) s4.0 in
    let s2 = both_true (leb 1 c.group && leb c.group 4) (leb c.frame 511) s3.0 in
    let s1 = both_true (leb 1 c.group) (leb c.group 4) s2.0 in
    record {
      some = leb-true 1 c.group s1.0;
      four = leb-true c.group 4 s1.1;
      number = leb-true c.frame 511 s2.1;
      code = leb-true c.rate 7 s3.1;
      use-flag = leb-true c.asynchronous 1 s4.1;
      channels = leb-true c.active 15 s5.1;
      first-valid = leb-true c.valid12 1 s6.1;
      second-valid = leb-true c.valid34 1 s7.1;
      first-delay = s8.1;
      second-delay = s9.1;
    }

pub ranged : (c : Control) → ControlRanges c → control_in_ranges c ≡ true
unfolding control_in_ranges
ranged c r =
    rw (
      le-leb 1 c.group r.some,
      le-leb c.group 4 r.four,
      le-leb c.frame 511 r.number,
      le-leb c.rate 7 r.code,
      le-leb c.asynchronous 1 r.use-flag,
      le-leb c.active 15 r.channels,
      le-leb c.valid12 1 r.first-valid,
      le-leb c.valid34 1 r.second-valid,
      r.first-delay,
      r.second-delay,
    )

-- ---- DID, DBN and DC

pub did-group : (group : ℕ) → 1 ≤ group → group ≤ 4 → group_in control_dids (did_in control_dids group) ≡ group
unfolding first
did-group = each-group (λ g. group_in control_dids (did_in control_dids g)) (λ g. g) tt

did-full : (group : ℕ) → 1 ≤ group → group ≤ 4 → in_full (did_in control_dids group) ≡ did_in control_dids group
unfolding ones
did-full = each-group (λ g. in_full (did_in control_dids g)) (did_in control_dids) tt

pub did-word : (group : ℕ) → 1 ≤ group → group ≤ 4 → word_of (did_in control_dids group % 2 ^ 8) ≡ did_in control_dids group
did-word group h l = full-word (did_in control_dids group) (did-full group h l)

pub dbn-word : word_of 0x00 ≡ 0x200
unfolding ones
dbn-word = full-word 0x200 refl

pub dc-word : word_of (control_dc % 2 ^ 8) ≡ control_dc
unfolding ones
dc-word = full-word control_dc refl

-- ---- the words as they are laid

module _ (c : Control) (r : ControlRanges c) (a b : List ℕ) (frame rate active : ℕ) where
  pub words-laid : frame ≡ opposed (c.frame % 2 ^ 9) → rate ≡ opposed ((c.asynchronous + c.rate * 2) % 2 ^ 9)
      → active ≡ word_of c.active → a ≡ words_of_delay (delay_number c.valid12 c.delay12)
      → b ≡ words_of_delay (delay_number c.valid34 c.delay34)
      → did_in control_dids c.group ∷ 0x200 ∷ 0x10B ∷ frame ∷ rate ∷ active ∷ (a ++ b ++ (0x200 ∷ 0x200 ∷ [])) ≡ words_by rule_of 3 (control_values c)
  unfolding control_values
  words-laid f s v p q =
      let e : c.frame % 2 ^ 9 ≡ c.frame = omega (arith, r.number) in
      let g : (c.asynchronous + c.rate * 2) % 2 ^ 9 ≡ c.asynchronous + c.rate * 2 = omega (arith, r.code, r.use-flag) in
      rw (p, q, f ∙ ap opposed e, s ∙ ap opposed g, v, did-word c.group r.some r.four, dbn-word, dc-word, opposed-none)

pub packet-of : (c : Control) → enclosed (words_by rule_of 3 (control_values c)) ≡ control_packet c
unfolding control_packet
packet-of c = refl

-- ---- the values fit their words

pub fourteen : (c : Control) → length (control_values c) ≡ 14
unfolding control_values
fourteen c = refl

pub packet-size : (c : Control) → length (control_packet c) ≡ 18
packet-size c =
    ap length (sym (packet-of c))
    ∙ length-enclosed (words_by rule_of 3 (control_values c)) 14 (length-words rule_of 3 (control_values c) ∙ fourteen c)

pub delay-number-lt : (valid : ℕ) (delay : ℤ) → valid ≤ 1 → in_range 26 delay ≡ true → delay_number valid delay < 2 ^ 27
delay-number-lt valid delay h l = omega (arith, code_lt 26 (omega arith) delay l)

pub values-fit : (c : Control) → ControlRanges c → (i : ℕ) → i < 14 → get_or (control_values c) i 0 < 2 ^ width_by (rule_of (3 + i))
unfolding control_values
values-fit c r zero l = omega arith
values-fit c r (suc zero) l = omega arith
values-fit c r (suc (suc zero)) l = omega arith
values-fit c r (suc (suc (suc zero))) l = omega (arith, r.number)
values-fit c r (suc (suc (suc (suc zero)))) l = omega (arith, r.code, r.use-flag)
values-fit c r (suc (suc (suc (suc (suc zero))))) l = omega (arith, r.channels)
values-fit c r (suc (suc (suc (suc (suc (suc zero)))))) l = omega arith
values-fit c r (suc (suc (suc (suc (suc (suc (suc zero))))))) l = omega arith
values-fit c r (suc (suc (suc (suc (suc (suc (suc (suc zero)))))))) l = omega arith
values-fit c r (suc (suc (suc (suc (suc (suc (suc (suc (suc zero))))))))) l = omega arith
values-fit c r (suc (suc (suc (suc (suc (suc (suc (suc (suc (suc zero)))))))))) l = omega arith
values-fit c r (suc (suc (suc (suc (suc (suc (suc (suc (suc (suc (suc zero))))))))))) l = omega arith
values-fit c r (suc (suc (suc (suc (suc (suc (suc (suc (suc (suc (suc (suc zero)))))))))))) l = omega arith
values-fit c r (suc (suc (suc (suc (suc (suc (suc (suc (suc (suc (suc (suc (suc zero))))))))))))) l = omega arith
values-fit c r (suc (suc (suc (suc (suc (suc (suc (suc (suc (suc (suc (suc (suc (suc i)))))))))))))) l = absurd (omega arith)

-- ---- what is read

pub delay-lt : (words : List ℕ) (k : ℕ) → delay_at words k < 2 ^ 27
unfolding delay_at
delay-lt words k = omega arith

pub group-in : (words : List ℕ) → (control_in words).group ≡ group_in control_dids (get_or words 3 0)
unfolding control_in
group-in words = refl
