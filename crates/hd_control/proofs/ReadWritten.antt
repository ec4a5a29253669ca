-- Writing back an accepted packet gives the same 18 words, so that reading loses nothing. Assumes nothing.
use mathlib.Core.Path.{◌≡◌, refl, sym, ap, ◌∙◌, subst}
use mathlib.Core.Bool.{false}
use mathlib.Core.List.{List, [], ◌∷◌}
use Prim.Native.Nat.{ℕ, zero, suc, ◌+◌, ◌*◌, ◌/◌, ◌%◌, ◌^◌, ◌≤◌, ◌<◌}
use native.Mathlib.Omega.{arith}
use borrow.Author.Tests.{eqb-true}
use lib.ListN.{length, get_or, take, drop}
use lib.Seq.{ext_get_or}
use Rattle.answer.specs.Answer.{Answer, Answer.accepted, verdict, rewritten}
use Rattle.answer.specs.Demand.{Demand.asks, Demand.finds_none, AllMet, ◌&◌}
use Rattle.answer.proofs.Chains.{passing, parts-met}
use Rattle.answer.proofs.Chains.{met as met_by}
use Rattle.answer.proofs.Residues.{whole}
use Rattle.anc.specs.Word.{width_by, wide_at, wrong_at}
use Rattle.anc.specs.Head.{group_in, head_demands}
use Rattle.anc.specs.Enclosed.{words_by, values_by, enclosed, sum_stands, enclosed_demands}
use Rattle.anc.proofs.Heads.{Named, names}
use Rattle.anc.proofs.Enclosing.{packet-back, run-values, run_value}
use Rattle.subframe.specs.Signed.{signed_of}
use Rattle.subframe.proofs.SignedLaws.{signed-in, code-signed}
use Rattle.hd_control.specs.Control.{control_dids, control_dc, control_head, rule_of, delay_number, control_values, control_packet, delay_at, control_in}
use Rattle.hd_control.specs.Write.{write_demands, write_answer, control_written}
use Rattle.hd_control.specs.Read.{state_demands, read_demands, read_answer}
use Rattle.hd_control.specs.Inner.{ControlRanges}
use Rattle.hd_control.specs.declared.Control.{Control}
use Rattle.hd_control.proofs.ControlLaws.{ranged, fourteen, packet-of, delay-lt}

-- ---- b0 to b3 of a word whose b4 to b7 are 0

low_bits : (w : ℕ) → w % 2 + w / 2 % 2 ^ 3 * 2 ≡ w % 2 ^ 4
low_bits w = omega arith

all-bits : (w : ℕ) → w / 2 ^ 4 % 2 ^ 4 * 2 ^ 4 + w % 2 ^ 4 ≡ w % 2 ^ 8
all-bits w = omega arith

none_above : (x y : ℕ) → x ≡ 0 → y ≡ x * 2 ^ 4 + y
none_above x y e = omega arith

rate-back : (w : ℕ) → w / 2 ^ 4 % 2 ^ 4 ≡ 0 → w % 2 + w / 2 % 2 ^ 3 * 2 ≡ w % 2 ^ 8
rate-back w e = low_bits w ∙ none_above (w / 2 ^ 4 % 2 ^ 4) (w % 2 ^ 4) e ∙ all-bits w

-- ---- the 27 bits of three words, written again

module _ (words : List ℕ) (k : ℕ) where
  number-back : delay_number (delay_at words k % 2) (signed_of 26 (delay_at words k / 2)) ≡ delay_at words k
  number-back =
      let h : delay_at words k / 2 < 2 ^ 26 = omega (arith, delay-lt words k) in
      ap (λ (n : ℕ). delay_at words k % 2 + n * 2) (code-signed 26 (omega arith) (delay_at words k / 2) h) ∙ omega arith

  low : delay_at words k % 2 ^ 9 ≡ get_or words k 0 % 2 ^ 9
  unfolding delay_at
  low = omega arith

  middle : delay_at words k / 2 ^ 9 % 2 ^ 9 ≡ get_or words (k + 1) 0 % 2 ^ 9
  unfolding delay_at
  middle = omega arith

  high : delay_at words k / 2 ^ 18 % 2 ^ 9 ≡ get_or words (k + 2) 0 % 2 ^ 9
  unfolding delay_at
  high = omega arith

  first_word : delay_number (delay_at words k % 2) (signed_of 26 (delay_at words k / 2)) % 2 ^ 9 ≡ get_or words k 0 % 2 ^ 9
  first_word = ap (λ (n : ℕ). n % 2 ^ 9) number-back ∙ low

  second_word : delay_number (delay_at words k % 2) (signed_of 26 (delay_at words k / 2)) / 2 ^ 9 % 2 ^ 9 ≡ get_or words (k + 1) 0 % 2 ^ 9
  second_word = ap (λ (n : ℕ). n / 2 ^ 9 % 2 ^ 9) number-back ∙ middle

  third-word : delay_number (delay_at words k % 2) (signed_of 26 (delay_at words k / 2)) / 2 ^ 18 % 2 ^ 9 ≡ get_or words (k + 2) 0 % 2 ^ 9
  third-word = ap (λ (n : ℕ). n / 2 ^ 18 % 2 ^ 9) number-back ∙ high

-- ---- words that are accepted

module _ (words : List ℕ) (met : AllMet (read_demands words)) where
  abbrev c : Control
  c = control_in words

  long : length words ≡ 18
  long = eqb-true (length words) 18 met.0

  halves : AllMet (enclosed_demands rule_of 14 (control_head words) words) × AllMet (state_demands words)
  halves = parts-met (enclosed_demands rule_of 14 (control_head words) words) (state_demands words) met.1

  of_words : AllMet (head_demands (control_head words) words)
      × AllMet (finds_none 14 (wrong_at rule_of words) 3 14 ∷ asks 16 17 (sum_stands 14 words) ∷ [])
  of_words =
      parts-met (head_demands (control_head words) words) (finds_none 14 (wrong_at rule_of words) 3 14 ∷ asks 16 17 (sum_stands 14 words) ∷ []) halves.0.1

  ten : (k : ℕ) → k < 18 → wide_at words k ≡ false
  ten k l = halves.0.0 k (omega arith) (omega (arith, long))

  group-read : Named control_dids (get_or words 3 0) (group_in control_dids (get_or words 3 0))
  group-read = names control_dids (get_or words 3 0) (omega arith) of_words.0.1.1.1.0

  within : ControlRanges c
  unfolding control_in
  within = record {
    some = group-read.some;
    four = group-read.few;
    number = omega arith;
    code = omega arith;
    use-flag = omega arith;
    channels = omega arith;
    first-valid = omega arith;
    second-valid = omega arith;
    first-delay = signed-in 26 (omega arith) (delay_at words 9 / 2) (omega (arith, delay-lt words 9));
    second-delay = signed-in 26 (omega arith) (delay_at words 12 / 2) (omega (arith, delay-lt words 12));
  }

  -- the value of each word
  at : (i : ℕ) → i < 14 → get_or (control_values c) i 0 ≡ get_or words (3 + i) 0 % 2 ^ width_by (rule_of (3 + i))
  unfolding control_values control_in
  at zero l = ap (λ (w : ℕ). w % 2 ^ 8) (sym group-read.word)
  at (suc zero) l = omega (arith, eqb-true (get_or words 4 0) 0x200 halves.1.0)
  at (suc (suc zero)) l = omega (arith, eqb-true (get_or words 5 0) control_dc of_words.0.1.1.1.1.0)
  at (suc (suc (suc zero))) l = refl
  at (suc (suc (suc (suc zero)))) l = rate-back (get_or words 7 0) (eqb-true (get_or words 7 0 / 2 ^ 4 % 2 ^ 4) 0 halves.1.1.1.0)
  at (suc (suc (suc (suc (suc zero))))) l = omega (arith, eqb-true (get_or words 8 0 / 2 ^ 4 % 2 ^ 4) 0 halves.1.1.1.1.1.0)
  at (suc (suc (suc (suc (suc (suc zero)))))) l = first_word words 9
  at (suc (suc (suc (suc (suc (suc (suc zero))))))) l = second_word words 9
  at (suc (suc (suc (suc (suc (suc (suc (suc zero)))))))) l = third-word words 9
  at (suc (suc (suc (suc (suc (suc (suc (suc (suc zero))))))))) l = first_word words 12
  at (suc (suc (suc (suc (suc (suc (suc (suc (suc (suc zero)))))))))) l = second_word words 12
  at (suc (suc (suc (suc (suc (suc (suc (suc (suc (suc (suc zero))))))))))) l = third-word words 12
  at (suc (suc (suc (suc (suc (suc (suc (suc (suc (suc (suc (suc zero)))))))))))) l = omega (arith, eqb-true (get_or words 15 0 % 2 ^ 9) 0 halves.1.1.1.1.1.1.0)
  at (suc (suc (suc (suc (suc (suc (suc (suc (suc (suc (suc (suc (suc zero))))))))))))) l = omega (arith, eqb-true (get_or words 16 0 % 2 ^ 9) 0 halves.1.1.1.1.1.1.1.0)
  at (suc (suc (suc (suc (suc (suc (suc (suc (suc (suc (suc (suc (suc (suc i)))))))))))))) l = absurd (omega arith)

  room : 3 + 14 ≤ length words
  room = omega (arith, long)

  values : control_values c ≡ values_by rule_of 3 (take 14 (drop 3 words))
  values =
      ext_get_or 0 (control_values c) (values_by rule_of 3 (take 14 (drop 3 words))) (fourteen c ∙ sym (run-values rule_of 14 words room))
      (λ i l. let l' : i < 14 = omega (arith, fourteen c) in at i l' ∙ sym (run_value rule_of 14 words room i l'))

  same-packet : control_packet c ≡ words
  same-packet =
      sym (packet-of c) ∙ ap (λ (vs : List ℕ). enclosed (words_by rule_of 3 vs)) values
      ∙ packet-back rule_of 14 words long ten (eqb-true (get_or words 0 0) 0 of_words.0.0) (eqb-true (get_or words 1 0) 0x3FF of_words.0.1.0)
      (eqb-true (get_or words 2 0) 0x3FF of_words.0.1.1.0) of_words.1.0 of_words.1.1.0

  writes-back : write_answer c 18 ≡ accepted words
  unfolding write_answer control_in
  writes-back =
      passing (accepted (control_packet c)) (write_demands c 18) (refl & ranged c within & halves.1.1.0 & halves.1.1.1.1.0 & tt)
      ∙ ap accepted same-packet

-- the writer, given the fields of an accepted packet and 18 lent words, accepts, and leaves the same 18 words
pub control-written-read : (words : List ℕ) (c : Control) → read_answer words ≡ accepted c → (old : List ℕ) → length old ≡ 18
    → (verdict (write_answer c (length old)) ≡ accepted tt) × (control_written c old ≡ words)
unfolding read_answer
control-written-read words c e old h =
    let m = met_by (control_in words) (read_demands words) e in
    let w : write_answer c (length old) ≡ accepted words =
    ap (write_answer c) h ∙ subst (λ (f : Control). write_answer f 18 ≡ accepted words) m.1 (writes-back words m.0) in (
      ap verdict w,
      ap (λ (a : Answer (List ℕ)). rewritten a old) w ∙ whole (λ v. v) words old (eqb-true (length words) 18 m.0.0 ∙ sym h),
    )
