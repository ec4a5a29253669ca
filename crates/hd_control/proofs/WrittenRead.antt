-- What the writer accepts is read back unchanged, from the words that it leaves. Assumes nothing.
use mathlib.Core.Path.{◌≡◌, refl, sym, ap, ap₂, ◌∙◌}
use mathlib.Core.Bool.{Bool, true, false, not}
use mathlib.Core.List.{List, [], ◌∷◌}
use Prim.Native.Nat.{ℕ, ◌+◌, ◌*◌, ◌/◌, ◌%◌, ◌^◌, ◌≤◌, ◌<◌}
use native.Mathlib.Omega.{arith}
use borrow.Author.Tests.{eq-eqb, eqb-true}
use lib.IntN.{ℤ}
use lib.ListN.{length, get_or}
use Rattle.answer.specs.Answer.{Answer, Answer.accepted, verdict, rewritten}
use Rattle.answer.specs.Demand.{Demand.asks, Demand.finds_none, AllMet, ◌&◌}
use Rattle.answer.proofs.Chains.{value_of, met, passing, both-met}
use Rattle.answer.proofs.Residues.{whole as filled}
use Rattle.anc.specs.Word.{wrong_at}
use Rattle.anc.specs.Head.{did_in, group_in, head_demands}
use Rattle.anc.specs.Enclosed.{words_by, enclosed, sum_stands, enclosed_demands}
use Rattle.anc.proofs.SumLaws.{opposed-none}
use Rattle.anc.proofs.Enclosing.{length-enclosed, sum-enclosed, packet-long, packet-word, packet-value, packet-narrow, packet-right}
use Rattle.subframe.specs.Signed.{in_range, code_of, signed_of}
use Rattle.subframe.proofs.SignedLaws.{signed-code}
use Rattle.hd_control.specs.Control.{control_dids, control_dc, control_head, rule_of, misused, rate_reserved, delay_number, control_values, control_packet, delay_at, control_in}
use Rattle.hd_control.specs.Write.{write_demands, write_answer, control_written}
use Rattle.hd_control.specs.Read.{state_demands, read_demands, read_answer}
use Rattle.hd_control.specs.Inner.{ControlRanges}
use Rattle.hd_control.specs.declared.Control.{Control}
use Rattle.hd_control.proofs.ControlLaws.{ranges, did-group, did-word, dbn-word, dc-word, packet-of, fourteen, packet-size, delay-number-lt, values-fit}

not-true : (t : Bool) → not t ≡ true → t ≡ false
not-true false e = refl
not-true true e = cc

-- ---- 27 bits in three words

whole : (d : ℕ) → d < 2 ^ 27 → d % 2 ^ 9 + d / 2 ^ 9 % 2 ^ 9 * 2 ^ 9 + d / 2 ^ 18 % 2 ^ 9 * 2 ^ 18 ≡ d
whole d h = omega arith

module _ (valid : ℕ) (delay : ℤ) (v : valid ≤ 1) (l : in_range 26 delay ≡ true) where
  valid-back : delay_number valid delay % 2 ≡ valid
  valid-back = omega arith

  delay-back : signed_of 26 (delay_number valid delay / 2) ≡ delay
  delay-back =
      let e : delay_number valid delay / 2 ≡ code_of 26 delay = omega arith in
      ap (signed_of 26) e ∙ signed-code 26 (omega arith) delay l

-- ---- the words of an accepted packet

module _ (c : Control) (r : ControlRanges c) (plain : misused c.asynchronous c.frame ≡ false) (known : rate_reserved c.rate ≡ false) where
  abbrev ws : List ℕ
  ws = enclosed (words_by rule_of 3 (control_values c))

  word-3 : get_or ws 3 0 ≡ did_in control_dids c.group
  unfolding control_values
  word-3 =
      packet-word rule_of (control_values c) 14 (fourteen c) (values-fit c r) 0 (omega arith) ∙ did-word c.group r.some r.four

  word-4 : get_or ws 4 0 ≡ 0x200
  unfolding control_values
  word-4 = packet-word rule_of (control_values c) 14 (fourteen c) (values-fit c r) 1 (omega arith) ∙ dbn-word

  word-5 : get_or ws 5 0 ≡ control_dc
  unfolding control_values
  word-5 = packet-word rule_of (control_values c) 14 (fourteen c) (values-fit c r) 2 (omega arith) ∙ dc-word

  value-6 : get_or ws 6 0 % 2 ^ 9 ≡ c.frame
  unfolding control_values
  value-6 = packet-value rule_of (control_values c) 14 (fourteen c) (values-fit c r) 3 (omega arith)

  value-7 : get_or ws 7 0 % 2 ^ 8 ≡ c.asynchronous + c.rate * 2
  unfolding control_values
  value-7 = packet-value rule_of (control_values c) 14 (fourteen c) (values-fit c r) 4 (omega arith)

  value-8 : get_or ws 8 0 % 2 ^ 8 ≡ c.active
  unfolding control_values
  value-8 = packet-value rule_of (control_values c) 14 (fourteen c) (values-fit c r) 5 (omega arith)

  first-delay : delay_at ws 9 ≡ delay_number c.valid12 c.delay12
  unfolding control_values delay_at
  first-delay =
      let d = delay_number c.valid12 c.delay12 in
      rw (
        packet-value rule_of (control_values c) 14 (fourteen c) (values-fit c r) 6 (omega arith),
        packet-value rule_of (control_values c) 14 (fourteen c) (values-fit c r) 7 (omega arith),
        packet-value rule_of (control_values c) 14 (fourteen c) (values-fit c r) 8 (omega arith),
      ) (whole d (delay-number-lt c.valid12 c.delay12 r.first-valid r.first-delay))

  second-delay : delay_at ws 12 ≡ delay_number c.valid34 c.delay34
  unfolding control_values delay_at
  second-delay =
      let d = delay_number c.valid34 c.delay34 in
      rw (
        packet-value rule_of (control_values c) 14 (fourteen c) (values-fit c r) 9 (omega arith),
        packet-value rule_of (control_values c) 14 (fourteen c) (values-fit c r) 10 (omega arith),
        packet-value rule_of (control_values c) 14 (fourteen c) (values-fit c r) 11 (omega arith),
      ) (whole d (delay-number-lt c.valid34 c.delay34 r.second-valid r.second-delay))

  word-15 : get_or ws 15 0 ≡ 0x200
  unfolding control_values
  word-15 = packet-word rule_of (control_values c) 14 (fourteen c) (values-fit c r) 12 (omega arith) ∙ opposed-none

  word-16 : get_or ws 16 0 ≡ 0x200
  unfolding control_values
  word-16 = packet-word rule_of (control_values c) 14 (fourteen c) (values-fit c r) 13 (omega arith) ∙ opposed-none

  -- ---- what is read of them

  flag : get_or ws 7 0 % 2 ≡ c.asynchronous
  flag = omega (arith, value-7, r.use-flag)

  code : get_or ws 7 0 / 2 % 2 ^ 3 ≡ c.rate
  code = omega (arith, value-7, r.use-flag, r.code)

  channels : get_or ws 8 0 % 2 ^ 4 ≡ c.active
  channels = omega (arith, value-8, r.channels)

  group : group_in control_dids (get_or ws 3 0) ≡ c.group
  group = ap (group_in control_dids) word-3 ∙ did-group c.group r.some r.four

  fields : control_in ws ≡ c
  unfolding control_in
  fields =
      rw (
        group,
        value-6,
        code,
        flag,
        channels,
        first-delay,
        second-delay,
        valid-back c.valid12 c.delay12 r.first-valid r.first-delay,
        delay-back c.valid12 c.delay12 r.first-valid r.first-delay,
        valid-back c.valid34 c.delay34 r.second-valid r.second-delay,
        delay-back c.valid34 c.delay34 r.second-valid r.second-delay,
      )

  states : AllMet (state_demands ws)
  states =
      eq-eqb (get_or ws 4 0) 0x200 word-4 & ap not (ap₂ misused flag value-6 ∙ plain)
      & eq-eqb (get_or ws 7 0 / 2 ^ 4 % 2 ^ 4) 0 (omega (arith, value-7, r.use-flag, r.code)) & ap not (ap rate_reserved code ∙ known)
      & eq-eqb (get_or ws 8 0 / 2 ^ 4 % 2 ^ 4) 0 (omega (arith, value-8, r.channels))
      & eq-eqb (get_or ws 15 0 % 2 ^ 9) 0 (omega (arith, word-15)) & eq-eqb (get_or ws 16 0 % 2 ^ 9) 0 (omega (arith, word-16)) & tt

  head : AllMet (head_demands (control_head ws) ws)
  head =
      refl & refl & refl & eq-eqb (get_or ws 3 0) (did_in control_dids (group_in control_dids (get_or ws 3 0))) (word-3 ∙ ap (did_in control_dids) (sym group))
      & eq-eqb (get_or ws 5 0) control_dc word-5 & tt

  long : length ws ≡ 18
  long = length-enclosed (words_by rule_of 3 (control_values c)) 14 (packet-long rule_of (control_values c) 14 (fourteen c) (values-fit c r))

  words-met : AllMet (enclosed_demands rule_of 14 (control_head ws) ws)
  words-met =
      (λ k z l. packet-narrow rule_of (control_values c) 14 (fourteen c) (values-fit c r) k (omega (arith, long)))
      & both-met (head_demands (control_head ws) ws) (finds_none 14 (wrong_at rule_of ws) 3 14 ∷ asks 16 17 (sum_stands 14 ws) ∷ []) head
      ((λ k z l. packet-right rule_of (control_values c) 14 (fourteen c) (values-fit c r) k z l)
      & sum-enclosed (words_by rule_of 3 (control_values c)) 14 (packet-long rule_of (control_values c) 14 (fourteen c) (values-fit c r)) & tt)

  packet-read : read_answer ws ≡ accepted c
  unfolding read_answer
  packet-read =
      passing (accepted (control_in ws)) (read_demands ws)
      (eq-eqb (length ws) 18 long & both-met (enclosed_demands rule_of 14 (control_head ws) ws) (state_demands ws) words-met states)
      ∙ ap accepted fields

-- the reader, given the words that the writer leaves in 18 lent ones, gives the same fields
pub control-read-written : (c : Control) (old : List ℕ) → verdict (write_answer c (length old)) ≡ accepted tt
    → read_answer (control_written c old) ≡ accepted c
unfolding write_answer
control-read-written c old e =
    let v = value_of (λ w. tt) (write_answer c (length old)) e in
    let m = met (control_packet c) (write_demands c (length old)) v.1 in
    let left : control_written c old ≡ control_packet c =
    ap (λ (a : Answer (List ℕ)). rewritten a old) (v.1 ∙ ap accepted (sym m.1))
    ∙ filled (λ w. w) (control_packet c) old (packet-size c ∙ sym (eqb-true (length old) 18 m.0.0)) in
    ap read_answer (left ∙ sym (packet-of c))
    ∙ packet-read c (ranges c m.0.1.0) (not-true (misused c.asynchronous c.frame) m.0.1.1.0)
    (not-true (rate_reserved c.rate) m.0.1.1.1.0)
