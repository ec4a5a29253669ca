-- Blocks with a right CRCC: their 192 bits leave nothing in the stages, and nothing else does; so what two of them
-- differ in leaves nothing either, the divider being linear. Assumes nothing.
use mathlib.Core.Path.{◌≡◌, refl, sym, ap, ap₂, ◌∙◌}
use mathlib.Core.Bool.{Bool, true, false}
use mathlib.Core.List.{List}
use Prim.Native.Nat.{ℕ, ◌*◌, ◌^◌, ◌<◌}
use native.Mathlib.Nat.{mod-eq_of_lt, mul-one}
use native.Mathlib.Omega.{arith}
use borrow.Author.Tests.{eq-eqb, eqb-true}
use lib.Dec.{eqb, lit<}
use lib.ListN.{length, get_or, take}
use lib.Seq.{take_all}
use lib.Bits.{bit_xor}
use Rattle.bits.specs.Row.{bits, big_bits, little, big}
use Rattle.bits.proofs.Tests.{both_true}
use Rattle.bits.proofs.Rows.{length-bits, length-big_bits, little-bits, bits-little, big-big_bits, big_bits-big}
use Rattle.codes.specs.Divide.{through}
use Rattle.codes.specs.Crcc.{crcc_generator, sent, stages_after, octet_of, crcc_of, crcc_right}
use Rattle.codes.specs.Differences.{xored, differences}
use Rattle.codes.proofs.Linear.{through-xor}
use Rattle.codes.proofs.Emptied.{own-number, only-its-own}
use Rattle.codes.proofs.Xored.{length-xored, sent-length, sent-xored}
use Rattle.codes.proofs.SentOctet.{octet-lt}
use Rattle.codes.proofs.Stages.{stages-lt, stages-next}

-- the CRCC's stages s after octets
abbrev pub stages_from : ℕ → List ℕ → ℕ
stages_from s os = through 8 crcc_generator s (sent os)

-- ---- the stages' own octet empties them, and no other

own-octet : (s : ℕ) → s < 256 → through 8 crcc_generator s (bits 8 (octet_of s)) ≡ 0
unfolding octet_of
own-octet s h =
    let r = big_bits 8 s in
    let n : length r ≡ 8 = length-big_bits 8 s in
    let v : big r * 2 ^ 0 ≡ s = mul-one (big r) ∙ big-big_bits 8 s ∙ mod-eq_of_lt h in
    let same : bits 8 (little r) ≡ r = rw n at (bits-little r) in
    ap₂ (through 8 crcc_generator) (sym v) same ∙ own-number 8 crcc_generator refl refl r 0 (omega arith)

no-other-octet : (s o : ℕ) → s < 256 → o < 256 → through 8 crcc_generator s (bits 8 o) ≡ 0 → o ≡ octet_of s
unfolding octet_of
no-other-octet s o hs ho e =
    let r = bits 8 o in
    let n : length r ≡ 8 = length-bits 8 o in
    let v : s ≡ big r = only-its-own 8 crcc_generator refl refl s r 0 hs (omega arith) e ∙ mul-one (big r) in
    let same : big_bits 8 (big r) ≡ r = rw n at (big_bits-big r) in
    sym (ap (λ (x : ℕ). little (big_bits 8 x)) v ∙ ap little same ∙ little-bits 8 o ho)

-- ---- right is: nothing is left

pub right-is-whole : (status : List ℕ) → crcc_right status ≡ true → length status ≡ 24
unfolding crcc_right
right-is-whole status t = eqb-true (length status) 24 (both_true (eqb (length status) 24) (eqb (get_or status 23 0) (crcc_of status)) t).0

pub right-is-crcc : (status : List ℕ) → crcc_right status ≡ true → get_or status 23 0 ≡ crcc_of status
unfolding crcc_right
right-is-crcc status t =
    eqb-true (get_or status 23 0) (crcc_of status) (both_true (eqb (length status) 24) (eqb (get_or status 23 0) (crcc_of status)) t).1

pub right-octet : (status : List ℕ) → crcc_right status ≡ true → get_or status 23 0 < 256
unfolding crcc_of
right-octet status t = rw (right-is-crcc status t) (octet-lt (stages_after (take 23 status)))

last-octet : (status : List ℕ) → length status ≡ 24
    → stages_after status ≡ through 8 crcc_generator (stages_after (take 23 status)) (bits 8 (get_or status 23 0))
last-octet status n = ap stages_after (sym (take_all 24 status (omega arith))) ∙ stages-next status 23 (omega arith)

pub right-leaves-nothing : (status : List ℕ) → crcc_right status ≡ true → stages_after status ≡ 0
unfolding crcc_of
right-leaves-nothing status t =
    last-octet status (right-is-whole status t)
    ∙ rw (right-is-crcc status t) (own-octet (stages_after (take 23 status)) (stages-lt (take 23 status)))

pub nothing-left-is-right : (status : List ℕ) → length status ≡ 24 → get_or status 23 0 < 256 → stages_after status ≡ 0
    → crcc_right status ≡ true
unfolding crcc_right crcc_of
nothing-left-is-right status n h e =
    let o : get_or status 23 0 ≡ crcc_of status =
    no-other-octet (stages_after (take 23 status)) (get_or status 23 0) (stages-lt (take 23 status)) h (sym (last-octet status n) ∙ e) in
    rw (eq-eqb (length status) 24 n, eq-eqb (get_or status 23 0) (crcc_of status) o)

-- ---- the exclusive or of blocks

-- the stages of the exclusive or, from that of two starts
pub stages-xored : (s t : ℕ) (a b : List ℕ) → s < 256 → t < 256 → length a ≡ length b
    → stages_from (bit_xor s t) (xored a b) ≡ bit_xor (stages_from s a) (stages_from t b)
stages-xored s t a b hs ht n =
    ap (through 8 crcc_generator (bit_xor s t)) (sent-xored a b n)
    ∙ through-xor 8 crcc_generator refl s t (sent a) (sent b) hs ht (sent-length a ∙ ap (λ (k : ℕ). k * 8) n ∙ sym (sent-length b))

-- a test that cannot say yes says no
pub says-no : (t : Bool) → (t ≡ true → ⊥) → t ≡ false
says-no true never = absurd (never refl)
says-no false never = refl

module _ (a b : List ℕ) (ra : crcc_right a ≡ true) (rb : crcc_right b ≡ true) where
  pub same_length : length a ≡ length b
  same_length = right-is-whole a ra ∙ sym (right-is-whole b rb)

  -- what two right blocks differ in leaves nothing in empty stages
  pub two-leave-nothing : stages_from 0 (xored a b) ≡ 0
  unfolding stages_after
  two-leave-nothing =
      stages-xored 255 255 a b (lit< tt) (lit< tt) same_length ∙ ap₂ bit_xor (right-leaves-nothing a ra) (right-leaves-nothing b rb)

  pub differences-leave-nothing : through 8 crcc_generator 0 (differences a b) ≡ 0
  unfolding differences
  differences-leave-nothing = two-leave-nothing

  pub differences-are-192 : length (differences a b) ≡ 192
  unfolding differences
  differences-are-192 = sent-length (xored a b) ∙ ap (λ (k : ℕ). k * 8) (length-xored a b same_length ∙ right-is-whole b rb)
