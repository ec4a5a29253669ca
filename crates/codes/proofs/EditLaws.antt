-- One byte of a right block edited: what it adds to byte 23, since the divider is linear; and the edit is sealing
-- afresh. Assumes nothing.
use mathlib.Core.Path.{◌≡◌, refl, sym, ap, ap₂, ◌∙◌}
use mathlib.Core.Logic.{⊎_elim}
use mathlib.Core.Bool.{Bool, true, false, ◌||◌}
use mathlib.Core.List.{List, [], ◌∷◌, ◌++◌}
use Prim.Native.Nat.{ℕ, suc, ◌+◌, ◌-◌, ◌*◌, ◌≤◌, ◌<◌}
use native.Mathlib.Omega.{arith}
use borrow.Author.Tests.{eqb-true}
use lib.Dec.{lit<, eqb}
use lib.ListN.{length, get_or, take, set, replicate, replicate-append-replicate, length-set}
use lib.Seq.{take-set-lt, get_or-take, get_or-set_same, get_or-set_other, length-take-le, ext_get_or}
use lib.Bits.{bit_xor, xor_zero_r}
use Rattle.bits.specs.Pick.{pick}
use Rattle.bits.specs.Row.{bits, big_bits, little}
use Rattle.bits.proofs.Rows.{length-big_bits}
use Rattle.bits.proofs.Counts.{count_zeros}
use Rattle.bits.proofs.Xor.{xor-twice}
use Rattle.bits.proofs.XorRows.{big_bits-xor}
use Rattle.bits.proofs.Beside.{little-xor, same_or_not}
use Rattle.bits.proofs.Packing.{chain-append, chain-one}
use Rattle.answer.specs.Answer.{Answer.accepted, rewritten}
use Rattle.answer.specs.Residue.{InPlace}
use Rattle.answer.proofs.Chains.{met}
use Rattle.answer.proofs.Residues.{whole, in_place}
use Rattle.codes.specs.Divide.{through}
use Rattle.codes.specs.Crcc.{crcc_generator, sent, stages_after, octet_of, crcc_of, crcc_right, sealed}
use Rattle.codes.specs.Edit.{edit_demands, with_byte, edit_answer, edited}
use Rattle.codes.specs.Inner.{SentTable, crcc_added}
use Rattle.codes.proofs.Linear.{through-append, through-lt}
use Rattle.codes.proofs.Emptied.{silent}
use Rattle.codes.proofs.Xored.{zeros, none-there, sent-zeros, xored-set}
use Rattle.codes.proofs.CrccTable.{sent-next}
use Rattle.codes.proofs.CrccBlocks.{stages_from, right-is-whole, right-is-crcc, stages-xored}
use Rattle.codes.proofs.SealLaws.{set_at, sealed-24, seal-makes-right, seal-leaves-none}

-- ---- octet by octet, from any stages

stages-append : (s : ℕ) (os ps : List ℕ) → stages_from s (os ++ ps) ≡ stages_from (stages_from s os) ps
unfolding sent
stages-append s os ps = rw (chain-append, through-append)

stages-one : (s o : ℕ) → stages_from s (o ∷ []) ≡ through 8 crcc_generator s (bits 8 o)
unfolding sent
stages-one s o = ap (through 8 crcc_generator s) (chain-one (bits 8) o)

-- ---- the difference, and zeros after it, by the table

abbrev pub followed : ℕ → ℕ → ℕ
followed d n = stages_from 0 (d ∷ replicate n 0)

pub added-first : (t : List ℕ) (d : ℕ) → SentTable t → d < 256 → get_or t d 0 ≡ octet_of (followed d 0)
added-first t d table h = table.entry d h ∙ ap octet_of (sym (stages-one 0 d))

pub added_next : (t : List ℕ) (d n : ℕ) → SentTable t → get_or t (octet_of (followed d n)) 0 ≡ octet_of (followed d (n + 1))
added_next t d n table =
    let s = followed d n in
    ap (λ (i : ℕ). get_or t i 0) (sym (xor_zero_r (octet_of s)))
    ∙ sent-next t s 0 table (through-lt 8 crcc_generator refl 0 (sent (d ∷ replicate n 0)) (lit< tt)) (lit< tt)
    ∙ ap octet_of (sym (stages-one s 0) ∙ sym (stages-append 0 (d ∷ replicate n 0) (0 ∷ []))
    ∙ ap (λ (os : List ℕ). stages_from 0 (d ∷ os)) (replicate-append-replicate n 1 0))

-- ---- one octet of many set anew

zeros-keep-empty : (n : ℕ) → stages_from 0 (replicate n 0) ≡ 0
zeros-keep-empty n =
    ap (through 8 crcc_generator 0) (sent-zeros n)
    ∙ silent 8 crcc_generator refl refl (zeros (n * 8)) (count_zeros (zeros (n * 8)) (none-there (n * 8)))

pub stages-set : (os : List ℕ) (k v : ℕ) → k < length os
    → stages_after (set os k v) ≡ bit_xor (stages_after os) (followed (bit_xor (get_or os k 0) v) (length os - suc k))
unfolding stages_after
stages-set os k v h =
    let rest = bit_xor (get_or os k 0) v ∷ replicate (length os - suc k) 0 in
    sym (xor-twice (stages_after os) (stages_after (set os k v)))
    ∙ ap (bit_xor (stages_after os)) (sym (stages-xored 255 255 os (set os k v) (lit< tt) (lit< tt) (sym (length-set os k v)))
    ∙ ap (stages_from 0) (xored-set os k v h) ∙ stages-append 0 (replicate k 0) rest
    ∙ ap (λ (s : ℕ). stages_from s rest) (zeros-keep-empty k))

octet-xor : (s t : ℕ) → octet_of (bit_xor s t) ≡ bit_xor (octet_of s) (octet_of t)
unfolding octet_of
octet-xor s t =
    ap little (big_bits-xor 8 s t) ∙ little-xor (big_bits 8 s) (big_bits 8 t) (length-big_bits 8 s ∙ sym (length-big_bits 8 t))

-- ---- a right block: the new byte 23 from the old one and the difference

pub crcc-from-difference : (status : List ℕ) (byte value : ℕ) → crcc_right status ≡ true → byte ≤ 22
    → bit_xor (get_or status 23 0) (crcc_added byte (bit_xor (get_or status byte 0) value)) ≡ crcc_of (set status byte value)
unfolding crcc_of crcc_added
crcc-from-difference status byte value right h =
    let first = take 23 status in
    let n : length first ≡ 23 = length-take-le 23 status (omega (arith, right-is-whole status right)) in
    let d = bit_xor (get_or status byte 0) value in
    let left : length first - suc byte ≡ 22 - byte = omega arith in
    let same : get_or first byte 0 ≡ get_or status byte 0 = get_or-take 23 status byte 0 (omega arith) in
    ap (λ (o : ℕ). bit_xor o (octet_of (followed d (22 - byte)))) (right-is-crcc status right)
    ∙ sym (octet-xor (stages_after first) (followed d (22 - byte)))
    ∙ ap octet_of (sym (ap stages_after (take-set-lt 23 status byte value (omega arith))
    ∙ stages-set first byte value (omega arith)
    ∙ ap₂ (λ (o k : ℕ). bit_xor (stages_after first) (followed (bit_xor o value) k)) same left))

-- ---- what an edit gives

module _ (status : List ℕ) (byte value : ℕ) where
  abbrev new : List ℕ
  new = set status byte value

  -- an accepted edit: what was asked, and the block that it gives
  pub edit-accepted : (w : List ℕ) → edit_answer status byte value ≡ accepted w → (length status ≡ 24) × (with_byte status byte value ≡ w)
  unfolding edit_answer
  edit-accepted w e =
      let m = met (with_byte status byte value) (edit_demands status byte value) e in
      (eqb-true (length status) 24 m.0.0, m.1)

  length-new : length status ≡ 24 → length (with_byte status byte value) ≡ length status
  unfolding with_byte
  length-new n = length-set new 23 (crcc_of new) ∙ length-set status byte value

  -- the buffer after it is that block
  pub edited-is : (w : List ℕ) → edit_answer status byte value ≡ accepted w → edited status byte value ≡ w
  edited-is w e =
      let a = edit-accepted w e in
      ap (λ x. rewritten x status) e ∙ whole (λ (v : List ℕ). v) w status (ap length (sym a.1) ∙ length-new a.0)

  -- the edit equals sealing afresh
  pub edit-is-sealing-afresh : (w : List ℕ) → edit_answer status byte value ≡ accepted w → edited status byte value ≡ sealed (set status byte value)
  unfolding with_byte
  edit-is-sealing-afresh w e =
      let a = edit-accepted w e in
      edited-is w e ∙ sym a.1 ∙ sym (sealed-24 new (length-set status byte value ∙ a.0))

  pub edit-makes-right : (w : List ℕ) → edit_answer status byte value ≡ accepted w → crcc_right (edited status byte value) ≡ true
  edit-makes-right w e =
      rw (edit-is-sealing-afresh w e) (seal-makes-right new (length-set status byte value ∙ (edit-accepted w e).0))

-- ---- in place: it writes that byte and byte 23 and no other, and on a refusal none

pub edit-in-place : (byte value : ℕ)
    → InPlace 0 (λ status k. eqb k 23 || eqb k byte) (λ status k. pick (eqb k 23) (crcc_of (set status byte value)) value)
    (λ status. edit_answer status byte value) (λ status. edited status byte value)
unfolding with_byte
edit-in-place byte value =
    in_place (λ v. v) 0 (λ status k. eqb k 23 || eqb k byte) (λ status k. pick (eqb k 23) (crcc_of (set status byte value)) value)
    (λ status. edit_answer status byte value)
    (λ a v e. let m = edit-accepted a byte value v e in ap length (sym m.1) ∙ length-new a byte value m.0)
    (λ a v e k h. ap (λ (l : List ℕ). get_or l k 0) (sym (edit-accepted a byte value v e).1)
    ∙ set_at (set a byte value) 23 (crcc_of (set a byte value)) k (rw (length-set a byte value) h)
    ∙ ap (λ (x : ℕ). pick (eqb k 23) (crcc_of (set a byte value)) x) (set_at a byte value k h)
    ∙ either (eqb k 23) (eqb k byte) (crcc_of (set a byte value)) value (get_or a k 0))
  where
    either : (p q : Bool) (x y z : ℕ) → pick p x (pick q y z) ≡ pick (p || q) (pick p x y) z
    either true q x y z = refl
    either false q x y z = refl

-- ---- no residue: of bytes 0 to 22 all but the edited one are its input, and what stood in that byte and in byte 23
-- shows nowhere

module _ (a b : List ℕ) (byte value : ℕ) where
  set_same : length a ≡ 24 → length b ≡ 24 → ((i : ℕ) → i < 23 → (i ≡ byte → ⊥) → get_or a i 0 ≡ get_or b i 0)
      → (i : ℕ) → i < 23 → get_or (set a byte value) i 0 ≡ get_or (set b byte value) i 0
  set_same m n same i h =
      ⊎_elim (λ e. ap (λ (j : ℕ). get_or (set a byte value) j 0) e ∙ get_or-set_same a byte value 0 (omega arith)
      ∙ sym (get_or-set_same b byte value 0 (omega arith)) ∙ ap (λ (j : ℕ). get_or (set b byte value) j 0) (sym e))
      (λ f. get_or-set_other a byte i value 0 f ∙ same i h f ∙ sym (get_or-set_other b byte i value 0 f)) (same_or_not i byte)

  pub edit-leaves-none : (v w : List ℕ) → edit_answer a byte value ≡ accepted v → edit_answer b byte value ≡ accepted w
      → ((i : ℕ) → i < 23 → (i ≡ byte → ⊥) → get_or a i 0 ≡ get_or b i 0) → edited a byte value ≡ edited b byte value
  edit-leaves-none v w ea eb same =
      let x = set a byte value in
      let y = set b byte value in
      let la : length a ≡ 24 = (edit-accepted a byte value v ea).0 in
      let lb : length b ≡ 24 = (edit-accepted b byte value w eb).0 in
      let m : length x ≡ 24 = length-set a byte value ∙ la in
      let n : length y ≡ 24 = length-set b byte value ∙ lb in
      let mx : length (take 23 x) ≡ 23 = length-take-le 23 x (omega arith) in
      let ny : length (take 23 y) ≡ 23 = length-take-le 23 y (omega arith) in
      let front : take 23 x ≡ take 23 y =
      ext_get_or 0 (take 23 x) (take 23 y) (mx ∙ sym ny) (λ i h. let k : i < 23 = omega arith in
      get_or-take 23 x i 0 k ∙ set_same la lb same i k ∙ sym (get_or-take 23 y i 0 k)) in
      edit-is-sealing-afresh a byte value v ea ∙ seal-leaves-none x y m n front ∙ sym (edit-is-sealing-afresh b byte value w eb)
