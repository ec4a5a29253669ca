-- A subframe there and back: what is written from a body, even or odd, is read as this body, what is read is written as
-- the same symbols, and an even body leaves the level as it was. Assumes nothing.
use mathlib.Core.Path.{◌≡◌, refl, sym, ap, ◌∙◌}
use mathlib.Core.Bool.{Bool, true}
use mathlib.Core.List.{◌++◌}
use Prim.Native.Nat.{ℕ, ◌*◌, ◌/◌, ◌^◌}
use native.Mathlib.Omega.{arith}
use borrow.Author.Tests.{eq-eqb, eqb-true}
use lib.ListN.{length, take, drop, length-append, length-drop, take-append-drop}
use lib.Seq.{take_at, drop_at, length-take-le}
use Rattle.bits.specs.Row.{Row, big_bits, little, big, parity}
use Rattle.bits.specs.Window.{window}
use Rattle.bits.proofs.Rows.{length-bits, little-lt, little-bits, bits-little, big_bits-big}
use Rattle.bits.proofs.Windows.{part_in}
use Rattle.answer.specs.Answer.{Answer.accepted, Answer.refused}
use Rattle.answer.specs.Demand.{AllMet, Stops, ◌&◌}
use Rattle.answer.proofs.Chains.{met, passing, stopped}
use Rattle.line.specs.Biphase.{biphase, left, changing, held}
use Rattle.line.proofs.BiphaseLaws.{length-held, held-biphase, changing-biphase, biphase-held, left-append, level-kept}
use Rattle.subframe.specs.Body.{IsBody, Proper, slots}
use Rattle.subframe.proofs.BodyLaws.{parity-slots, slots-bits}
use Rattle.aes3_line.specs.Subframe.{preamble, subframe, body_held, subframe_demands, subframe_read}
use Rattle.aes3_line.proofs.Preambles.{length-preamble, left-preamble}

-- ---- the answer, by its demands

pub subframe-met : (i : ℕ) (l : Bool) (s : Row) → AllMet (subframe_demands i l s) → subframe_read i l s ≡ accepted (body_held (drop 8 s))
unfolding subframe_read
subframe-met i l s m = passing (accepted (body_held (drop 8 s))) (subframe_demands i l s) m

pub subframe-stops : (i : ℕ) (l : Bool) (s : Row) {number place : ℕ} → Stops (subframe_demands i l s) number place
    → subframe_read i l s ≡ refused number place
unfolding subframe_read
subframe-stops i l s h = stopped (accepted (body_held (drop 8 s))) h

pub body-held : (s : Row) → body_held s ≡ little (held s) * 2 ^ 4
unfolding body_held
body-held s = refl

pub window-first : (p s : Row) → length p ≡ 8 → window (p ++ s) 0 8 ≡ big p
unfolding window
window-first p s h = ap big (part_in (p ++ s) 0 8 (rw length-append (omega arith)) ∙ take_at p s 8 h)

-- ---- there and back

-- a body is what its slots hold
slots-hold : (l : Bool) (b : ℕ) → IsBody b → body_held (biphase l (slots b)) ≡ b
slots-hold l b p =
    let n : little (slots b) ≡ b / 2 ^ 4 = rw slots-bits (little-bits 28 (b / 2 ^ 4) (omega (arith, p.small))) in
    body-held (biphase l (slots b)) ∙ rw (held-biphase l (slots b), n) (omega (arith, p.low))

pub read-written : (i : ℕ) (l : Bool) (b : ℕ) → IsBody b → subframe_read i l (subframe i l b) ≡ accepted b
unfolding subframe
read-written i l b p =
    let n = length-preamble i l in
    let k = left l (preamble i l) in
    let s = biphase k (slots b) in
    let d : drop 8 (preamble i l ++ s) ≡ s = drop_at (preamble i l) s 8 n in
    let h : body_held (drop 8 (preamble i l ++ s)) ≡ b = ap body_held d ∙ slots-hold k b p in
    subframe-met i l (preamble i l ++ s)
    (eq-eqb _ _ (window-first (preamble i l) s n)
    & (rw (take_at (preamble i l) s 8 n, d) (changing-biphase k (slots b)))
    & tt)
    ∙ ap accepted h

-- what an accepted subframe says
pub record Accepted (i : ℕ) (l : Bool) (s : Row) (b : ℕ) : Type 0 where
  pub opens : window s 0 8 ≡ big (preamble i l)
  pub changes : changing (left l (take 8 s)) (drop 8 s) ≡ true
  pub body : body_held (drop 8 s) ≡ b

accepting : (i : ℕ) (l : Bool) (s : Row) (b : ℕ) → subframe_read i l s ≡ accepted b → Accepted i l s b
unfolding subframe_read
accepting i l s b e =
    let m = met (body_held (drop 8 s)) (subframe_demands i l s) e in
    record {
      opens = eqb-true _ _ m.0.0;
      changes = m.0.1.0;
      body = m.1;
    }

module _ (i : ℕ) (l : Bool) (s : Row) (b : ℕ) (n : length s ≡ 64) (e : subframe_read i l s ≡ accepted b) where
  a : Accepted i l s b
  a = accepting i l s b e

  long : length (held (drop 8 s)) ≡ 28
  long = length-held 28 (drop 8 s) (rw length-drop (omega arith))

  value : little (held (drop 8 s)) * 2 ^ 4 ≡ b
  value = sym (body-held (drop 8 s)) ∙ a.body

  slots_read : slots b ≡ held (drop 8 s)
  slots_read =
      let q : b / 2 ^ 4 ≡ little (held (drop 8 s)) = omega (arith, value) in
      slots-bits b ∙ rw q (rw long at (bits-little (held (drop 8 s))))

  pub read-body : IsBody b
  read-body = record { small = omega (arith, value, rw long at (little-lt (held (drop 8 s)))); low = omega (arith, value) }

  preamble-read : preamble i l ≡ take 8 s
  unfolding window
  preamble-read =
      let h : length (take 8 s) ≡ 8 = length-take-le 8 s (omega arith) in
      let w : big (take 8 s) ≡ big (preamble i l) = rw (part_in s 0 8 (omega arith)) at a.opens in
      sym (rw (length-preamble i l) at (big_bits-big (preamble i l))) ∙ ap (big_bits 8) (sym w) ∙ rw h at (big_bits-big (take 8 s))

  pub written_read : subframe i l b ≡ s
  unfolding subframe
  written_read =
      rw (preamble-read, slots_read, biphase-held (left l (take 8 s)) (drop 8 s) a.changes) (take-append-drop 8 s)

-- an even body leaves the level as it was
pub level-returns : (i : ℕ) (l : Bool) (b : ℕ) → Proper b → left l (subframe i l b) ≡ l
unfolding subframe
level-returns i l b p =
    let even : parity (slots b) ≡ 0 = sym (parity-slots b) ∙ p.evenly in
    left-append l (preamble i l) (biphase (left l (preamble i l)) (slots b))
    ∙ rw (left-preamble i l) (level-kept l (slots b) (rw (slots-bits b, length-bits 28 (b / 2 ^ 4)) refl) even)
