-- How text grows in a buffer from its end, and how a number is spelled from its last digit on. Assumes nothing.
use mathlib.Core.Path.{◌≡◌, refl, sym, ap, ◌∙◌}
use mathlib.Core.List.{List, [], ◌∷◌, ◌++◌, append_assoc, append-nil}
use Prim.Native.Nat.{ℕ, suc, ◌+◌, ◌-◌, ◌/◌, ◌%◌, ◌≤◌, ◌<◌}
use native.Mathlib.Omega.{arith}
use borrow.Author.Tests.{eq-eqb, ne_eqb}
use lib.ListN.{length, take, drop, set, length-drop, length-append, length-set, take-append-drop, drop_of_length-le}
use borrow.Rule.Slice.PartMut.{put_mid, post_of}
use lib.Seq.{take-take, take-set-le, drop-cons, lt-length-set, get_or-set_same, drop-set-lt, drop-drop}
use lib.Seq.{length-take-le, take_at, drop_at}
use Rattle.report.specs.Text.{digits, decimal}
use Rattle.report.specs.Placed.{start_in, with_text}
use Rattle.report.specs.Inner.{Put}

-- ---- text before a place

-- where it starts follows from the lengths
pub put_of : {old new text : List ℕ} {end from : ℕ} → length new ≡ length old → from ≤ length old → end ≤ length old
    → take from new ≡ take from old → drop from new ≡ text ++ drop end old → Put old end text from new
put_of {old = old} {new = new} {text = text} {end = end} {from = from} same f e front back =
    let l : length (drop from new) ≡ length text + length (drop end old) = ap length back ∙ length-append text (drop end old) in
    record {
      ends = omega (arith, l, length-drop from new, length-drop end old);
      before = front;
      after = back;
    }

-- one text before another
pub put_then : {old mid new text more : List ℕ} {end from start : ℕ} → Put old end text from mid → Put mid from more start new
    → Put old end (more ++ text) start new
put_then {old = old} {mid = mid} {new = new} {text = text} {more = more} {end = end} {from = from} {start = start} p q =
    let l : start ≤ from = omega (arith, q.ends) in
    record {
      ends = omega (arith, p.ends, q.ends, length-append more text);
      before = q.before ∙ sym (take-take start from mid l) ∙ ap (take start) p.before ∙ take-take start from old l;
      after = q.after ∙ ap (λ (s : List ℕ). more ++ s) p.after ∙ sym (append_assoc more text (drop end old));
    }

-- at the end of the buffer
module _ {old new text : List ℕ} {end from : ℕ} (size : length old ≡ end) (p : Put old end text from new) where
  pub put-start : from ≡ start_in end text
  unfolding start_in
  put-start = omega (arith, p.ends)

  pub put_all : new ≡ with_text text old
  unfolding with_text
  put_all =
      let l : length old ≤ end = omega arith in
      sym (take-append-drop from new)
      ∙ ap (λ (s : List ℕ). s ++ drop from new) p.before
      ∙ ap (λ (s : List ℕ). take from old ++ s) (p.after ∙ ap (λ (s : List ℕ). text ++ s) (drop_of_length-le old l) ∙ append-nil text)
      ∙ ap (λ (k : ℕ). take k old ++ text) (put-start ∙ ap (λ (k : ℕ). start_in k text) (sym size))

-- nothing, before a place
pub put-nothing : (old : List ℕ) (end : ℕ) → Put old end [] end old
put-nothing old end = record { ends = omega arith; before = refl; after = refl }

-- the same text in another form
pub put_as : {old new text same : List ℕ} {end from : ℕ} → text ≡ same → Put old end text from new → Put old end same from new
put_as {old = old} {end = end} e p =
    record {
      ends = omega (arith, p.ends, ap length e);
      before = p.before;
      after = p.after ∙ ap (λ (s : List ℕ). s ++ drop end old) e;
    }

-- ---- an octet, and a word that is copied

end_before : (d : List ℕ) (at a : ℕ) → 0 < at → at ≤ length d → drop (at - 1) (set d (at - 1) a) ≡ a ∷ drop at d
end_before d at a h g =
    let l : at - 1 < length d = omega arith in
    let e : suc (at - 1) ≡ at = omega arith in
    let m : at - 1 < suc (at - 1) = omega arith in
    drop-cons (set d (at - 1) a) (at - 1) 0 (lt-length-set d (at - 1) a l)
    ∙ ap (λ (x : ℕ). x ∷ drop (suc (at - 1)) (set d (at - 1) a)) (get_or-set_same d (at - 1) a 0 l)
    ∙ ap (λ (s : List ℕ). a ∷ s) (drop-set-lt (suc (at - 1)) d (at - 1) a m ∙ ap (λ (n : ℕ). drop n d) e)

pub put-set : (old : List ℕ) (end a : ℕ) → 0 < end → end ≤ length old → Put old end (a ∷ []) (end - 1) (set old (end - 1) a)
put-set old end a h e =
    let l : end - 1 ≤ end - 1 = omega arith in
    put_of (length-set old (end - 1) a) (omega arith) e (take-set-le (end - 1) old (end - 1) a l) (end_before old end a h e)

-- a word copied into the octets before `end`
pub put-copy : (old word : List ℕ) (end : ℕ) {part : List ℕ} → length word ≤ end → end ≤ length old → part ≡ word
    → Put old end word (end - length word) (put_mid (end - length word) (end - (end - length word)) old part)
put-copy old word end {part} h e p =
    let from = end - length word in
    let l : length (take from old) ≡ from = length-take-le from old (omega arith) in
    let m : from + (end - from) ≡ end = omega arith in
    let rest : post_of from (end - from) old ≡ drop end old = drop-drop (end - from) from old ∙ ap (λ (k : ℕ). drop k old) m in
    let q : put_mid from (end - from) old part ≡ take from old ++ (word ++ drop end old) = rw (p, rest) refl in
    record {
      ends = omega arith;
      before = ap (take from) q ∙ take_at (take from old) (word ++ drop end old) from l;
      after = ap (drop from) q ∙ drop_at (take from old) (word ++ drop end old) from l;
    }

-- ---- a number, from its last digit on

module _ (at n : ℕ) (after : List ℕ) (h : 0 < at) where
  digits_last : n / 10 ≡ 0 → digits at n ++ after ≡ (48 + n % 10) ∷ after
  unfolding digits
  digits_last e =
      let k : at ≡ suc (at - 1) = omega arith in
      ap (λ (m : ℕ). digits m n ++ after) k
      ∙ simp (eq-eqb _ _ e)

  digits_more : (n / 10 ≡ 0 → ⊥) → digits at n ++ after ≡ digits (at - 1) (n / 10) ++ ((48 + n % 10) ∷ after)
  unfolding digits
  digits_more e =
      let k : at ≡ suc (at - 1) = omega arith in
      ap (λ (m : ℕ). digits m n ++ after) k
      ∙ simp (ne_eqb _ _ e, append_assoc)

digits-none : (n : ℕ) (after : List ℕ) → digits 0 n ++ after ≡ after
unfolding digits
digits-none n after = refl

module _ (old : List ℕ) (end n : ℕ) where
  -- the digits that are left, before what stands already
  pub record Spelling (base : ℕ) (new : List ℕ) (left rest : ℕ) : Type 0 where
    pub most : left ≤ 20
    pub size : length new ≡ length old
    pub before : take (base + left) new ≡ take (base + left) old
    pub whole : digits left rest ++ drop (base + left) new ≡ decimal n ++ drop end old

  module _ {base : ℕ} (place : base + 20 ≡ end) (room : end ≤ length old) where
    pub spelling-starts : Spelling base old 20 n
    unfolding decimal
    spelling-starts = record { most = omega arith; size = refl; before = refl; whole = ap (λ (k : ℕ). digits 20 n ++ drop k old) place }

    module _ {new : List ℕ} {left rest : ℕ} (s : Spelling base new left rest) where
      -- no digit is left
      pub spelled_out : left ≡ 0 → Put old end (decimal n) base new
      spelled_out e =
          let at : base + left ≡ base = omega arith in
          put_of s.size (omega arith) room
          (ap (λ (k : ℕ). take k new) (sym at) ∙ s.before ∙ ap (λ (k : ℕ). take k old) at)
          (ap (λ (k : ℕ). drop k new) (sym at) ∙ sym (digits-none rest (drop (base + left) new))
          ∙ ap (λ (k : ℕ). digits k rest ++ drop (base + left) new) (sym e) ∙ s.whole)

      module _ (more : 0 < left) where
        -- the buffer with one digit more
        abbrev written : List ℕ
        written = set new (base + (left - 1)) (48 + rest % 10)

        here : base + left - 1 ≡ base + (left - 1)
        here = omega arith

        front : take (base + (left - 1)) written ≡ take (base + (left - 1)) old
        front =
            let l : base + (left - 1) ≤ base + left = omega arith in
            let m : base + (left - 1) ≤ base + (left - 1) = omega arith in
            take-set-le (base + (left - 1)) new (base + (left - 1)) (48 + rest % 10) m
            ∙ sym (take-take (base + (left - 1)) (base + left) new l) ∙ ap (take (base + (left - 1))) s.before
            ∙ take-take (base + (left - 1)) (base + left) old l

        back : drop (base + (left - 1)) written ≡ (48 + rest % 10) ∷ drop (base + left) new
        back = rw here at (end_before new (base + left) (48 + rest % 10) (omega arith) (omega (arith, s.size, s.most)))

        -- the highest digit
        pub spelled-last : rest / 10 ≡ 0 → Put old end (decimal n) (base + (left - 1)) written
        spelled-last e =
            put_of (length-set new (base + (left - 1)) (48 + rest % 10) ∙ s.size) (omega (arith, s.most)) room front
            (back ∙ sym (digits_last left rest (drop (base + left) new) more e) ∙ s.whole)

        pub spelled-on : (rest / 10 ≡ 0 → ⊥) → Spelling base written (left - 1) (rest / 10)
        spelled-on e =
            record {
              most = omega (arith, s.most);
              size = length-set new (base + (left - 1)) (48 + rest % 10) ∙ s.size;
              before = front;
              whole = ap (λ (t : List ℕ). digits (left - 1) (rest / 10) ++ t) back
                  ∙ sym (digits_more left rest (drop (base + left) new) more e) ∙ s.whole;
            }
