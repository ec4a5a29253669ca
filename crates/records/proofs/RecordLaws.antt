-- Words of two octets, the end of a list as a part of it, and what is answered of a record by its kind. Assumes
-- nothing.
use mathlib.Core.Path.{◌≡◌, refl, ap, ap₂, ◌∙◌}
use mathlib.Core.List.{List, [], ◌∷◌}
use Prim.Native.Nat.{ℕ, zero, suc, ◌+◌, ◌-◌, ◌*◌, ◌≤◌, ◌<◌}
use native.Mathlib.Omega.{arith}
use borrow.Author.Tests.{eq-eqb, ne_eqb, le-leb, leb-true}
use lib.ListN.{length, get_or, take, drop, length-drop}
use lib.Seq.{take_all}
use Rattle.answer.specs.Answer.{Answer.accepted, Answer.refused}
use Rattle.answer.specs.Demand.{◌&◌}
use Rattle.answer.specs.Demand.Stops.{fails}
use Rattle.answer.proofs.Chains.{passing, stopped, met, stops}
use Rattle.records.specs.Record.{big_endian, words_filled, packet_record, kind_demands, kind_of, by_kind, record_answer}

-- ---- words of two octets

pub length-words : (n : ℕ) (s : List ℕ) → length s ≡ n * 2 → length (big_endian s) ≡ n
unfolding big_endian
length-words zero [] h = refl
length-words zero (a ∷ s) h = absurd (omega arith)
length-words (suc n) [] h = absurd (omega arith)
length-words (suc n) (a ∷ []) h = absurd (omega arith)
length-words (suc n) (a ∷ b ∷ s) h = ap suc (length-words n s (omega arith))

pub word_at : (n : ℕ) (s : List ℕ) (i : ℕ) → length s ≡ n * 2 → i < n
    → get_or s (i * 2) 0 * 256 + get_or s (i * 2 + 1) 0 ≡ get_or (big_endian s) i 0
unfolding big_endian
word_at zero s i h k = absurd (omega arith)
word_at (suc n) [] i h k = absurd (omega arith)
word_at (suc n) (a ∷ []) i h k = absurd (omega arith)
word_at (suc n) (a ∷ b ∷ s) zero h k = refl
word_at (suc n) (a ∷ b ∷ s) (suc i) h k =
    let p : suc i * 2 ≡ suc (suc (i * 2)) = omega arith in
    let q : suc i * 2 + 1 ≡ suc (suc (i * 2 + 1)) = omega arith in
    ap₂ (λ (x y : ℕ). get_or (a ∷ b ∷ s) x 0 * 256 + get_or (a ∷ b ∷ s) y 0) p q ∙ word_at n s i (omega arith) (omega arith)

-- words of just so many octets, and of any other number
pub filled-words : (octets old : List ℕ) → length octets ≡ length old * 2 → words_filled octets old ≡ big_endian octets
unfolding words_filled
filled-words octets old h = simp (eq-eqb (length octets) (length old * 2) h)

pub unfilled : (octets old : List ℕ) → (length octets ≡ length old * 2 → ⊥) → words_filled octets old ≡ old
unfolding words_filled
unfilled octets old h = simp (ne_eqb (length octets) (length old * 2) h)

-- ---- a part that goes to the end

pub to_the_end : (k : ℕ) (s : List ℕ) → take (length s - k) (drop k s) ≡ drop k s
to_the_end k s =
    let l : length (drop k s) ≤ length s - k = simp length-drop (omega arith) in
    take_all (length s - k) (drop k s) l

-- ---- a record

module _ (body : List ℕ) where
  -- what is refused before the kind is known is all that is answered
  pub kind-refused : (number place : ℕ) → kind_of body ≡ refused number place → record_answer body ≡ refused number place
  unfolding kind_of record_answer
  kind-refused number place e = stopped (by_kind (get_or body 1 0) (drop 2 body)) (stops (get_or body 1 0) (kind_demands body) number place e)

  module _ (kind : ℕ) (e : kind_of body ≡ accepted kind) where
    -- a record that has a kind has its two octets
    pub kind-within : 2 ≤ length body
    unfolding kind_of
    kind-within = leb-true 2 (length body) (met (get_or body 1 0) (kind_demands body) e).0.0

    -- and what is answered of it is by its kind
    pub kind-known : record_answer body ≡ by_kind kind (drop 2 body)
    unfolding kind_of record_answer
    kind-known =
        let m = met (get_or body 1 0) (kind_demands body) e in
        passing (by_kind (get_or body 1 0) (drop 2 body)) (kind_demands body) m.0 ∙ ap (λ (k : ℕ). by_kind k (drop 2 body)) m.1

-- a packet of another length
pub packet-short : (body : List ℕ) → kind_of body ≡ accepted 2 → (length (drop 2 body) ≡ 62 → ⊥) → record_answer body ≡ refused 1 0
unfolding by_kind packet_record
packet-short body e h = kind-known body 2 e ∙ stopped _ (fails (ne_eqb (length (drop 2 body)) 62 h))

-- the kind of two octets and more of version 1
pub kind-is : (body : List ℕ) → 2 ≤ length body → get_or body 0 0 ≡ 1 → kind_of body ≡ accepted (get_or body 1 0)
unfolding kind_of
kind-is body l v =
    passing (accepted (get_or body 1 0)) (kind_demands body) (le-leb 2 (length body) l & eq-eqb (get_or body 0 0) 1 v & tt)
