-- No residue. Closing gaps leaves none in the list of moves. The table is what a call is given and what it edits in
-- place: which of its slots a call writes, with what, and that all others stay. Assumes nothing.
use mathlib.Core.Path.{◌≡◌, refl, sym, ap, ◌∙◌}
use mathlib.Core.Bool.{Bool, true, false, ◌&&◌}
use mathlib.Core.Logic.{⊎_elim}
use mathlib.Core.List.{List, [], ◌∷◌}
use Prim.Native.Nat.{ℕ, zero, suc, ◌+◌, ◌≤◌, ◌<◌}
use native.Mathlib.Nat.{zero-add}
use native.Mathlib.Omega.{arith}
use borrow.Author.Tests.{eq-eqb, ne_eqb, eqb-true, le-ltb, lt-ltb}
use lib.Dec.{eqb, ltb}
use lib.ListN.{length, get_or, take}
use Rattle.bits.specs.Pick.{pick}
use Rattle.bits.specs.Row.{digit, count}
use Rattle.bits.proofs.Tests.{order}
use Rattle.answer.specs.Answer.{Answer.accepted}
use Rattle.answer.specs.Residue.{NoResidue, InPlace}
use Rattle.answer.proofs.Chains.{met}
use Rattle.answer.proofs.Residues.{no-residue, in_place}
use Rattle.leases.specs.Table.{held_by, granted, returned, closed}
use Rattle.leases.specs.Calls.{ask_demands, ask_answer, ask_table, back_demands, back_answer, back_table}
use Rattle.leases.specs.Calls.{close_demands, close_answer, close_table, close_moves, moves_list}
use Rattle.leases.proofs.Holding.{own-or-other, length-granted, length-returned}
use Rattle.leases.proofs.Closing.{length-closed}
use Rattle.leases.proofs.Answering.{length-list}

closing : (room : ℕ) (table v : List ℕ) → close_answer room table ≡ accepted v → (length table ≡ 64) × (table ≡ v)
unfolding close_answer
closing room table v e =
    let m = met table (close_demands room table) e in
    (eqb-true (length table) 64 m.0.0, m.1)

-- the list of moves is of 128 octets
pub closing-leaves-none : (table : List ℕ) → NoResidue 128 (λ moves. close_answer (length moves) table) (close_moves table)
closing-leaves-none table =
    no-residue moves_list 128 (λ n. close_answer n table)
    (λ room v e. let m = closing room table v e in ap (λ l. length (moves_list l)) (sym m.1) ∙ length-list table m.0)

-- ---- asking writes the n lowest free slots, with the tenant's number

-- slot k is free, and so are fewer than n of those below it
abbrev pub low_free : ℕ → List ℕ → ℕ → Bool
low_free n table k = eqb (get_or table k 0) 0 && ltb (held_by 0 (take k table)) n

none_of : (b : Bool) (n : ℕ) → (b && ltb n 0) ≡ false
none_of true n = le-ltb n 0 (omega arith)
none_of false n = refl

fewer : (m n : ℕ) → ltb (digit true + m) (suc n) ≡ ltb m n
fewer m n =
    ⊎_elim (λ (l : n ≤ m). le-ltb (digit true + m) (suc n) (omega arith) ∙ sym (le-ltb m n l))
    (λ (l : m < n). lt-ltb (digit true + m) (suc n) (omega arith) ∙ sym (lt-ltb m n l)) (order n m)

grant-at : (t n : ℕ) (table : List ℕ) (k : ℕ) → k < length table
    → get_or (granted t n table) k 0 ≡ pick (low_free n table k) t (get_or table k 0)
unfolding granted held_by count
grant-at t n [] k h = absurd (omega arith)
grant-at t zero (x ∷ table) k h =
    sym (ap (λ (b : Bool). pick b t (get_or (x ∷ table) k 0)) (none_of (eqb (get_or (x ∷ table) k 0) 0) (held_by 0 (take k (x ∷ table)))))
grant-at t (suc n) (x ∷ table) zero h = own-or-other x 0 (λ e. rw (eq-eqb x 0 e, lt-ltb 0 (suc n) (omega arith))) (λ d. rw (ne_eqb x 0 d))
grant-at t (suc n) (x ∷ table) (suc k) h =
    own-or-other x 0 (λ e. rw (eq-eqb x 0 e, fewer (held_by 0 (take k table)) n) (grant-at t n table k (omega arith)))
    (λ d. rw (ne_eqb x 0 d, zero-add) (grant-at t (suc n) table k (omega arith)))

pub asking-in-place : (t n : ℕ) → InPlace 0 (low_free n) (λ table k. t) (ask_answer t n) (ask_table t n)
unfolding ask_answer
asking-in-place t n =
    in_place (λ l. l) 0 (low_free n) (λ table k. t) (ask_answer t n)
    (λ a v e. ap length (sym (asking a v e)) ∙ length-granted t n a)
    (λ a v e k h. ap (λ (l : List ℕ). get_or l k 0) (sym (asking a v e)) ∙ grant-at t n a k h)
  where
    asking : (table v : List ℕ) → ask_answer t n table ≡ accepted v → granted t n table ≡ v
    asking table v e = (met (granted t n table) (ask_demands t n table) e).1

-- ---- giving back writes the tenant's own slots, with 0

return-at : (t : ℕ) (table : List ℕ) (k : ℕ) → k < length table
    → get_or (returned t table) k 0 ≡ pick (eqb (get_or table k 0) t) 0 (get_or table k 0)
unfolding returned
return-at t [] k h = absurd (omega arith)
return-at t (x ∷ table) zero h = refl
return-at t (x ∷ table) (suc k) h = return-at t table k (omega arith)

pub giving-back-in-place : (t : ℕ) → InPlace 0 (λ table k. eqb (get_or table k 0) t) (λ table k. 0) (back_answer t) (back_table t)
unfolding back_answer
giving-back-in-place t =
    in_place (λ l. l) 0 (λ table k. eqb (get_or table k 0) t) (λ table k. 0) (back_answer t)
    (λ a v e. ap length (sym (giving a v e)) ∙ length-returned t a)
    (λ a v e k h. ap (λ (l : List ℕ). get_or l k 0) (sym (giving a v e)) ∙ return-at t a k h)
  where
    giving : (table v : List ℕ) → back_answer t table ≡ accepted v → returned t table ≡ v
    giving table v e = (met (returned t table) (back_demands t table) e).1

-- ---- closing writes every slot, with that of the closed table

pub closing-in-place : (room : ℕ)
    → InPlace 0 (λ table k. true) (λ table k. get_or (closed table) k 0) (λ table. close_answer room table) (close_table room)
closing-in-place room =
    in_place closed 0 (λ table k. true) (λ table k. get_or (closed table) k 0) (λ table. close_answer room table)
    (λ a v e. ap (λ l. length (closed l)) (sym (closing room a v e).1) ∙ length-closed a)
    (λ a v e k h. ap (λ l. get_or (closed l) k 0) (sym (closing room a v e).1))
