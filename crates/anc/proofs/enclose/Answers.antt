-- `anc::enclose` meets its contract: the ADF, the words and CS are the packet. Assumes nothing.
use mathlib.Core.Path.{◌≡◌, refl, sym, ap, ◌∙◌}
use mathlib.Core.List.{List, [], ◌∷◌, ◌++◌}
use Prim.Native.Nat.{ℕ, suc, ◌+◌}
use native.Mathlib.Omega.{arith}
use borrow.Author.Tests.{ne_eqb}
use borrow.Rule.Slice.PartMut.{put_mid}
use lib.ListN.{length, drop, get_or, set, drop_of_length-le}
use lib.Seq.{drop-cons, set_at}
use Rattle.anc.specs.Inner.{laid_out}
use Rattle.anc.proofs.Enclosing.{laid_out_lem}
use Rattle.anc.proofs.enclose.Goals as goal

-- the word after the others
last : (cs ws : List ℕ) (v : ℕ) → length ws ≡ 1 + length cs → set (cs ++ drop (length cs) ws) (length cs) v ≡ cs ++ (v ∷ [])
last cs ws v h =
    let one : drop (length cs) ws ≡ get_or ws (length cs) 0 ∷ [] =
    drop-cons ws (length cs) 0 (omega arith) ∙ ap (λ (l : List ℕ). get_or ws (length cs) 0 ∷ l) (drop_of_length-le ws {i = suc (length cs)} (omega arith)) in
    rw one (set_at cs (get_or ws (length cs) 0) [] v (length cs) refl)

packet : (cs new ws : List ℕ) (v k : ℕ) → length ws ≡ 4 + length cs → k ≡ length cs → new ≡ cs
    → set (put_mid 3 k (set (set (set ws 0 0) 1 1023) 2 1023) new) (3 + length cs) v ≡ 0 ∷ 1023 ∷ 1023 ∷ (cs ++ (v ∷ []))
packet cs new [] v k h e q = absurd (omega arith)
packet cs new (a ∷ []) v k h e q = absurd (omega arith)
packet cs new (a ∷ b ∷ []) v k h e q = absurd (omega arith)
packet cs new (a ∷ b ∷ c ∷ ws) v k h e q =
    let s : 3 + length cs ≡ suc (suc (suc (length cs))) = omega arith in
    rw (s, e, q) (ap (λ (l : List ℕ). 0 ∷ 1023 ∷ 1023 ∷ l) (last cs ws v (omega arith)))

pub returns-then-words-coded : goal.returns-then-words-coded
unfolding laid_out
returns-then-words-coded c = simp (ne_eqb _ _ c.if-words-coded.true)

pub returns : goal.returns
returns c =
    let a = c.args in
    packet a.coded.now c.copy_from_slice.new.self a.words.now c.check_word.result _ c.if-words-coded.false (omega arith) c.copy_from_slice.ensures.after
    ∙ ap (λ (v : ℕ). 0 ∷ 1023 ∷ 1023 ∷ (a.coded.now ++ (v ∷ []))) c.check_word.ensures ∙ sym (laid_out_lem a.coded.now a.words.now c.if-words-coded.false)
