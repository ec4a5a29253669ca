-- A packet of any number of words, each by any rule of b8: its words, and that those that are right are the packet of their values.
-- Assumes nothing.
use mathlib.Core.Path.{◌≡◌, refl, sym, ap, ap₂, ◌∙◌, subst}
use mathlib.Core.Logic.{⊎_elim}
use mathlib.Core.Bool.{true, false}
use mathlib.Core.List.{List, [], ◌∷◌, ◌++◌, map}
use Prim.Native.Nat.{ℕ, zero, suc, ◌+◌, ◌-◌, ◌%◌, ◌^◌, ◌≤◌, ◌<◌}
use native.Mathlib.Omega.{arith}
use borrow.Author.Tests.{eq-eqb, ne_eqb, eqb-true}
use lib.ListN.{length, get_or, take, drop, length-append, get_or-append}
use lib.Seq.{ext_get_or, take_at, get_or_at, get_or-drop}
use Rattle.bits.proofs.Tests.{order}
use Rattle.anc.specs.declared.B8.{B8}
use Rattle.anc.specs.Word.{word_of, parities, width_by, word_by, right_by, check_word, wide_at, wrong_at}
use Rattle.anc.specs.Enclosed.{words_by, values_by, enclosed, sum_stands}
use Rattle.anc.specs.Inner.{laid_out}
use Rattle.anc.proofs.WordLaws.{by-lt, by_value, by_right, by_word}
use Rattle.anc.proofs.SumLaws.{check-lt}
use Rattle.anc.proofs.Searched.{narrow-passes, passes-narrow, right-passes, passes-right, stretch, length-stretch, at-stretch}

-- ---- words by their rules

module _ (rule : ℕ → B8) where
  pub length-words : (k : ℕ) (ns : List ℕ) → length (words_by rule k ns) ≡ length ns
  length-words k [] = refl
  length-words k (n ∷ ns) = ap suc (length-words (suc k) ns)

  pub word_at : (k : ℕ) (ns : List ℕ) (i : ℕ) → i < length ns → get_or (words_by rule k ns) i 0 ≡ word_by (rule (k + i)) (get_or ns i 0)
  word_at k [] i h = absurd (omega arith)
  word_at k (n ∷ ns) zero h =
      let e : k ≡ k + 0 = omega arith in
      ap (λ (j : ℕ). word_by (rule j) n) e
  word_at k (n ∷ ns) (suc i) h =
      let e : suc k + i ≡ k + suc i = omega arith in
      word_at (suc k) ns i (omega arith) ∙ ap (λ (j : ℕ). word_by (rule j) (get_or ns i 0)) e

  pub length-values : (k : ℕ) (ws : List ℕ) → length (values_by rule k ws) ≡ length ws
  length-values k [] = refl
  length-values k (w ∷ ws) = ap suc (length-values (suc k) ws)

  pub value-at : (k : ℕ) (ws : List ℕ) (i : ℕ) → i < length ws
      → get_or (values_by rule k ws) i 0 ≡ get_or ws i 0 % 2 ^ width_by (rule (k + i))
  value-at k [] i h = absurd (omega arith)
  value-at k (w ∷ ws) zero h =
      let e : k ≡ k + 0 = omega arith in
      ap (λ (j : ℕ). w % 2 ^ width_by (rule j)) e
  value-at k (w ∷ ws) (suc i) h =
      let e : suc k + i ≡ k + suc i = omega arith in
      value-at (suc k) ws i (omega arith) ∙ ap (λ (j : ℕ). get_or ws i 0 % 2 ^ width_by (rule j)) e

  -- words that are right are those of their values
  pub words_back : (k : ℕ) (ws : List ℕ)
      → ((i : ℕ) → i < length ws → (get_or ws i 0 < 2 ^ 10) × (right_by (rule (k + i)) (get_or ws i 0) ≡ true))
      → words_by rule k (values_by rule k ws) ≡ ws
  words_back k [] h = refl
  words_back k (w ∷ ws) h =
      let e : k + 0 ≡ k = omega arith in
      ap₂ ◌∷◌ (by_word (rule k) w (h 0 (omega arith)).0 (subst (λ (j : ℕ). right_by (rule j) w ≡ true) e (h 0 (omega arith)).1))
      (words_back (suc k) ws (λ i l.
      let q : k + suc i ≡ suc k + i = omega arith in
      ((h (suc i) (omega arith)).0, subst (λ (j : ℕ). right_by (rule j) (get_or ws i 0) ≡ true) q (h (suc i) (omega arith)).1)))

-- with the parity in every word they are the words of octets, and the values are the low octets
pub parity-at : (k : ℕ) (ns : List ℕ) (i : ℕ) → i < length ns → get_or (words_by parities k ns) i 0 ≡ word_of (get_or ns i 0)
parity-at k ns i h = word_at parities k ns i h

pub parity-values : (k : ℕ) (ws : List ℕ) → values_by parities k ws ≡ map (λ w. w % 2 ^ 8) ws
parity-values k [] = refl
parity-values k (w ∷ ws) = ap (λ (l : List ℕ). w % 2 ^ 8 ∷ l) (parity-values (suc k) ws)

-- ---- the packet around n words

module _ (ws : List ℕ) (n : ℕ) (h : length ws ≡ n) where
  pub length-enclosed : length (enclosed ws) ≡ 4 + n
  length-enclosed = simp (length-append, h) (omega arith)

  -- a word from word 3 on
  after-adf : (i : ℕ) → i < n → get_or (ws ++ (check_word ws ∷ [])) i 0 ≡ get_or ws i 0
  after-adf i l = get_or-append ws (check_word ws ∷ []) 0 i (omega arith)

  pub enclosed-at : (i : ℕ) → i < n → get_or (enclosed ws) (3 + i) 0 ≡ get_or ws i 0
  enclosed-at i l = sym (get_or-drop 3 (enclosed ws) i 0) ∙ after-adf i l

  pub enclosed-last : get_or (enclosed ws) (3 + n) 0 ≡ check_word ws
  enclosed-last = sym (get_or-drop 3 (enclosed ws) n 0) ∙ get_or_at ws (check_word ws) [] 0 n h

  pub enclosed-inside : take n (drop 3 (enclosed ws)) ≡ ws
  enclosed-inside = take_at ws (check_word ws ∷ []) n h

  pub sum-enclosed : sum_stands n (enclosed ws) ≡ true
  sum-enclosed = eq-eqb (get_or (enclosed ws) (3 + n) 0) (check_word (take n (drop 3 (enclosed ws)))) (enclosed-last ∙ ap check_word (sym enclosed-inside))

  module _ (small : (i : ℕ) → i < n → get_or ws i 0 < 2 ^ 10) where
    inner-lt : (i : ℕ) → i < 1 + n → get_or (ws ++ (check_word ws ∷ [])) i 0 < 2 ^ 10
    inner-lt i l = ⊎_elim last inside (order n i)
      where
        last : n ≤ i → get_or (ws ++ (check_word ws ∷ [])) i 0 < 2 ^ 10
        last q =
            let e : i ≡ n = omega arith in
            rw (e, get_or_at ws (check_word ws) [] 0 n h) (check-lt ws)

        inside : i < n → get_or (ws ++ (check_word ws ∷ [])) i 0 < 2 ^ 10
        inside q = rw (after-adf i q) (small i q)

    all-lt : (k : ℕ) → k < 4 + n → get_or (enclosed ws) k 0 < 2 ^ 10
    all-lt zero l = omega arith
    all-lt (suc zero) l = omega arith
    all-lt (suc (suc zero)) l = omega arith
    all-lt (suc (suc (suc i))) l = inner-lt i (omega arith)

    pub narrow-enclosed : (k : ℕ) → k < 4 + n → wide_at (enclosed ws) k ≡ false
    narrow-enclosed k l = narrow-passes (enclosed ws) k (all-lt k l)

-- ---- the packet of n values that fit their words

module _ (rule : ℕ → B8) (ns : List ℕ) (n : ℕ) (h : length ns ≡ n) (fit : (i : ℕ) → i < n → get_or ns i 0 < 2 ^ width_by (rule (3 + i))) where
  abbrev ws : List ℕ
  ws = words_by rule 3 ns

  pub packet-long : length ws ≡ n
  packet-long = length-words rule 3 ns ∙ h

  pub packet-word : (i : ℕ) → i < n → get_or (enclosed ws) (3 + i) 0 ≡ word_by (rule (3 + i)) (get_or ns i 0)
  packet-word i l = enclosed-at ws n packet-long i l ∙ word_at rule 3 ns i (omega arith)

  pub packet-value : (i : ℕ) → i < n → get_or (enclosed ws) (3 + i) 0 % 2 ^ width_by (rule (3 + i)) ≡ get_or ns i 0
  packet-value i l =
      ap (λ (w : ℕ). w % 2 ^ width_by (rule (3 + i))) (packet-word i l) ∙ by_value (rule (3 + i)) (get_or ns i 0) (fit i l)

  pub packet-narrow : (k : ℕ) → k < 4 + n → wide_at (enclosed ws) k ≡ false
  packet-narrow =
      narrow-enclosed ws n packet-long
      (λ i l. rw (word_at rule 3 ns i (omega arith)) (by-lt (rule (3 + i)) (get_or ns i 0) (fit i l)))

  pub packet-right : (k : ℕ) → 3 ≤ k → k < 3 + n → wrong_at rule (enclosed ws) k ≡ false
  packet-right k q l =
      let e : 3 + (k - 3) ≡ k = omega arith in
      right-passes rule (enclosed ws) k
      (subst (λ (j : ℕ). right_by (rule j) (get_or (enclosed ws) j 0) ≡ true) e
      (ap (right_by (rule (3 + (k - 3)))) (packet-word (k - 3) (omega arith))
      ∙ by_right (rule (3 + (k - 3))) (get_or ns (k - 3) 0) (fit (k - 3) (omega arith))))

-- ---- words that are right are the packet of their values

module _ (rule : ℕ → B8) (n : ℕ) (words : List ℕ) (long : length words ≡ 4 + n) (ten : (k : ℕ) → k < 4 + n → wide_at words k ≡ false)
    (zeroth : get_or words 0 0 ≡ 0x000) (first : get_or words 1 0 ≡ 0x3FF) (second : get_or words 2 0 ≡ 0x3FF)
    (worded : (k : ℕ) → 3 ≤ k → k < 3 + n → wrong_at rule words k ≡ false) (summed : sum_stands n words ≡ true) where
  fits : 3 + n ≤ length words
  fits = omega arith

  abbrev run : List ℕ
  run = take n (drop 3 words)

  run_long : length run ≡ n
  run_long = length-stretch words 3 n fits

  words-run : words_by rule 3 (values_by rule 3 run) ≡ run
  words-run =
      words_back rule 3 run (λ i l.
      let l' : i < n = omega (arith, run_long) in
      let e = at-stretch words 3 n fits i l' in (
        rw e (passes-narrow words (3 + i) (ten (3 + i) (omega arith))),
        rw e (passes-right rule words (3 + i) (worded (3 + i) (omega arith) (omega arith))),
      ))

  rest : (i : ℕ) → i < 1 + n → get_or (run ++ (check_word run ∷ [])) i 0 ≡ get_or words (3 + i) 0
  rest i l = ⊎_elim last inside (order n i)
    where
      last : n ≤ i → get_or (run ++ (check_word run ∷ [])) i 0 ≡ get_or words (3 + i) 0
      last q =
          let e : i ≡ n = omega arith in
          rw (e, get_or_at run (check_word run) [] 0 n run_long) (sym (eqb-true (get_or words (3 + n) 0) (check_word run) summed))

      inside : i < n → get_or (run ++ (check_word run ∷ [])) i 0 ≡ get_or words (3 + i) 0
      inside q = after-adf run n run_long i q ∙ at-stretch words 3 n fits i q

  same : (k : ℕ) → k < 4 + n → get_or (enclosed run) k 0 ≡ get_or words k 0
  same zero l = sym zeroth
  same (suc zero) l = sym first
  same (suc (suc zero)) l = sym second
  same (suc (suc (suc i))) l =
      let e : 3 + i ≡ suc (suc (suc i)) = omega arith in
      rest i (omega arith) ∙ ap (λ (k : ℕ). get_or words k 0) e

  pub run-enclosed : enclosed run ≡ words
  run-enclosed =
      ext_get_or 0 (enclosed run) words (length-enclosed run n run_long ∙ sym long)
      (λ k l. same k (omega (arith, length-enclosed run n run_long)))

  pub packet-back : enclosed (words_by rule 3 (values_by rule 3 run)) ≡ words
  packet-back = ap enclosed words-run ∙ run-enclosed

-- the values, word by word
module _ (rule : ℕ → B8) (n : ℕ) (words : List ℕ) (room : 3 + n ≤ length words) where
  pub run-values : length (values_by rule 3 (take n (drop 3 words))) ≡ n
  run-values = length-values rule 3 (stretch words 3 n room) ∙ length-stretch words 3 n room

  pub run_value : (i : ℕ) → i < n → get_or (values_by rule 3 (take n (drop 3 words))) i 0 ≡ get_or words (3 + i) 0 % 2 ^ width_by (rule (3 + i))
  run_value i l =
      value-at rule 3 (stretch words 3 n room) i (omega (arith, length-stretch words 3 n room))
      ∙ ap (λ (w : ℕ). w % 2 ^ width_by (rule (3 + i))) (at-stretch words 3 n room i l)

-- ---- the test of the sum, as code makes it

module _ (n : ℕ) (words : List ℕ) where
  pub sum-stands : get_or words (3 + n) 0 ≡ check_word (take n (drop 3 words)) → sum_stands n words ≡ true
  sum-stands e = eq-eqb (get_or words (3 + n) 0) (check_word (take n (drop 3 words))) e

  pub sum-fails : (get_or words (3 + n) 0 ≡ check_word (take n (drop 3 words)) → ⊥) → sum_stands n words ≡ false
  sum-fails e = ne_eqb (get_or words (3 + n) 0) (check_word (take n (drop 3 words))) e

-- ---- what laying out leaves

pub laid_out_lem : (ws old : List ℕ) → length old ≡ 4 + length ws → laid_out ws old ≡ enclosed ws
unfolding laid_out
laid_out_lem ws old e = rw (eq-eqb (length old) (4 + length ws) e)
