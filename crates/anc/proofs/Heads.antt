-- DID and group, of any list of DIDs: each names the other; and what a head that is accepted says. Assumes nothing.
use mathlib.Core.Path.{◌≡◌, refl, sym, ap, ◌∙◌}
use mathlib.Core.Bool.{Bool, true, false}
use mathlib.Core.List.{List, ◌∷◌}
use Prim.Native.Nat.{ℕ, zero, suc, ◌+◌, ◌-◌, ◌*◌, ◌%◌, ◌^◌, ◌≤◌, ◌<◌}
use native.Mathlib.Omega.{arith}
use borrow.Author.Tests.{eqb-true, ne_eqb, le-leb}
use lib.Count.{ones}
use lib.Dec.{T, eqb, leb}
use lib.ListN.{length, get_or}
use Rattle.std.specs.Prelude.{Option, Some, None}
use Rattle.bits.specs.Pick.{first}
use Rattle.bits.proofs.Firsts.{first-map}
use Rattle.bits.proofs.Tests.{no-yes}
use Rattle.bits.proofs.Every.{every, agree}
use Rattle.answer.specs.Answer.{Answer.accepted, Answer.refused}
use Rattle.answer.specs.Demand.{Demand.asks, AllMet, Stops}
use Rattle.answer.proofs.Chains.{search-cases, met, stops, beyond}
use Rattle.anc.specs.Word.{word_of}
use Rattle.anc.specs.Head.{did_in, group_in, some_group, head_in, head_demands, head_answer}
use Rattle.anc.proofs.WordLaws.{word-in-full}

-- a word that names a group is the DID of that group, one of those listed
pub record Named (dids : List ℕ) (w g : ℕ) : Type 0 where
  pub word : w ≡ did_in dids g
  pub some : 1 ≤ g
  pub few : g ≤ length dids

module _ (dids : List ℕ) (w : ℕ) where
  pub named : (group_in dids w ≡ 0 → ⊥) → Named dids w (group_in dids w)
  named =
      search-cases (λ i. eqb w (get_or dids i 0)) suc 0 0 (length dids) (λ g. (g ≡ 0 → ⊥) → Named dids w g)
      (λ i l u t before n.
      let e : i ≡ suc i - 1 = omega arith in
      record {
        word = eqb-true w (get_or dids i 0) t ∙ ap (λ (j : ℕ). get_or dids j 0) e;
        some = omega arith;
        few = omega arith;
      })
      (λ none n. absurd (n refl))

  -- a group is one of those listed, or 0
  pub group-most : group_in dids w ≤ length dids
  group-most =
      search-cases (λ i. eqb w (get_or dids i 0)) suc 0 0 (length dids) (λ g. g ≤ length dids) (λ i l u t before. omega arith) (λ none. omega arith)

  module _ (some : 0 < length dids) where
    -- one that names none is no DID
    pub unnamed : group_in dids w ≡ 0 → eqb w (did_in dids (group_in dids w)) ≡ false
    unnamed =
        search-cases (λ i. eqb w (get_or dids i 0)) suc 0 0 (length dids) (λ g. g ≡ 0 → eqb w (did_in dids g) ≡ false)
        (λ i l u t before e. absurd (omega arith)) (λ none e. none 0 (omega arith) (omega arith))

    -- so a word that is the DID of the group that it names, names one
    pub names : eqb w (did_in dids (group_in dids w)) ≡ true → Named dids w (group_in dids w)
    names t = named (λ e. no-yes (eqb w (did_in dids (group_in dids w))) (unnamed e) t)

-- ---- the group, by the place of the first DID that is the word

some-group : (g : ℕ) → (g ≡ 0 → ⊥) → some_group g ≡ Some g
some-group g n = rw (ne_eqb g 0 n)

-- an answer with a group, and one without
pub is_group : {n : ℕ} (g : ℕ) → Some n ≡ some_group g → (n ≡ g) × (g ≡ 0 → ⊥)
is_group zero e = absurd cc
is_group {n} (suc g) e =
    let s : Some n ≡ Some (suc g) = e ∙ some-group (suc g) (omega arith) in
    (cc, λ z. omega arith)

pub no-group : (g : ℕ) → None ≡ some_group g → g ≡ 0
no-group zero e = refl
no-group (suc g) e =
    let s : None ≡ Some (suc g) = e ∙ some-group (suc g) (omega arith) in
    absurd cc

abbrev after_place : Option ℕ → Option ℕ
after_place None = None
after_place (Some i) = Some (suc i)

module _ (dids : List ℕ) (w : ℕ) where
  abbrev pub is_did : ℕ → Bool
  is_did i = eqb w (get_or dids i 0)

  by-place : some_group (group_in dids w) ≡ after_place (first is_did 0 (length dids) Some None)
  by-place =
      sym (first-map some_group is_did is_did 0 (length dids) suc (λ i. Some (suc i)) 0 (λ i l. refl) (λ i. sym (some-group (suc i) (omega arith))))
      ∙ first-map after_place is_did is_did 0 (length dids) Some (λ i. Some (suc i)) None (λ i l. refl) (λ i. refl)

  pub group-nowhere : None ≡ first is_did 0 (length dids) Some None → None ≡ some_group (group_in dids w)
  group-nowhere e = sym (by-place ∙ ap after_place (sym e))

  pub group-place : {i : ℕ} → Some i ≡ first is_did 0 (length dids) Some None → Some (i + 1) ≡ some_group (group_in dids w)
  group-place {i} e =
      let q : i + 1 ≡ suc i = omega arith in
      ap Some q ∙ sym (by-place ∙ ap after_place (sym e))

-- ---- laws of each of four DIDs, by one test that antt computes

pub each-group : (f g : ℕ → ℕ) → T (every 4 (λ k. eqb (f (suc k)) (g (suc k)))) → (group : ℕ) → 1 ≤ group → group ≤ 4 → f group ≡ g group
each-group f g t zero h l = absurd (omega arith)
each-group f g t (suc k) h l = agree 4 (λ i. f (suc i)) (λ i. g (suc i)) t k (omega arith)

-- a word in full, of its low octet
abbrev pub in_full : ℕ → ℕ
in_full w = w % 2 ^ 8 + ones (w % 2 ^ 8) % 2 * 2 ^ 8 + (1 - ones (w % 2 ^ 8) % 2) * 2 ^ 9

pub full-word : (w : ℕ) → in_full w ≡ w → word_of (w % 2 ^ 8) ≡ w
full-word w e = word-in-full (w % 2 ^ 8) (omega arith) ∙ e

-- ---- what is read of a head

module _ (dids : List ℕ) (dc : ℕ) (words : List ℕ) (six : 6 ≤ length words) where
  pub head_read : {g : ℕ} → accepted g ≡ head_answer dids dc words
      → AllMet (head_demands (head_in dids dc words) words) × (group_in dids (get_or words 3 0) ≡ g)
  unfolding head_answer
  head_read e =
      let m = met (group_in dids (get_or words 3 0)) (asks 1 0 (leb 6 (length words)) ∷ head_demands (head_in dids dc words) words) (sym e) in
      (m.0.1, m.1)

  -- a refusal is 13 at the first word that is not as listed
  pub head-refused : {number place : ℕ} → refused number place ≡ head_answer dids dc words
      → Stops (head_demands (head_in dids dc words) words) number place
  unfolding head_answer
  head-refused {number} {place} e =
      beyond (le-leb 6 (length words) six)
      (stops (group_in dids (get_or words 3 0)) (asks 1 0 (leb 6 (length words)) ∷ head_demands (head_in dids dc words) words) number place (sym e))
