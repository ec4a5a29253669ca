-- One turn of a loop over a list: what is done stands in front, and the definition of the rest gives the whole. Assumes
-- nothing.
use mathlib.Core.Path.{◌≡◌, sym, ap, ◌∙◌}
use mathlib.Core.Logic.{◌≢◌}
use mathlib.Core.List.{List, [], ◌∷◌, ◌++◌}
use Prim.Native.Nat.{ℕ, suc, ◌+◌, ◌-◌, ◌≤◌, ◌<◌}
use native.Mathlib.Numerals.{add-one}
use native.Mathlib.Omega.{arith}
use lib.ListN.{length, get_or, take, drop, set, length-set, drop_of_length-le, take-append-drop}
use lib.Seq.{drop-cons, drop-set-lt, set-get_or}
use Rattle.bits.proofs.Filling.{filled}
use Rattle.leases.specs.Table.{granted}
use Rattle.leases.proofs.Holding.{granted-free, granted-taken}

-- l, once l₀, of which i elements are done, and what f makes of the others is still to do
pub record Doing (f : List ℕ → List ℕ) (whole l₀ l : List ℕ) (i : ℕ) : Type 0 where
  pub as_long : length l ≡ length l₀
  pub within : i ≤ length l₀
  pub to-do : take i l ++ f (drop i l) ≡ whole

module _ {f : List ℕ → List ℕ} {whole l₀ l : List ℕ} {i : ℕ} (d : Doing f whole l₀ l i) where
  -- nothing is left to do
  pub done-early : f (drop i l) ≡ drop i l → l ≡ whole
  done-early e = sym (take-append-drop i l) ∙ ap (λ (r : List ℕ). take i l ++ r) (sym e) ∙ d.to-do

  pub all_done : f [] ≡ [] → length l ≤ i → l ≡ whole
  all_done e h =
      let n : drop i l ≡ [] = drop_of_length-le l {i = i} h in
      done-early (ap f n ∙ e ∙ sym n)

  module _ (g : List ℕ → List ℕ) (h : i < length l) {l' : List ℕ} where
    -- element i becomes v
    pub changed : (v : ℕ) → l' ≡ set l i v → ((rest : List ℕ) → f (get_or l i 0 ∷ rest) ≡ v ∷ g rest) → Doing g whole l₀ l' (i + 1)
    changed v e one =
        let r : f (drop i l) ≡ v ∷ g (drop (suc i) l) = ap f (drop-cons l i 0 h) ∙ one (drop (suc i) l) in
        let s : drop (i + 1) (set l i v) ≡ drop (suc i) l =
        drop-set-lt (i + 1) l i v (omega arith) ∙ ap (λ (n : ℕ). drop n l) (add-one i) in
        record {
          as_long = ap length e ∙ length-set l i v ∙ d.as_long;
          within = omega arith;
          to-do = rw (e, s) (filled l (g (drop (suc i) l)) whole i v h (ap (λ (q : List ℕ). take i l ++ q) (sym r) ∙ d.to-do));
        }

    -- element i stays
    pub kept : l' ≡ l → ((rest : List ℕ) → f (get_or l i 0 ∷ rest) ≡ get_or l i 0 ∷ g rest) → Doing g whole l₀ l' (i + 1)
    kept e one = changed (get_or l i 0) (e ∙ sym (set-get_or l i 0)) one

-- ---- granting, with so many slots to grant before the turn and after it

module _ (t still still' x : ℕ) (some : still ≢ 0) (rest : List ℕ) where
  less : still ≡ suc (still - 1)
  less = omega (arith, some)

  pub grants : x ≡ 0 → still' ≡ still - 1 → granted t still (x ∷ rest) ≡ t ∷ granted t still' rest
  grants z e =
      ap (λ (k : ℕ). granted t k (x ∷ rest)) less ∙ granted-free t (still - 1) x rest z
      ∙ ap (λ (k : ℕ). t ∷ granted t k rest) (sym e)

  pub passes : x ≢ 0 → still' ≡ still → granted t still (x ∷ rest) ≡ x ∷ granted t still' rest
  passes d e =
      ap (λ (k : ℕ). granted t k (x ∷ rest)) less ∙ granted-taken t (still - 1) x rest d
      ∙ ap (λ (k : ℕ). x ∷ granted t k rest) (sym less ∙ sym e)
