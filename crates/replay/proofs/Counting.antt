-- The figures are counts of the file, and packets offered to a group are those read and those refused. Assumes nothing.
use mathlib.Core.Path.{◌≡◌, refl, sym, ap, ap₂, ◌∙◌}
use mathlib.Core.Logic.{◌≢◌}
use mathlib.Core.Bool.{Bool, true, false}
use mathlib.Core.List.{List, [], ◌∷◌}
use Prim.Native.Nat.{ℕ, zero, suc, ◌+◌, ◌≤◌, ◌<◌}
use native.Mathlib.Nat.{add-zero}
use native.Mathlib.Omega.{arith}
use borrow.Author.Tests.{ne_eqb, eqb-true, eqb-false}
use lib.Dec.{eqb}
use lib.ListN.{length, get_or}
use Rattle.bits.specs.Row.{digit}
use Rattle.bits.proofs.Tests.{no-yes}
use Rattle.answer.specs.Demand.{◌&◌}
use Rattle.replay.specs.File.{records_of}
use Rattle.replay.specs.Packet.{entry_of}
use Rattle.replay.specs.Sheet.{line_start, read_at, refused_at, entry_changes, entered}
use Rattle.replay.specs.Replay.{with_record, figures_after, records_counted, replay_figures}
use Rattle.replay.specs.Counts.{count_in, offered_to, read_of, refused_of, refused_any, figures_sum}
use Rattle.replay.specs.Inner.{ProperEntry}
use Rattle.replay.specs.declared.Entry.{Entry}
use Rattle.replay.specs.declared.Entry.TheVariants.{Passed, Data, Control, Refused}
use Rattle.replay.proofs.Files.{test-cases}
use Rattle.replay.proofs.Lengths.{length-written}
use Rattle.replay.proofs.Entries.{entry-proper}
use Rattle.replay.proofs.Places.{Beside, beside_same, there, there-in}
use Rattle.replay.proofs.Groups.{other-beside}

-- ---- counted from the file: offered is read and refused

pub offered-is : (group : ℕ) (rs : List (List ℕ)) → count_in (offered_to group) rs ≡ count_in (read_of group) rs + count_in (refused_any group) rs
unfolding count_in
offered-is group [] = refl
offered-is group (r ∷ rs) = let e = offered-is group rs in let f = each (entry_of r) in omega (arith, e, f)
  where
    each : (e : Entry) → digit (offered_to group e) ≡ digit (read_of group e) + digit (refused_any group e)
    each Passed = refl
    each (Data g lanes dbn) = sym (add-zero (digit (eqb g group)))
    each (Control g) = sym (add-zero (digit (eqb g group)))
    each (Refused g lanes n) = let x = digit (eqb g group) in let z : x ≡ 0 + x = omega arith in z

-- ---- sums of figures

sum_same : (n k : ℕ) (a b : List ℕ) → ((i : ℕ) → i < n → get_or a (k + i) 0 ≡ get_or b (k + i) 0) → figures_sum a k n ≡ figures_sum b k n
unfolding figures_sum
sum_same zero k a b h = refl
sum_same (suc n) k a b h =
    let z = h 0 (omega arith) in
    ap₂ ◌+◌ (rw (add-zero k) at z) (sum_same n (suc k) a b (λ i l. let m : suc k + i ≡ k + suc i = omega arith in rw m (h (suc i) (omega arith))))

-- one of them is one more
sum_more : (n k p : ℕ) (a b : List ℕ) → p < n → get_or a (k + p) 0 ≡ get_or b (k + p) 0 + 1
    → ((i : ℕ) → i < n → i ≢ p → get_or a (k + i) 0 ≡ get_or b (k + i) 0) → figures_sum a k n ≡ figures_sum b k n + 1
unfolding figures_sum
sum_more zero k p a b l e h = absurd (omega arith)
sum_more (suc n) k zero a b l e h =
    let s = sum_same n (suc k) a b (λ i m. let q : suc k + i ≡ k + suc i = omega arith in rw q (h (suc i) (omega arith) (λ z. absurd (omega arith)))) in
    let f : get_or a k 0 ≡ get_or b k 0 + 1 = rw (add-zero k) at e in
    omega (arith, s, f)
sum_more (suc n) k (suc p) a b l e h =
    let m : suc k + p ≡ k + suc p = omega arith in
    let s = sum_more n (suc k) p a b (omega arith) (rw m e)
    (λ i q d. let r : suc k + i ≡ k + suc i = omega arith in rw r (h (suc i) (omega arith) (λ z. d (omega arith)))) in
    let f : get_or a k 0 ≡ get_or b k 0 = rw (add-zero k) at (h 0 (omega arith) (λ z. absurd (omega arith))) in
    omega (arith, s, f)

-- ---- one entry

module _ (group : ℕ) (some : 1 ≤ group) (few : group ≤ 4) where
  module _ (sheet : List ℕ) (long : length sheet ≡ 110) where
    -- packets read
    read-other : (e : Entry) → ProperEntry e → offered_to group e ≡ false → get_or (entered e sheet) (read_at group) 0 ≡ get_or sheet (read_at group) 0 + 0
    read-other e p f =
        let b = other-beside group some few e sheet 0 p f (omega arith) in
        let c : Beside (read_at group) (entry_changes e sheet) = rw (add-zero (line_start group)) at b in
        beside_same (read_at group) (entry_changes e sheet) sheet c ∙ sym (add-zero (get_or sheet (read_at group) 0))

    read-own : (e : Entry) → ProperEntry e → offered_to group e ≡ true
        → get_or (entered e sheet) (read_at group) 0 ≡ get_or sheet (read_at group) 0 + digit (read_of group e)
    unfolding entry_changes
    read-own Passed p t = no-yes false refl t
    read-own (Data h lanes dbn) p t =
        rw (t, eqb-true h group t)
        (there (line_start group) _ _ sheet (omega arith)
        ((λ e. absurd (omega arith)) & (λ e. absurd (omega arith)) & (λ e. absurd (omega arith)) & (λ e. absurd (omega arith)) & tt))
    read-own (Control h) p t = rw (t, eqb-true h group t) (there (line_start group) _ _ sheet (omega arith) tt)
    read-own (Refused h lanes n) p t =
        rw (eqb-true h group t, ne_eqb group 0 (λ e. absurd (omega arith)))
        (beside_same (line_start group) _ sheet ((λ e. absurd (omega arith)) & (λ e. absurd (omega arith)) & tt) ∙ sym (add-zero (get_or sheet (line_start group) 0)))

    read-not : (e : Entry) → offered_to group e ≡ false → digit (read_of group e) ≡ 0
    read-not Passed f = refl
    read-not (Data h lanes dbn) f = rw f refl
    read-not (Control h) f = rw f refl
    read-not (Refused h lanes n) f = refl

    read_one : (e : Entry) → ProperEntry e → get_or (entered e sheet) (read_at group) 0 ≡ get_or sheet (read_at group) 0 + digit (read_of group e)
    read_one e p =
        test-cases (offered_to group e) (read-own e p)
        (λ f. read-other e p f ∙ ap (λ (k : ℕ). get_or sheet (read_at group) 0 + k) (sym (read-not e f)))

    -- packets refused, all numbers together
    refused-other : (e : Entry) → ProperEntry e → offered_to group e ≡ false → figures_sum (entered e sheet) (line_start group + 2) 18 ≡ figures_sum sheet (line_start group + 2) 18
    refused-other e p f =
        sum_same 18 (line_start group + 2) (entered e sheet) sheet
        (λ i l. let m : line_start group + (2 + i) ≡ line_start group + 2 + i = omega arith in
        rw m at (beside_same (line_start group + (2 + i)) (entry_changes e sheet) sheet (other-beside group some few e sheet (2 + i) p f (omega arith))))

    refused-own : (e : Entry) → ProperEntry e → offered_to group e ≡ true
        → figures_sum (entered e sheet) (line_start group + 2) 18 ≡ figures_sum sheet (line_start group + 2) 18 + digit (refused_any group e)
    unfolding entry_changes
    refused-own Passed p t = no-yes false refl t
    refused-own (Data h lanes dbn) p t =
        rw (eqb-true h group t)
        (sum_same 18 (line_start group + 2) _ sheet (λ i l. beside_same (line_start group + 2 + i) _ sheet
        ((λ e. absurd (omega arith)) & (λ e. absurd (omega arith)) & (λ e. absurd (omega arith)) & (λ e. absurd (omega arith)) & (λ e. absurd (omega arith)) & tt))
        ∙ sym (add-zero (figures_sum sheet (line_start group + 2) 18)))
    refused-own (Control h) p t =
        rw (eqb-true h group t)
        (sum_same 18 (line_start group + 2) _ sheet (λ i l. beside_same (line_start group + 2 + i) _ sheet ((λ e. absurd (omega arith)) & tt))
        ∙ sym (add-zero (figures_sum sheet (line_start group + 2) 18)))
    refused-own (Refused h lanes n) p t =
        let q = p.1 in
        rw (t, eqb-true h group t, ne_eqb group 0 (λ e. absurd (omega arith)))
        (sum_more 18 (line_start group + 2) n _ sheet q (there-in (_ ∷ []) (refused_at group n) _ [] sheet (omega arith) tt)
        (λ i l d. beside_same (line_start group + 2 + i) _ sheet ((λ e. absurd (omega arith)) & (λ e. d (omega arith)) & tt)))

    refused-not : (e : Entry) → offered_to group e ≡ false → digit (refused_any group e) ≡ 0
    refused-not Passed f = refl
    refused-not (Data h lanes dbn) f = refl
    refused-not (Control h) f = refl
    refused-not (Refused h lanes n) f = rw f refl

    refused-one : (e : Entry) → ProperEntry e
        → figures_sum (entered e sheet) (line_start group + 2) 18 ≡ figures_sum sheet (line_start group + 2) 18 + digit (refused_any group e)
    refused-one e p =
        test-cases (offered_to group e) (refused-own e p)
        (λ f. refused-other e p f ∙ sym (add-zero (figures_sum sheet (line_start group + 2) 18))
        ∙ ap (λ (k : ℕ). figures_sum sheet (line_start group + 2) 18 + k) (sym (refused-not e f)))

    -- packets refused by one number
    number-other : (e : Entry) (number : ℕ) → number < 18 → ProperEntry e → offered_to group e ≡ false
        → get_or (entered e sheet) (refused_at group number) 0 ≡ get_or sheet (refused_at group number) 0
    number-other e number l p f =
        let m : line_start group + (2 + number) ≡ line_start group + 2 + number = omega arith in
        rw m at (beside_same (line_start group + (2 + number)) (entry_changes e sheet) sheet (other-beside group some few e sheet (2 + number) p f (omega arith)))

    number-own : (e : Entry) (number : ℕ) → number < 18 → ProperEntry e → offered_to group e ≡ true
        → get_or (entered e sheet) (refused_at group number) 0 ≡ get_or sheet (refused_at group number) 0 + digit (refused_of group number e)
    unfolding entry_changes
    number-own Passed number l p t = no-yes false refl t
    number-own (Data h lanes dbn) number l p t =
        rw (eqb-true h group t)
        (beside_same (line_start group + 2 + number) _ sheet
        ((λ e. absurd (omega arith)) & (λ e. absurd (omega arith)) & (λ e. absurd (omega arith)) & (λ e. absurd (omega arith)) & (λ e. absurd (omega arith)) & tt)
        ∙ sym (add-zero (get_or sheet (line_start group + 2 + number) 0)))
    number-own (Control h) number l p t =
        rw (eqb-true h group t)
        (beside_same (line_start group + 2 + number) _ sheet ((λ e. absurd (omega arith)) & tt)
        ∙ sym (add-zero (get_or sheet (line_start group + 2 + number) 0)))
    number-own (Refused h lanes n) number l p t =
        test-cases (eqb n number)
        (λ u. rw (t, u, eqb-true h group t, eqb-true n number u, ne_eqb group 0 (λ e. absurd (omega arith)))
        (there-in (_ ∷ []) (refused_at group number) _ [] sheet (omega arith) tt))
        (λ v. let d = eqb-false n number v in
        rw (t, v, eqb-true h group t, ne_eqb group 0 (λ e. absurd (omega arith)))
        (beside_same (line_start group + 2 + number) _ sheet ((λ e. absurd (omega arith)) & (λ e. d (omega arith)) & tt)
        ∙ sym (add-zero (get_or sheet (line_start group + 2 + number) 0))))

    number-not : (e : Entry) (number : ℕ) → offered_to group e ≡ false → digit (refused_of group number e) ≡ 0
    number-not Passed number f = refl
    number-not (Data h lanes dbn) number f = refl
    number-not (Control h) number f = refl
    number-not (Refused h lanes n) number f = rw f refl

    number-one : (e : Entry) (number : ℕ) → number < 18 → ProperEntry e
        → get_or (entered e sheet) (refused_at group number) 0 ≡ get_or sheet (refused_at group number) 0 + digit (refused_of group number e)
    number-one e number l p =
        test-cases (offered_to group e) (number-own e number l p)
        (λ f. number-other e number l p f ∙ sym (add-zero (get_or sheet (refused_at group number) 0))
        ∙ ap (λ (k : ℕ). get_or sheet (refused_at group number) 0 + k) (sym (number-not e number f)))

  -- ---- any records

  still-long : (sheet r : List ℕ) → length sheet ≡ 110 → length (with_record sheet r) ≡ 110
  still-long sheet r long = length-written (entry_changes (entry_of r) sheet) sheet ∙ long

  -- what each entry adds to a number, some records add to it
  adds-up : (f : List ℕ → ℕ) (q : Entry → Bool) → ((s : List ℕ) → length s ≡ 110 → (e : Entry) → ProperEntry e → f (entered e s) ≡ f s + digit (q e))
      → (rs : List (List ℕ)) (sheet : List ℕ) → length sheet ≡ 110 → f (figures_after sheet rs) ≡ f sheet + count_in q rs
  unfolding figures_after count_in
  adds-up f q one [] sheet long = sym (add-zero (f sheet))
  adds-up f q one (r ∷ rs) sheet long =
      let a = one sheet long (entry_of r) (entry-proper r) in
      let b = adds-up f q one rs (with_record sheet r) (still-long sheet r long) in
      omega (arith, a, b)

  module _ (rs : List (List ℕ)) (sheet : List ℕ) (long : length sheet ≡ 110) where
    pub read-counted : get_or (figures_after sheet rs) (read_at group) 0 ≡ get_or sheet (read_at group) 0 + count_in (read_of group) rs
    read-counted = adds-up (λ s. get_or s (read_at group) 0) (read_of group) read_one rs sheet long

    pub refused-counted : (number : ℕ) → number < 18
        → get_or (figures_after sheet rs) (refused_at group number) 0 ≡ get_or sheet (refused_at group number) 0 + count_in (refused_of group number) rs
    refused-counted number l =
        adds-up (λ s. get_or s (refused_at group number) 0) (refused_of group number) (λ s long' e p. number-one s long' e number l p) rs sheet long

    pub all-refused-counted : figures_sum (figures_after sheet rs) (line_start group + 2) 18 ≡ figures_sum sheet (line_start group + 2) 18 + count_in (refused_any group) rs
    all-refused-counted = adds-up (λ s. figures_sum s (line_start group + 2) 18) (refused_any group) refused-one rs sheet long

  -- packets offered are packets read and refused: of the figures, from a sheet on
  pub offered-read-refused : (octets sheet : List ℕ) → length sheet ≡ 110
      → let rs = records_counted sheet (records_of octets) in
      let after = replay_figures octets sheet in
      get_or after (read_at group) 0 + figures_sum after (line_start group + 2) 18
      ≡ get_or sheet (read_at group) 0 + figures_sum sheet (line_start group + 2) 18 + count_in (offered_to group) rs
  unfolding replay_figures
  offered-read-refused octets sheet long =
      let rs = records_counted sheet (records_of octets) in
      omega (arith, read-counted rs sheet long, all-refused-counted rs sheet long, offered-is group rs)
