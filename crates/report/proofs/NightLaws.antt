-- The lines of refused packets as the code makes them, the last first; how long the text of a replay is at most, and
-- that it is what is written from its start on. Assumes nothing.
use mathlib.Core.Path.{◌≡◌, sym, ap, ◌∙◌}
use mathlib.Core.List.{List, ◌++◌}
use Prim.Native.Nat.{ℕ, zero, suc, ◌+◌, ◌-◌, ◌*◌, ◌≤◌, ◌<◌}
use native.Mathlib.Omega.{arith}
use borrow.Author.Tests.{ne_eqb}
use lib.Dec.{eqb}
use lib.ListN.{length, drop, get_or, length-append}
use Rattle.bits.proofs.Tests.{pick-cases}
use Rattle.replay.specs.Sheet.{read_at, lanes_at, seen_at, last_at, breaks_at}
use Rattle.replay.specs.declared.Next.{Next}
use Rattle.replay.specs.declared.Next.TheVariants.{Going, End, Long, Cut, Full}
use Rattle.report.specs.Text.{refused_word, pair_text}
use Rattle.report.specs.Placed.{start_in, with_text}
use Rattle.report.specs.Inner.{Put}
use Rattle.report.specs.Night.{night_heading, group_word, read_word, lanes_word, last_word, breaks_word, field_text, name_of, last_text, group_line, refused_count, refused_line, refused_from, refused_lines, group_lines, end_text, figures_text}
use Rattle.report.proofs.TextLaws.{put-nothing, put_then, put_as}
use Rattle.report.proofs.Lengths.{decimal-most, single-most, pair-most, with_size, at-end}

-- ---- lines of refused packets

-- where there are some
pub refused-some : (figures : List ℕ) (group n : ℕ) {count : ℕ} → count ≡ refused_count figures group n → (count ≡ 0 → ⊥)
    → name_of group ++ pair_text refused_word n count ≡ refused_line figures group n
unfolding refused_line
refused-some figures group n e h =
    ap (λ (k : ℕ). name_of group ++ pair_text refused_word n k) e ∙ rw (ne_eqb (refused_count figures group n) 0 (λ z. h (e ∙ z)))

module _ (figures : List ℕ) (group : ℕ) (old : List ℕ) (end : ℕ) where
  -- those from n on are put
  abbrev pub PutFrom : (n at : ℕ) → List ℕ → Type 0
  PutFrom n at new = Put old end (refused_from figures group (18 - n) n) at new

  pub refusals-start : PutFrom 18 end old
  unfolding refused_from
  refusals-start = put-nothing old end

  pub refusals-on : {n at start : ℕ} {mid new : List ℕ} → 0 < n → n ≤ 18 → PutFrom n at mid → Put mid at (refused_line figures group (n - 1)) start new
      → PutFrom (n - 1) start new
  unfolding refused_from
  refusals-on {n} l h p q =
      let here : suc (n - 1) ≡ n = omega arith in
      let many : 18 - (n - 1) ≡ suc (18 - n) = omega arith in
      put_as (ap (λ (k : ℕ). refused_line figures group (n - 1) ++ refused_from figures group (18 - n) k) (sym here)
      ∙ ap (λ (k : ℕ). refused_from figures group k (n - 1)) (sym many)) (put_then p q)

  pub refusals-all : {n at : ℕ} {new : List ℕ} → n ≡ 0 → PutFrom n at new → Put old end (refused_lines figures group) at new
  unfolding refused_lines
  refusals-all e p = put_as (ap (λ (k : ℕ). refused_from figures group (18 - k) k) e) p

-- ---- how long the texts are at most

field-most : (word : List ℕ) (n : ℕ) → length (field_text word n) ≤ length word + 20
unfolding field_text
field-most word n = simp length-append (omega (arith, decimal-most n))

name-most : (group : ℕ) → length (name_of group) ≤ 26
unfolding name_of
name-most group = pick-cases (λ (s : List ℕ). length s ≤ 26) (eqb group 0) _ _ (λ t. omega arith) (λ f. field-most group_word group)

last-most : (seen last : ℕ) → length (last_text seen last) ≤ 26
unfolding last_text
last-most seen last = pick-cases (λ (s : List ℕ). length s ≤ 26) (eqb seen 0) _ _ (λ t. omega arith) (λ f. field-most last_word last)

end-most : (next : Next) → length (end_text next) ≤ 5
unfolding end_text
end-most Going = omega arith
end-most End = omega arith
end-most Long = omega arith
end-most Cut = omega arith
end-most Full = omega arith

module _ (figures : List ℕ) (group : ℕ) where
  line-most : length (group_line figures group) ≤ 134
  unfolding group_line
  line-most =
      simp length-append
      (omega (
        arith,
        name-most group,
        field-most read_word (get_or figures (read_at group) 0),
        field-most lanes_word (get_or figures (lanes_at group) 0),
        last-most (get_or figures (seen_at group) 0) (get_or figures (last_at group) 0),
        single-most breaks_word (get_or figures (breaks_at group) 0),
      ))

  refused-most : (n : ℕ) → length (refused_line figures group n) ≤ 77
  unfolding refused_line
  refused-most n =
      pick-cases (λ (s : List ℕ). length s ≤ 77) (eqb (refused_count figures group n) 0) _ _ (λ t. omega arith)
      (λ f. simp length-append (omega (arith, name-most group, pair-most refused_word n (refused_count figures group n))))

  from-most : (many n : ℕ) → length (refused_from figures group many n) ≤ 77 * many
  unfolding refused_from
  from-most zero n = omega arith
  from-most (suc many) n = simp length-append (omega (arith, refused-most n, from-most many (suc n)))

  refusals-most : length (refused_lines figures group) ≤ 1386
  unfolding refused_lines
  refusals-most = from-most 18 0

  lines-most : length (group_lines figures group) ≤ 1520
  unfolding group_lines
  lines-most = simp length-append (omega (arith, line-most, refusals-most))

figures-most : (figures : List ℕ) (next : Next) → length (figures_text figures next) ≤ 8192
unfolding figures_text
figures-most figures next =
    simp length-append
    (omega (arith, lines-most figures 1, lines-most figures 2, lines-most figures 3, lines-most figures 4, refusals-most figures 0, end-most next))

-- ---- what is written from a text's start on is the text

module _ (old : List ℕ) (size : length old ≡ 8192) where
  pub night-heading-written : drop (start_in 8192 night_heading) (with_text night_heading old) ≡ night_heading
  night-heading-written = at-end night_heading old size (omega arith)

  pub figures-written : (figures : List ℕ) (next : Next)
      → drop (start_in 8192 (figures_text figures next)) (with_text (figures_text figures next) old) ≡ figures_text figures next
  figures-written figures next = at-end (figures_text figures next) old size (figures-most figures next)

  -- and the buffer is as long as it was
  pub night-heading-size : {new : List ℕ} → new ≡ with_text night_heading old → length new ≡ 8192
  night-heading-size e = ap length e ∙ with_size night_heading old size (omega arith)

  pub figures-size : (figures : List ℕ) (next : Next) {new : List ℕ} → new ≡ with_text (figures_text figures next) old → length new ≡ 8192
  figures-size figures next e = ap length e ∙ with_size (figures_text figures next) old size (figures-most figures next)
