-- Laws of the table of five-bit groups, each computed once over the whole table. Assumes nothing.
use mathlib.Core.Path.{◌≡◌, refl, sym, ap, ◌∙◌}
use mathlib.Core.Bool.{Bool, true, false, ◌&&◌, ◌||◌}
use mathlib.Core.List.{List, [], ◌∷◌}
use mathlib.Core.Logic.{⊎_elim}
use Prim.Native.Nat.{ℕ, ◌+◌, ◌/◌, ◌%◌, ◌≤◌, ◌<◌}
use native.Mathlib.Nat.{mod-eq_of_lt}
use native.Mathlib.Omega.{arith}
use borrow.Author.Tests.{lt-ltb, eqb-true, eq-eqb}
use lib.Dec.{eqb, ltb, ltb→lt, eqb→eq}
use lib.ListN.{get_or, get_or-eq_default}
use Rattle.bits.specs.Pick.{pick, first}
use Rattle.bits.specs.Row.{bits, big_bits, little, big}
use Rattle.bits.proofs.Tests.{and_left, and_right, no-yes, order}
use Rattle.bits.proofs.Every.{each, agree}
use Rattle.bits.proofs.Firsts.{first-cases, first-map}
use Rattle.bits.proofs.Rows.{little-lt, big_lt, length-bits, length-big_bits, bits-little, big-big_bits}
use Rattle.madi_code.specs.Groups.{group_codes, group_code, command_codes, command_code, command_of, is_half, group_of}
use Rattle.madi_code.specs.Inner.{meant, placed_commands, place_in, command_by}
use Rattle.madi_code.specs.declared.Group.{Group}
use Rattle.madi_code.specs.declared.Group.TheVariants.{Data, Half, Nothing}

-- ---- four bits in a word, and in the table's order

pub turned_lt : (d : ℕ) → little (big_bits 4 d) < 16
turned_lt d = rw (length-big_bits 4 d) at (little-lt (big_bits 4 d))

pub place-lt : (x : ℕ) → big (bits 4 x) < 16
place-lt x = rw (length-bits 4 x) at (big_lt (bits 4 x))

turned-back : (d : ℕ) → d < 16 → big (bits 4 (little (big_bits 4 d))) ≡ d
turned-back d h =
    ap big (rw (length-big_bits 4 d) at (bits-little (big_bits 4 d))) ∙ big-big_bits 4 d ∙ mod-eq_of_lt h

-- ---- the groups

pub code_lt : (d : ℕ) → d < 16 → group_code d < 32
unfolding group_code group_codes
code_lt d h = ltb→lt (group_code d) 32 (each 16 (λ k. ltb (group_code k) 32) tt d h)

-- the place of a group in the table
place_of : ℕ → ℕ
place_of g = first (λ d. eqb (group_code d) g) 0 16 (λ d. d) 16

place-of-code : (d : ℕ) → d < 16 → place_of (group_code d) ≡ d
unfolding place_of first group_code group_codes
place-of-code = agree 16 (λ d. place_of (group_code d)) (λ d. d) tt

-- the groups are distinct, by one computed test over the table: equal codes, equal groups
pub groups-distinct : (d e : ℕ) → d < 16 → e < 16 → group_code d ≡ group_code e → d ≡ e
groups-distinct d e hd he q = sym (place-of-code d hd) ∙ ap place_of q ∙ place-of-code e he

-- ---- the commands

pub command-lt : (c : ℕ) → c < 16 → command_code c < 1024
unfolding command_code command_codes
command-lt c h = ltb→lt (command_code c) 1024 (each 16 (λ k. ltb (command_code k) 1024) tt c h)

-- the table lists them
pub command-listed : (c : ℕ) → get_or command_codes c 0 ≡ command_code c
unfolding command_code
command-listed c = refl

-- past the table too
pub command-small : (c : ℕ) → command_code c < 1024
unfolding command_code command_codes
command-small c =
    ⊎_elim (λ (past : 16 ≤ c). omega (arith, get_or-eq_default command_codes 0 {n = c} past)) (λ (h : c < 16). command-lt c h) (order 16 c)

-- each command is read as itself, by one computed test over the table
pub command-back : (c : ℕ) → c < 16 → command_of (command_code c) ≡ c
unfolding command_of first command_code command_codes
command-back = agree 16 (λ c. command_of (command_code c)) (λ c. c) tt

-- so the commands are distinct
pub commands-distinct : (c d : ℕ) → c < 16 → d < 16 → command_code c ≡ command_code d → c ≡ d
commands-distinct c d hc hd q = sym (command-back c hc) ∙ ap command_of q ∙ command-back d hd

-- ten bits that are a command are its code
pub command-only : (v : ℕ) → command_of v < 16 → command_code (command_of v) ≡ v
unfolding command_of
command-only v =
    first-cases (λ c. eqb (command_code c) v) (λ c. c) 16 (λ (x : ℕ). x < 16 → command_code x ≡ v) 0 16
    (λ i l t none h. eqb-true (command_code (0 + i)) v t) (λ none h. absurd (omega arith))

-- ---- the commands by their places

-- what stands there is right, and every command is there, each by one computed test
placed-right : (i : ℕ) → i < 32 → command_of (get_or placed_commands i 0 / 16) ≡ get_or placed_commands i 0 % 16
unfolding placed_commands command_of first command_code command_codes
placed-right = agree 32 (λ i. command_of (get_or placed_commands i 0 / 16)) (λ i. get_or placed_commands i 0 % 16) tt

placed-there : (c : ℕ) → c < 16 → get_or placed_commands (place_in (command_code c)) 0 / 16 ≡ command_code c
unfolding placed_commands place_in command_code command_codes
placed-there = agree 16 (λ c. get_or placed_commands (place_in (command_code c)) 0 / 16) command_code tt

place-in-lt : (v : ℕ) → place_in v < 32
unfolding place_in
place-in-lt v = omega arith

-- ten bits that do not stand there are none
not-placed : (v : ℕ) → (get_or placed_commands (place_in v) 0 / 16 ≡ v → ⊥) → command_of v ≡ 16
unfolding command_of
not-placed v other =
    first-cases (λ c. eqb (command_code c) v) (λ c. c) 16 (λ (x : ℕ). x ≡ 16) 0 16
    (λ i l t none. absurd (other (there (0 + i) (omega arith) (eqb-true (command_code (0 + i)) v t)))) (λ none. refl)
  where
    there : (c : ℕ) → c < 16 → command_code c ≡ v → get_or placed_commands (place_in v) 0 / 16 ≡ v
    there c h e = ap (λ (u : ℕ). get_or placed_commands (place_in u) 0 / 16) (sym e) ∙ placed-there c h ∙ e

-- so the table tells which command ten bits are
pub commands-placed : (v : ℕ) → command_by placed_commands v ≡ command_of v
unfolding command_by
commands-placed v = by (eqb (get_or placed_commands (place_in v) 0 / 16) v) refl
  where
    by : (t : Bool) → eqb (get_or placed_commands (place_in v) 0 / 16) v ≡ t → pick t (get_or placed_commands (place_in v) 0 % 16) 16 ≡ command_of v
    by true e = sym (placed-right (place_in v) (place-in-lt v)) ∙ ap command_of (eqb-true (get_or placed_commands (place_in v) 0 / 16) v e)
    by false e = sym (not-placed v (λ q. no-yes (eqb (get_or placed_commands (place_in v) 0 / 16) v) e (eq-eqb (get_or placed_commands (place_in v) 0 / 16) v q)))

-- no half is above 31
half-above : (g : ℕ) → 32 ≤ g → is_half g ≡ false
unfolding is_half
half-above g h =
    first-cases (λ c. eqb (command_code c / 32) g || eqb (command_code c % 32) g) (λ c. true) false (λ (t : Bool). t ≡ false) 0 16
    (λ i l t none. absurd (neither (0 + i) (eqb (command_code (0 + i) / 32) g) (eqb (command_code (0 + i) % 32) g) refl refl t)) (λ none. refl)
  where
    neither : (c : ℕ) (t u : Bool) → eqb (command_code c / 32) g ≡ t → eqb (command_code c % 32) g ≡ u → (t || u) ≡ true → ⊥
    neither c true u a b e = omega (arith, command-small c, eqb-true (command_code c / 32) g a)
    neither c false true a b e = omega (arith, eqb-true (command_code c % 32) g b)
    neither c false false a b e = no-yes false refl e

-- ---- the meanings

given : ℕ → Group
given x = pick (ltb x 16) (Data x) (pick (eqb x 129) Half Nothing)

pub group-meant : (g : ℕ) → group_of g ≡ pick (ltb (meant g) 16) (Data (meant g)) (pick (eqb (meant g) 129) Half Nothing)
unfolding group_of meant given
group-meant g =
    ap (first (λ d. eqb (group_code d) g) 0 16 (λ d. Data (little (big_bits 4 d)))) (no-data (is_half g))
    ∙ first-map given (λ d. eqb (group_code d) g) (λ d. eqb (group_code d) g) 0 16 (λ d. little (big_bits 4 d)) (λ d. Data (little (big_bits 4 d)))
    (pick (is_half g) 129 128) (λ i l. refl) (λ i. rw (lt-ltb (little (big_bits 4 i)) 16 (turned_lt i)))
  where
    no-data : (t : Bool) → pick t Half Nothing ≡ given (pick t 129 128)
    no-data true = refl
    no-data false = refl

-- five bits are at most 31
pub group-above : (g : ℕ) → 32 ≤ g → group_of g ≡ Nothing
unfolding group_of
group-above g h =
    first-cases (λ d. eqb (group_code d) g) (λ d. Data (little (big_bits 4 d))) (pick (is_half g) Half Nothing) (λ (r : Group). r ≡ Nothing) 0 16
    (λ i l t none. absurd (omega (arith, code_lt (0 + i) (omega arith), eqb-true (group_code (0 + i)) g t))) (λ none. rw (half-above g h))

-- the groups are distinct: each means the four bits that became it
meant-code : (x : ℕ) → x < 16 → meant (group_code (big (bits 4 x))) ≡ x
unfolding meant first group_code group_codes little big bits big_bits
meant-code = agree 16 (λ x. meant (group_code (big (bits 4 x)))) (λ x. x) tt

pub group-data : (x : ℕ) → x < 16 → group_of (group_code (big (bits 4 x))) ≡ Data x
group-data x h = group-meant (group_code (big (bits 4 x))) ∙ rw (meant-code x h, lt-ltb x 16 h)

-- a data group is the group of its four bits
pub group-only : (g x : ℕ) → group_of g ≡ Data x → (x < 16) × (g ≡ group_code (big (bits 4 x)))
unfolding group_of
group-only g x =
    first-cases (λ d. eqb (group_code d) g) (λ d. Data (little (big_bits 4 d))) (pick (is_half g) Half Nothing)
    (λ (r : Group). r ≡ Data x → (x < 16) × (g ≡ group_code (big (bits 4 x)))) 0 16
    (λ i l t none e. found (0 + i) (omega arith) t e)
    (λ none e. absurd (no-data (is_half g) e))
  where
    no-data : (t : Bool) → pick t Half Nothing ≡ Data x → ⊥
    no-data true e = let z : ◌≡◌ {A = ℕ} 0 1 = cc in omega arith
    no-data false e = let z : ◌≡◌ {A = ℕ} 0 1 = cc in omega arith

    found : (d : ℕ) → d < 16 → eqb (group_code d) g ≡ true → Data (little (big_bits 4 d)) ≡ Data x → (x < 16) × (g ≡ group_code (big (bits 4 x)))
    found d h t e =
        let same : little (big_bits 4 d) ≡ x = cc in (
          omega (arith, turned_lt d),
          sym (eqb-true (group_code d) g t) ∙ ap group_code (sym (turned-back d h) ∙ ap (λ (y : ℕ). big (bits 4 y)) same),
        )

-- ---- the reader's table: the inverse of the groups, by one computed test

abbrev pub meanings : List ℕ
meanings =
    129 ∷ 128 ∷ 128 ∷ 128 ∷ 129 ∷ 128 ∷ 128 ∷ 129 ∷ 128 ∷ 8 ∷ 2 ∷ 10 ∷ 128 ∷ 129 ∷ 6 ∷ 14 ∷ 128 ∷ 129 ∷ 1 ∷ 9 ∷ 4 ∷ 12 ∷ 5 ∷ 13 ∷ 129 ∷ 129 ∷ 3 ∷ 11 ∷ 7 ∷ 15 ∷ 0
    ∷ 129 ∷ []

pub meanings-right : (g : ℕ) → g < 32 → get_or meanings g 0 ≡ meant g
unfolding meant is_half first group_code group_codes command_code command_codes little big_bits
meanings-right = agree 32 (λ g. get_or meanings g 0) meant tt

pub group-table : (g : ℕ) → g < 32 → group_of g ≡ pick (ltb (get_or meanings g 0) 16) (Data (get_or meanings g 0)) (pick (eqb (get_or meanings g 0) 129) Half Nothing)
unfolding given
group-table g h = group-meant g ∙ ap given (sym (meanings-right g h))

-- a meaning is four bits, or 128 and more
pub meant-cases {ℓ} : (g : ℕ) {A : Type ℓ} → (meant g < 16 → A) → (128 ≤ meant g → A) → A
unfolding meant
meant-cases g {A} small none =
    first-cases (λ d. eqb (group_code d) g) (λ d. little (big_bits 4 d)) (pick (is_half g) 129 128) (λ (x : ℕ). (x < 16 → A) → (128 ≤ x → A) → A) 0 16
    (λ i l t before s n. s (turned_lt (0 + i))) (λ no s n. n (much (is_half g))) small none
  where
    much : (t : Bool) → 128 ≤ pick t 129 128
    much true = omega arith
    much false = omega arith

-- ---- both halves of a command are no data groups, by one computed test over the table

halves : (c : ℕ) → c < 16 → (meant (command_code c / 32) ≡ 129) × (meant (command_code c % 32) ≡ 129)
unfolding meant is_half first group_code group_codes command_code command_codes little big_bits
halves c h =
    let both = each 16 (λ k. eqb (meant (command_code k / 32)) 129 && eqb (meant (command_code k % 32)) 129) tt c h in
    let left = eqb (meant (command_code c / 32)) 129 in
    let right = eqb (meant (command_code c % 32)) 129 in
    (eqb→eq (meant (command_code c / 32)) 129 (and_left left right both), eqb→eq (meant (command_code c % 32)) 129 (and_right left right both))

pub command-halves : (c : ℕ) → c < 16 → (group_of (command_code c / 32) ≡ Half) × (group_of (command_code c % 32) ≡ Half)
command-halves c h =
    let both = halves c h in
    (group-meant (command_code c / 32) ∙ rw both.0, group-meant (command_code c % 32) ∙ rw both.1)

-- ten bits whose first five are no half are no command
pub no-half : (v : ℕ) → (group_of (v / 32 % 32) ≡ Half → ⊥) → command_of v ≡ 16
unfolding command_of
no-half v other =
    first-cases (λ c. eqb (command_code c) v) (λ c. c) 16 (λ (x : ℕ). x ≡ 16) 0 16
    (λ i l t none. absurd (other (first-half (0 + i) (omega arith) (eqb-true (command_code (0 + i)) v t)))) (λ none. refl)
  where
    first-half : (c : ℕ) → c < 16 → command_code c ≡ v → group_of (v / 32 % 32) ≡ Half
    first-half c h e =
        let same : v / 32 % 32 ≡ command_code c / 32 = omega (arith, command-lt c h) in
        ap group_of same ∙ (command-halves c h).0

-- ---- the writer's table of turned fours

abbrev pub turns : List ℕ
turns = 0 ∷ 8 ∷ 4 ∷ 12 ∷ 2 ∷ 10 ∷ 6 ∷ 14 ∷ 1 ∷ 9 ∷ 5 ∷ 13 ∷ 3 ∷ 11 ∷ 7 ∷ 15 ∷ []

pub turns-right : (x : ℕ) → x < 16 → get_or turns x 0 ≡ big (bits 4 x)
unfolding big bits
turns-right = agree 16 (λ x. get_or turns x 0) (λ x. big (bits 4 x)) tt
