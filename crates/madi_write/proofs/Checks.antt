-- What the writer's demands say where all are met, and what meets those of the words. Assumes nothing.
use mathlib.Core.Path.{◌≡◌, refl, sym, ap}
use mathlib.Core.Logic.{⊎_elim}
use mathlib.Core.Bool.{Bool, true, false, not, ◌&&◌}
use mathlib.Core.List.{List}
use Prim.Native.Nat.{ℕ, ◌%◌, ◌≤◌, ◌<◌}
use native.Mathlib.Omega.{arith}
use borrow.Author.Tests.{leb-true, le-leb, eqb-true, eq-eqb}
use lib.Bits.{bit_or, or_add_and, and_le_l, and_le_r}
use lib.Dec.{eqb, leb}
use lib.ListN.{length, get_or, get_or-eq_default}
use Rattle.std.specs.Ordering.{is_le, nat_cmp}
use Rattle.std.proofs.lemmas.Bool.Decides.{nat_tests}
use Rattle.bits.proofs.Tests.{both_true, order}
use Rattle.answer.specs.Answer.{Answer.accepted}
use Rattle.answer.specs.Demand.{AllMet, ◌&◌}
use Rattle.answer.proofs.Chains.{met, passing}
use Rattle.subframe.specs.Body.{even_body}
use Rattle.madi_code.specs.Frame.{counted, numbered, synced}
use Rattle.madi_code.proofs.FrameLaws.{counted-le, synced-some}
use Rattle.madi_write.specs.Writer.{needed, frame_octets, is_list, channel_word_demands, write_demands, frame_written}
use Rattle.madi_write.specs.Inner.{Sound}

not-not : (t : Bool) → not t ≡ false → t ≡ true
not-not true e = refl
not-not false e = sym e

-- the test of a range
pub le-leb-is : (a b : ℕ) → is_le (nat_cmp a b) ≡ leb a b
le-leb-is a b = grind (arith, nat_tests)

-- ---- a list of commands

-- what it is
pub list_of : (commands : List ℕ) → is_list commands ≡ true → (length commands ≤ 255) × (numbered commands ≡ true) × (synced commands ≡ true)
unfolding is_list
list_of commands e =
    let n = length commands in
    let b = both_true (leb 1 n && leb n 255) (numbered commands && synced commands) e in
    let c = both_true (numbered commands) (synced commands) b.1 in
    (leb-true n 255 (both_true (leb 1 n) (leb n 255) b.0).1, c.0, c.1)

-- what makes one
pub list_right : (commands : List ℕ) → length commands ≤ 255 → numbered commands ≡ true → synced commands ≡ true → is_list commands ≡ true
unfolding is_list
list_right commands short named with-sync =
    rw (le-leb 1 (length commands) (synced-some commands with-sync), le-leb (length commands) 255 short, named, with-sync)

-- ---- all demands met

pub record Writable (channels : ℕ) (words commands : List ℕ) (level room : ℕ) : Type 0 where
  pub counts : counted channels ≡ true
  pub at_most : channels ≤ 64
  pub some : 1 ≤ length words
  pub most : length words ≤ channels
  pub short : length commands ≤ 255
  pub named : numbered commands ≡ true
  pub with-sync : synced commands ≡ true
  pub digital : level ≤ 1
  pub fits : needed channels (length commands) ≤ room
  pub even : (i : ℕ) → i < length words → even_body (get_or words i 0) ≡ true
  -- past the end of the words too
  pub clean : (k : ℕ) → get_or words k 0 % 4 ≡ 0

pub writable : (channels : ℕ) (words commands : List ℕ) (level room : ℕ) → AllMet (write_demands channels words commands level room)
    → Writable channels words commands level room
writable channels words commands level room m =
    let l = list_of commands m.1.1.1.0 in
    record {
      counts = m.0;
      at_most = counted-le channels m.0;
      some = leb-true 1 (length words) m.1.0;
      most = leb-true (length words) channels m.1.1.0;
      short = l.0;
      named = l.1;
      with-sync = l.2;
      digital = leb-true level 1 m.1.1.1.1.0;
      fits = leb-true (needed channels (length commands)) room m.1.1.1.1.1.0;
      even = λ i h. not-not (even_body (get_or words i 0)) (m.1.1.1.1.1.1.0 i (omega arith) (omega arith));
      clean = λ k. ⊎_elim (λ (past : length words ≤ k). ap (λ (w : ℕ). w % 4) (get_or-eq_default words 0 {n = k} past))
          (λ (l : k < length words). eqb-true (get_or words k 0 % 4) 0
          (not-not (eqb (get_or words k 0 % 4) 0) (m.1.1.1.1.1.1.1.0 k (omega arith) (omega arith)))) (order (length words) k);
    }

-- ---- and where no word breaks a rule

pub sound-met : (words : List ℕ) → Sound words → AllMet (channel_word_demands words)
sound-met words sound =
    (λ i l h. ap not (sound i (omega arith)).0) & (λ i l h. ap not (eq-eqb (get_or words i 0 % 4) 0 (sound i (omega arith)).1)) & tt

-- an or is at least each side
pub left_in : (a b : ℕ) → a ≤ bit_or a b
left_in a b = omega (arith, or_add_and a b, and_le_r a b)

pub right-in : (a b : ℕ) → b ≤ bit_or a b
right-in a b = omega (arith, or_add_and a b, and_le_l a b)

-- ---- accepted exactly if all demands are met

module _ (channels : ℕ) (words commands : List ℕ) (level room : ℕ) where
  pub frame-accepted : AllMet (write_demands channels words commands level room)
      → frame_written channels words commands level room ≡ accepted (frame_octets channels words commands level)
  unfolding frame_written
  frame-accepted m = passing (accepted (frame_octets channels words commands level)) (write_demands channels words commands level room) m

  pub accepted-frame : (line : List ℕ) → frame_written channels words commands level room ≡ accepted line
      → Writable channels words commands level room × (frame_octets channels words commands level ≡ line)
  unfolding frame_written
  accepted-frame line e =
      let m = met (frame_octets channels words commands level) (write_demands channels words commands level room) e in
      (writable channels words commands level room m.0, m.1)
