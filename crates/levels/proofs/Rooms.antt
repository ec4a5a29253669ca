-- The samples of two sheets, channel by channel, and whether there is room for both. Assumes nothing.
use mathlib.Core.Path.{◌≡◌, sym, ap, ap₂, ◌∙◌}
use mathlib.Core.Bool.{true}
use Prim.Native.Nat.{ℕ, ◌+◌}
use native.Mathlib.Omega.{arith}
use lib.Dec.{leb}
use lib.IntN.{ℤ, pos, nat_abs, ◌+ℤ◌}
use lib.Signed.{le_z}
use mir.Syntax.{w64}
use mir.Val.{SFits, to_z, of_z}
use Rattle.std.specs.Prelude.{Option}
use Rattle.bits.proofs.Tests.{both_true}
use Rattle.levels.specs.Lines.{line_at, sheet_sound}
use Rattle.levels.specs.Calls.{has_room}
use Rattle.levels.specs.Inner.{channel_lines, channel_sound, sheet_lines}
use Rattle.levels.specs.declared.channel.Levels.{Levels}
use Rattle.levels.specs.declared.sheet.Sheet.{Sheet}
use Rattle.levels.proofs.Channels.{sheet-sound, head-left, head-right}
use Rattle.levels.proofs.Levels.{length-lines, head-few, back}

pub parts : (s : Sheet) → sheet_sound (sheet_lines s) ≡ true
    → (channel_sound (channel_lines s.a) ≡ true) × (channel_sound (channel_lines s.b) ≡ true)
parts s e = both_true _ _ (sym (sheet-sound (channel_lines s.a) (channel_lines s.b) (length-lines s.a)) ∙ e)

-- the samples of a channel
abbrev pub samples : Option Levels → ℕ
samples c = nat_abs (line_at (channel_lines c) 0)

module _ (x y : Option Levels) (e : channel_sound (channel_lines x) ≡ true) (f : channel_sound (channel_lines y) ≡ true) (r s : ℤ)
    (p : r ≡ line_at (channel_lines x) 0) (q : s ≡ line_at (channel_lines y) 0) where
  first-is : to_z w64 (of_z w64 r) ≡ pos (samples x)
  first-is = rw (p ∙ (head-few x e).0) (back (pos (samples x)) (omega (arith, (head-few x e).1)))

  second-is : to_z w64 (of_z w64 s) ≡ pos (samples y)
  second-is = rw (q ∙ (head-few y f).0) (back (pos (samples y)) (omega (arith, (head-few y f).1)))

  pub few-fit : SFits w64 (to_z w64 (of_z w64 r) +ℤ to_z w64 (of_z w64 s))
  few-fit = rw (first-is, second-is) (record { sfits = omega (arith, (head-few x e).1, (head-few y f).1) })

  pub together : to_z w64 (of_z w64 (to_z w64 (of_z w64 r) +ℤ to_z w64 (of_z w64 s))) ≡ pos (samples x + samples y)
  together = rw (first-is, second-is) (back (pos (samples x + samples y)) (omega (arith, (head-few x e).1, (head-few y f).1)))

module _ (f l : Sheet) where
  room-a : has_room (sheet_lines f) 0 (nat_abs (line_at (sheet_lines l) 0)) ≡ leb (samples f.a + samples l.a) 4294967296
  room-a =
      let a : nat_abs (line_at (sheet_lines f) 0) ≡ samples f.a = head-left (channel_lines f.a) (channel_lines f.b) (length-lines f.a) 0 (omega arith) in
      let b : nat_abs (line_at (sheet_lines l) 0) ≡ samples l.a = head-left (channel_lines l.a) (channel_lines l.b) (length-lines l.a) 0 (omega arith) in
      ap₂ (λ (m n : ℕ). leb (m + n) 4294967296) a b

  room-b : has_room (sheet_lines f) 10 (nat_abs (line_at (sheet_lines l) 10)) ≡ leb (samples f.b + samples l.b) 4294967296
  room-b =
      let a : nat_abs (line_at (sheet_lines f) 10) ≡ samples f.b = head-right (channel_lines f.a) (channel_lines f.b) (length-lines f.a) 0 (omega arith) in
      let b : nat_abs (line_at (sheet_lines l) 10) ≡ samples l.b = head-right (channel_lines l.a) (channel_lines l.b) (length-lines l.a) 0 (omega arith) in
      ap₂ (λ (m n : ℕ). leb (m + n) 4294967296) a b

  pub holds-a : (z : ℤ) → z ≡ pos (samples f.a + samples l.a)
      → le_z z (pos 4294967296) ≡ has_room (sheet_lines f) 0 (nat_abs (line_at (sheet_lines l) 0))
  holds-a z e = ap (λ (y : ℤ). le_z y (pos 4294967296)) e ∙ sym room-a

  pub holds-b : (z : ℤ) → z ≡ pos (samples f.b + samples l.b)
      → le_z z (pos 4294967296) ≡ has_room (sheet_lines f) 10 (nat_abs (line_at (sheet_lines l) 10))
  holds-b z e = ap (λ (y : ℤ). le_z y (pos 4294967296)) e ∙ sym room-b
