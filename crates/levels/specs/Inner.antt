-- What the code holds of a channel, of a sheet and of a block: levels line by line, and four figures of each channel's
-- samples. Assumes nothing.
use Rattle.std.specs.Prelude.{◌≡◌, Result, MatchResult, ℕ, ◌<◌, ◌^◌, ◌&&◌, Bool, true, false, not, List, [], ◌∷◌, ◌++◌, Option, Some, None}
use Rattle.std.specs.Prelude.{ℤ, pos, negsuc, nat_abs, ◌+ℤ◌, ◌*ℤ◌}
use Rattle.std.specs.Int.Signed.{mag, le_z}
use Rattle.bits.specs.Pick.{first}
use Rattle.bits.specs.Listed.{listed}
use Rattle.answer.specs.declared.Refusal.{Refusal}
use Rattle.levels.specs.Lines.{smallest_line, largest_line, sum_line, ends_line, least, most}
use Rattle.levels.specs.Lines.{line_at, line_sound, joined_line}
use Rattle.levels.specs.Sheets.{of_samples, of_side}
use Rattle.levels.specs.Calls.{has_room}
use Rattle.levels.specs.declared.channel.Levels.{Levels}
use Rattle.levels.specs.declared.figures.Figures.{Figures}
use Rattle.levels.specs.declared.sheet.Sheet.{Sheet}

-- what the code answers where a test passes: a value, of which f says this; else it refuses
abbrev pub Answers : {A B : Type 0} → Result A Refusal → Bool → (A → B) → B → Refusal → Type 0
Answers r test f this refusal =
    MatchResult r (λ a. (test ≡ true) × (f a ≡ this)) (λ e. (e ≡ refusal) × (test ≡ false))

-- ---- a channel

-- its ten lines: with no samples all is 0, but for the mark
abbrev pub channel_lines : Option Levels → List ℤ
channel_lines None = pos 0 ∷ pos 1 ∷ pos 0 ∷ pos 0 ∷ pos 0 ∷ pos 0 ∷ pos 0 ∷ pos 0 ∷ pos 0 ∷ pos 0 ∷ []
channel_lines (Some l) =
    l.samples ∷ pos 0 ∷ l.smallest ∷ l.largest ∷ l.magnitude ∷ l.total ∷ l.ends ∷ l.v_frames ∷ l.e_frames ∷ l.right ∷ []

-- a line of ten is not accepted
abbrev pub unsound_in : List ℤ → ℕ → Bool
unsound_in lines j = not (line_sound j (nat_abs (line_at lines 0)) (line_at lines j))

-- ten lines are accepted
unfoldable pub channel_sound : List ℤ → Bool
channel_sound lines = first (unsound_in lines) 0 10 (λ j. false) true

-- the lines of two stretches, from those of each
unfoldable pub channel_joined : List ℤ → List ℤ → List ℤ
channel_joined a b =
    listed 0 10 (λ j. joined_line j (nat_abs (line_at a 0)) (nat_abs (line_at b 0)) (line_at a j) (line_at b j))

-- from one number to another
abbrev pub from_to : (low high : ℤ) → ℤ → Bool
from_to low high x = le_z low x && le_z x high

-- levels that are accepted
abbrev pub extremes_sound : Levels → Bool
extremes_sound l =
    from_to (negsuc 8388607) (pos 8388607) l.smallest && from_to (negsuc 8388607) (pos 8388607) l.largest
    && from_to (pos 0) (pos 8388608) l.magnitude

abbrev pub counts_sound : Levels → Bool
counts_sound l =
    from_to (pos 0) l.samples l.ends && from_to (pos 0) l.samples l.v_frames && from_to (pos 0) l.samples l.e_frames
    && from_to (pos 0) l.samples l.right

abbrev pub levels_sound : Levels → Bool
levels_sound l =
    from_to (pos 1) (pos (2 ^ 32)) l.samples
    && from_to (negsuc 8388607 *ℤ l.samples) (pos 8388608 *ℤ l.samples) l.total && extremes_sound l && counts_sound l

-- levels that are far from the width's ends
abbrev pub Small : Levels → Type 0
Small l =
    (mag l.samples < 2 ^ 60) × (mag l.total < 2 ^ 60) × (mag l.ends < 2 ^ 60) × (mag l.v_frames < 2 ^ 60)
    × (mag l.e_frames < 2 ^ 60) × (mag l.right < 2 ^ 60)

-- the levels of two stretches
abbrev pub levels_joined : Levels → Levels → Levels
levels_joined x y =
    record {
      samples = x.samples +ℤ y.samples;
      smallest = least x.smallest y.smallest;
      largest = most x.largest y.largest;
      magnitude = most x.magnitude y.magnitude;
      total = x.total +ℤ y.total;
      ends = x.ends +ℤ y.ends;
      v_frames = x.v_frames +ℤ y.v_frames;
      e_frames = x.e_frames +ℤ y.e_frames;
      right = x.right +ℤ y.right;
    }

-- ---- a sheet

abbrev pub sheet_lines : Sheet → List ℤ
sheet_lines s = channel_lines s.a ++ channel_lines s.b

-- both channels have room for the samples of another stretch
abbrev pub rooms : List ℤ → List ℤ → Bool
rooms a b = has_room a 0 (nat_abs (line_at b 0)) && has_room a 10 (nat_abs (line_at b 10))

-- ---- a block

-- what one pass over samples gives
abbrev pub figures_of : List ℤ → Figures
figures_of xs =
    record {
      smallest = of_samples smallest_line xs;
      largest = of_samples largest_line xs;
      total = of_samples sum_line xs;
      ends = nat_abs (of_samples ends_line xs);
    }

-- the larger magnitude of two numbers
abbrev pub magnitude_of : ℤ → ℤ → ℤ
magnitude_of x y = most (pos (nat_abs x)) (pos (nat_abs y))

-- the levels of a channel of one block
abbrev pub levels_of : Figures → ℕ → List ℕ → Levels
levels_of f c side =
    record {
      samples = pos 192;
      smallest = f.smallest;
      largest = f.largest;
      magnitude = magnitude_of f.smallest f.largest;
      total = f.total;
      ends = pos f.ends;
      v_frames = pos (of_side 7 c side);
      e_frames = pos (of_side 8 c side);
      right = pos (of_side 9 c side);
    }

-- the sheet of one block
abbrev pub block_sheet : Figures → Figures → List ℕ → Sheet
block_sheet f g side = record { a = Some (levels_of f 0 side); b = Some (levels_of g 1 side) }

abbrev pub block_lines : Figures → Figures → List ℕ → List ℤ
block_lines f g side = sheet_lines (block_sheet f g side)
