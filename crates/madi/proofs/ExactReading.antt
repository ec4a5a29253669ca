-- What the reader accepts, exactly: the units that stood on the line are one frame's, in one way only; counts, words and
-- commands are theirs, and none is invented; and every lawful frame is accepted, wherever its commands stand. Assumes
-- nothing.
use mathlib.Core.Path.{◌≡◌, refl, sym, ap, ap₂, ◌∙◌}
use mathlib.Core.Bool.{true}
use mathlib.Core.List.{List, map}
use Prim.Native.Nat.{ℕ, ◌+◌, ◌*◌, ◌-◌, ◌/◌, ◌≤◌}
use native.Mathlib.Omega.{arith}
use borrow.Author.Tests.{le-leb, eq-eqb}
use lib.ListN.{length}
use Rattle.bits.specs.Row.{Row, odd, count, big}
use Rattle.bits.specs.Window.{window}
use Rattle.bits.specs.Pack.{octets, symbols}
use Rattle.bits.specs.Cross.{across}
use Rattle.bits.proofs.Packing.{length-pack}
use Rattle.answer.specs.Answer.{Answer.accepted}
use Rattle.answer.specs.Demand.{◌&◌}
use Rattle.line.specs.Nrzi.{levels}
use Rattle.madi_code.specs.Frame.{boundary, counted}
use Rattle.madi_code.proofs.FrameLaws.{counted-le}
use Rattle.madi_read.specs.Reader.{carried, Frame, at_start, cleared, row_read, frame_read}
use Rattle.madi_read.proofs.Carrying.{length-carried}
use Rattle.madi_read.proofs.Lines.{line-carries, line-spare}
use Rattle.madi_read.proofs.Accepting.{accepting, demands-met}
use Rattle.madi.specs.Units.{Part, units_row, channels_in, commands_in, with_units, Lawful}
use Rattle.madi.proofs.UnitLaws.{units-length, units-words, units-commands, units-active, one-frame}
use Rattle.madi.proofs.Reading.{lawful-read, units-read}

-- ---- what is accepted stood on the line

-- the line carried the units of a frame, and those of no other; with bits 0 and 1 cleared their channels are the words
-- given, in their order the commands; as many channels as are counted have the active bit set, and the bits are 40 for
-- each channel and ten for each command
pub record Stood (channels level bits : ℕ) (line : List ℕ) (f : Frame) : Type 0 where
  pub us : List Part
  pub lawful : Lawful channels us
  pub units : carried level bits line ≡ units_row us
  pub only : (vs : List Part) → Lawful channels vs → carried level bits line ≡ units_row vs → us ≡ vs
  pub words : f.words ≡ map cleared (channels_in us)
  pub commands : f.commands ≡ commands_in us
  pub active : f.active ≡ count (across 1 (channels_in us))
  pub whole : bits ≡ boundary channels (length f.commands)

pub counts-stood : (channels level bits : ℕ) (line : List ℕ) (room places : ℕ) (f : Frame)
    → frame_read channels level bits line room places ≡ accepted f → Stood channels level bits line f
counts-stood channels level bits line room places f reads =
    let r : Row = carried level bits line in
    let read = units-read r channels f (accepting channels level bits line room places f reads).read in
    let us : List Part = read.0 in
    let given : f ≡ with_units us at_start = read.3 in
    let came : f.commands ≡ commands_in us = ap (λ (g : Frame). g.commands) given ∙ units-commands us at_start in
    record {
      us = us;
      lawful = read.1;
      units = read.2;
      only = λ vs l e. one-frame channels us vs read.1 l (sym read.2 ∙ e);
      words = ap (λ (g : Frame). g.words) given ∙ units-words us at_start;
      commands = came;
      active = omega (arith, ap (λ (g : Frame). g.active) given, units-active us at_start);
      whole =
          sym (length-carried level bits line) ∙ ap length read.2 ∙ units-length us
          ∙ ap₂ (λ (n s : ℕ). boundary n s) read.1.all (ap length (sym came));
    }

-- ---- every lawful frame is accepted

-- the line of units, after a level
abbrev pub line_of : ℕ → List Part → List ℕ
line_of level us = octets ((length (units_row us) + 7) / 8) (levels (odd level) (units_row us))

pub lawful-accepted : (channels level : ℕ) (us : List Part) → counted channels ≡ true → level ≤ 1 → Lawful channels us
    → frame_read channels level (length (units_row us)) (line_of level us) channels 255 ≡ accepted (with_units us at_start)
lawful-accepted channels level us counts digital l =
    let r : Row = units_row us in
    let b : ℕ = length r in
    let n : ℕ = (b + 7) / 8 in
    let line : List ℕ = line_of level us in
    let length-line : length line ≡ n = length-pack big 8 n (levels (odd level) r) in
    let most : b ≤ 5110 = omega (arith, units-length us, l.all, l.few, counted-le channels counts) in
    let spare : window (symbols line) b (length line * 8 - b) ≡ 0 = line-spare level r n (omega arith) (length line * 8 - b) (omega arith) in
    demands-met channels level b line channels 255
    (counts & le-leb level 1 digital & le-leb b 5110 most & eq-eqb (length line) n length-line & eq-eqb channels channels refl & eq-eqb 255 255 refl
    & eq-eqb (window (symbols line) b (length line * 8 - b)) 0 spare & tt)
    ∙ ap (λ (x : Row). row_read x channels) (line-carries level r n (omega arith)) ∙ lawful-read channels us l
