-- What the reader's acceptance says of its arguments, and what is accepted. Assumes nothing.
use mathlib.Core.Path.{◌≡◌}
use mathlib.Core.Bool.{true}
use mathlib.Core.List.{List}
use Prim.Native.Nat.{ℕ, ◌+◌, ◌*◌, ◌-◌, ◌/◌, ◌≤◌}
use borrow.Author.Tests.{leb-true, eqb-true}
use lib.ListN.{length}
use Rattle.bits.specs.Window.{window}
use Rattle.bits.specs.Pack.{symbols}
use Rattle.answer.specs.Answer.{Answer.accepted}
use Rattle.answer.specs.Demand.{AllMet}
use Rattle.answer.proofs.Chains.{passed, passing}
use Rattle.madi_code.specs.Frame.{counted}
use Rattle.madi_code.proofs.FrameLaws.{counted-le}
use Rattle.madi_read.specs.Reader.{carried, Frame, row_read, read_demands, frame_read}

pub record Accepted (channels level bits : ℕ) (line : List ℕ) (room places : ℕ) (f : Frame) : Type 0 where
  pub counts : counted channels ≡ true
  pub at_most : channels ≤ 64
  pub digital : level ≤ 1
  pub short : bits ≤ 5110
  pub long : length line ≡ (bits + 7) / 8
  pub exact : room ≡ channels
  pub listed : places ≡ 255
  pub spare : window (symbols line) bits (length line * 8 - bits) ≡ 0
  pub read : row_read (carried level bits line) channels ≡ accepted f

module _ (channels level bits : ℕ) (line : List ℕ) (room places : ℕ) where
  pub accepting : (f : Frame) → frame_read channels level bits line room places ≡ accepted f → Accepted channels level bits line room places f
  unfolding frame_read
  accepting f e =
      let p = passed (row_read (carried level bits line) channels) (read_demands channels level bits line room places) f e in
      let m = p.0 in
      record {
        counts = m.0;
        at_most = counted-le channels m.0;
        digital = leb-true level 1 m.1.0;
        short = leb-true bits 5110 m.1.1.0;
        long = eqb-true (length line) ((bits + 7) / 8) m.1.1.1.0;
        exact = eqb-true room channels m.1.1.1.1.0;
        listed = eqb-true places 255 m.1.1.1.1.1.0;
        spare = eqb-true (window (symbols line) bits (length line * 8 - bits)) 0 m.1.1.1.1.1.1.0;
        read = p.1;
      }

  -- where the demands are met, the answer is that of the bits
  pub demands-met : AllMet (read_demands channels level bits line room places) → frame_read channels level bits line room places ≡ row_read (carried level bits line) channels
  unfolding frame_read
  demands-met m = passing (row_read (carried level bits line) channels) (read_demands channels level bits line room places) m
