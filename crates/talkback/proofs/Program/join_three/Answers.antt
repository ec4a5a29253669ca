-- `talkback::Program::join_three` meets its contract, frame by frame. Assumes nothing.
use mathlib.Core.Path.{◌≡◌, ap, ap₂, ◌∙◌}
use mathlib.Core.List.{List}
use lib.IntN.{ℤ}
use Prim.Native.Nat.{ℕ, ◌+◌, ◌*◌, ◌/◌, ◌%◌, ◌^◌}
use native.Mathlib.Omega.{arith}
use Rattle.talkback.specs.Inner.{frame_set, three_set}
use Rattle.talkback.proofs.Program.join_three.Goals as goal

-- four bits of both, side by side
halves : (x r : ℕ) → r ≡ x % 2 ^ 4 + x / 2 ^ 32 % 2 ^ 4 * 2 ^ 32 → (r % 2 ^ 32 ≡ x % 2 ^ 4) × (r / 2 ^ 32 ≡ x / 2 ^ 32 % 2 ^ 4)
halves x r e = (omega arith, omega arith)

frame_is : (program samples : List ℤ) (i x r a b : ℕ) → r ≡ x % 2 ^ 4 + x / 2 ^ 32 % 2 ^ 4 * 2 ^ 32 → x % 2 ^ 4 ≡ a → x / 2 ^ 32 % 2 ^ 4 ≡ b
    → frame_set program (r % 2 ^ 32) (r / 2 ^ 32) i samples ≡ frame_set program a b i samples
frame_is program samples i x r a b e ea eb =
    let h = halves x r e in
    ap₂ (λ (m n : ℕ). frame_set program m n i samples) (h.0 ∙ ea) (h.1 ∙ eb)

pub returns : goal.returns
unfolding three_set
returns c =
    let s = c.args in
    let v = s.voices in
    let p = s.self.samples.now in
    c.join_frame-3.ensures
    ∙ frame_is p _ (s.i + 4) (v / 256) c.low_fours-3.result (v % 2 ^ 32 / 2 ^ 8 % 2 ^ 4) (v / 2 ^ 32 / 2 ^ 8 % 2 ^ 4)
    c.low_fours-3.ensures (omega arith) (omega arith)
    ∙ ap (frame_set p (v % 2 ^ 32 / 2 ^ 8 % 2 ^ 4) (v / 2 ^ 32 / 2 ^ 8 % 2 ^ 4) (s.i + 4))
    (c.join_frame-2.ensures
    ∙ frame_is p _ (s.i + 2) (v / 16) c.low_fours-2.result (v % 2 ^ 32 / 2 ^ 4 % 2 ^ 4) (v / 2 ^ 32 / 2 ^ 4 % 2 ^ 4)
    c.low_fours-2.ensures (omega arith) (omega arith)
    ∙ ap (frame_set p (v % 2 ^ 32 / 2 ^ 4 % 2 ^ 4) (v / 2 ^ 32 / 2 ^ 4 % 2 ^ 4) (s.i + 2))
    (c.join_frame.ensures
    ∙ frame_is p _ s.i v c.low_fours.result (v % 2 ^ 32 % 2 ^ 4) (v / 2 ^ 32 % 2 ^ 4) c.low_fours.ensures (omega arith) (omega arith)))
