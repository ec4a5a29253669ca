-- Adding one by one is never refused for blocks that are fit, up to 2 ^ 32 samples a channel. Assumes nothing.
use mathlib.Core.Path.{◌≡◌, sym, ap, ◌∙◌}
use mathlib.Core.Bool.{true}
use mathlib.Core.List.{List, [], ◌∷◌, ◌++◌, append_assoc, append-nil}
use Prim.Native.Nat.{◌+◌, ◌*◌, ◌≤◌}
use native.Mathlib.Omega.{arith}
use borrow.Author.Tests.{eq-eqb, le-leb}
use lib.IntN.{nat_abs}
use lib.ListN.{length, length-append}
use Rattle.answer.specs.Answer.{Answer.accepted}
use Rattle.answer.specs.Demand.{◌&◌}
use Rattle.answer.proofs.Chains.{passing}
use Rattle.block.specs.Side.{side_length}
use Rattle.levels.specs.Lines.{line_at, sheet_sound, sheet_joined, empty_sheet}
use Rattle.levels.specs.Sheets.{Block, sheet_of}
use Rattle.levels.specs.Calls.{has_room, Fit, add_demands, add_answer, and_then, all_added}
use Rattle.levels.proofs.Kept.{empty-sound}
use Rattle.levels.proofs.Stretches.{sheet-join, sheet-none, head-sheet}
use Rattle.levels.proofs.Blocks.{adding-leaves}
use Rattle.levels.proofs.Places.{length-sheet}

-- a block of the stated lengths, no sample of which is out of range
pub record FitBlock (b : Block) : Type 0 where
  pub samples-long : length b.samples ≡ 384
  pub side-long : length b.side ≡ side_length
  pub fit : Fit b.samples

abbrev pub AllFit : List Block → Type 0
AllFit [] = Unit {0}
AllFit (b ∷ bs) = FitBlock b × AllFit bs

room-left : (us : List Block) → 192 * length us + 192 ≤ 4294967296
    → (has_room (sheet_of us) 0 192 ≡ true) × (has_room (sheet_of us) 10 192 ≡ true)
room-left us h = (
  le-leb (nat_abs (line_at (sheet_of us) 0) + 192) 4294967296 (omega (arith, head-sheet us 0 (omega arith))),
  le-leb (nat_abs (line_at (sheet_of us) 10) + 192) 4294967296 (omega (arith, head-sheet us 10 (omega arith))),
)

one_more : (us : List Block) (b : Block) → sheet_sound (sheet_of us) ≡ true → FitBlock b → 192 * length us + 192 ≤ 4294967296
    → add_answer (sheet_of us) b ≡ accepted (sheet_of (us ++ (b ∷ [])))
unfolding add_answer
one_more us b s f h =
    passing (accepted (sheet_joined (sheet_of us) (sheet_of (b ∷ [])))) (add_demands (sheet_of us) b)
    (eq-eqb _ 20 (length-sheet us) & eq-eqb _ 384 f.samples-long & eq-eqb _ side_length f.side-long & s & (λ i l m. f.fit i (omega arith))
    & (room-left us h).0 & (room-left us h).1 & tt)
    ∙ ap accepted (sym (sheet-join us (b ∷ [])))

all-added : (us vs : List Block) → sheet_sound (sheet_of us) ≡ true → AllFit vs → 192 * (length us + length vs) ≤ 4294967296
    → all_added (sheet_of us) vs ≡ accepted (sheet_of (us ++ vs))
unfolding all_added and_then
all-added us [] s f h = rw append-nil
all-added us (b ∷ vs) s f h =
    let e = one_more us b s f.0 (omega arith) in
    let n : length (us ++ (b ∷ [])) ≡ length us + 1 = length-append us (b ∷ []) in
    rw (e, ← append_assoc us (b ∷ []) vs)
    (all-added (us ++ (b ∷ [])) vs (adding-leaves (sheet_of us) b (sheet_of (us ++ (b ∷ []))) e).1 f.1 (omega arith))

pub all-accepted : (bs : List Block) → AllFit bs → 192 * length bs ≤ 4294967296 → all_added empty_sheet bs ≡ accepted (sheet_of bs)
all-accepted bs f h = rw (← sheet-none) (all-added [] bs (rw sheet-none empty-sound) f (omega arith))
