-- `levels::add` meets its contract, demand by demand. Assumes nothing.
use mathlib.Core.Path.{◌≡◌, sym, ap, ap₂, ◌∙◌}
use mathlib.Core.Bool.{true, ◌&&◌}
use mathlib.Core.List.{List, [], ◌∷◌, ◌++◌}
use Prim.Native.Nat.{ℕ}
use native.Mathlib.Omega.{arith}
use borrow.Author.Tests.{eq-eqb, ne_eqb}
use lib.IntN.{ℤ, nat_abs}
use lib.ListN.{length}
use Rattle.std.specs.Prelude.{Some}
use Rattle.std.proofs.lemmas.Result.{err_from_is_err_and}
use Rattle.bits.proofs.Tests.{both_true}
use Rattle.answer.specs.declared.Refusal.TheVariants.{Length}
use Rattle.answer.specs.Demand.{Demand.finds_none, Met, ◌&◌}
use Rattle.answer.specs.Demand.Stops.{fails, later}
use Rattle.answer.proofs.Residues.{shows-refusal, shows-acceptance}
use Rattle.block.specs.Side.{side_length}
use Rattle.block.specs.Check.{outside}
use Rattle.levels.specs.Lines.{line_at, sheet_sound, sheet_joined}
use Rattle.levels.specs.Sheets.{Block, channel_samples, sheet_of}
use Rattle.levels.specs.Calls.{Fit, has_room, as_block, add_answer}
use Rattle.levels.specs.Inner.{channel_lines, sheet_lines, rooms, figures_of, levels_of}
use Rattle.levels.specs.declared.channel.Levels.{Levels}
use Rattle.levels.specs.declared.figures.Figures.{Figures}
use Rattle.levels.proofs.AtOnce.{one_of_two, all-passed, found-below, found-at}
use Rattle.levels.proofs.Blocks.{sheet-one-sound}
use Rattle.levels.proofs.Stretches.{head-sheet}
use Rattle.levels.proofs.Folds.{block-laid}
use Rattle.levels.proofs.Places.{length-joined}
use Rattle.levels.proofs.add.Goals as goal
use Rattle.levels.proofs.add.Goals.{In_ok-samples, In_ok-side, In_ok-old, After-levels_of-2, In_default}

-- the samples, and the side table
module _ (c : In_ok-samples) where
  samples-long : length c.args.samples.now ≡ 384
  samples-long = (rw c.in_ok-samples.ensures.ok_part at c.as_array.ensures.cases).long

  samples-are : c.in_ok-samples.samples.now ≡ c.args.samples.now
  samples-are = (rw c.in_ok-samples.ensures.ok_part at c.as_array.ensures.cases).same

module _ (c : In_ok-side) where
  side-long : length c.args.side.now ≡ side_length
  side-long = (rw c.in_ok-side.ensures.ok_part at c.as_array-2.ensures.cases).long

  side-is : c.in_ok-side.side.now ≡ c.args.side.now
  side-is = (rw c.in_ok-side.ensures.ok_part at c.as_array-2.ensures.cases).same

-- the sheet
module _ (c : In_ok-old) where
  old-is : sheet_lines c.in_ok-old.old ≡ c.args.sheet.now
  old-is = c.in_ok-old.ensures.1 ∙ c.in_ok-a.ensures.1

  old-sound : sheet_sound c.args.sheet.now ≡ true
  old-sound = ap sheet_sound (sym c.in_ok-a.ensures.1) ∙ c.in_ok-old.ensures.0

-- no sample is out of range
module _ (c : In_default) where
  none : Met (finds_none 3 (outside c.args.samples.now) 0 384)
  none =
      let s = samples-are (goal.at.In_default c).In_ok-samples in
      all-passed (outside c.args.samples.now) 384 (rw s at c.in_default.ensures)

  fit : Fit c.args.samples.now
  fit i h = none i (omega arith) (omega arith)

-- the block's sheet
laid : (c : After-levels_of-2) → channel_lines (Some c.levels_of.result) ++ channel_lines (Some c.levels_of-2.result)
    ≡ sheet_of (as_block c.args.samples.now c.args.side.now ∷ [])
laid c =
    let s = samples-are (goal.at.After-levels_of-2 c).In_ok-samples in
    let t = side-is (goal.at.After-levels_of-2 c).In_ok-side in
    let f : c.gather-a.result ≡ figures_of (channel_samples 0 c.args.samples.now) =
    c.gather-a.ensures ∙ ap (λ (x : List ℤ). figures_of (channel_samples 0 x)) s in
    let g : c.gather-b.result ≡ figures_of (channel_samples 1 c.args.samples.now) =
    c.gather-b.ensures ∙ ap (λ (x : List ℤ). figures_of (channel_samples 1 x)) s in
    let a : c.levels_of.result ≡ levels_of (figures_of (channel_samples 0 c.args.samples.now)) 0 c.args.side.now =
    c.levels_of.ensures ∙ ap₂ (λ (x : Figures) (y : List ℕ). levels_of x 0 y) f t in
    let b : c.levels_of-2.result ≡ levels_of (figures_of (channel_samples 1 c.args.samples.now)) 1 c.args.side.now =
    c.levels_of-2.ensures ∙ ap₂ (λ (x : Figures) (y : List ℕ). levels_of x 1 y) g t in
    ap₂ (λ (x y : Levels). channel_lines (Some x) ++ channel_lines (Some y)) a b ∙ block-laid c.args.samples.now c.args.side.now

-- room for a block's sheet is room for its samples
room : (s : List ℤ) (b : Block) → rooms s (sheet_of (b ∷ [])) ≡ (has_room s 0 192 && has_room s 10 192)
room s b =
    let e : nat_abs (line_at (sheet_of (b ∷ [])) 0) ≡ 192 = head-sheet (b ∷ []) 0 (omega arith) in
    let f : nat_abs (line_at (sheet_of (b ∷ [])) 10) ≡ 192 = head-sheet (b ∷ []) 10 (omega arith) in
    ap₂ (λ (m n : ℕ). has_room s 0 m && has_room s 10 n) e f

-- what was said of the room
rooms-are : (c : After-levels_of-2)
    → rooms (sheet_lines c.in_ok-old.old) (channel_lines (Some c.levels_of.result) ++ channel_lines (Some c.levels_of-2.result))
    ≡ (has_room c.args.sheet.now 0 192 && has_room c.args.sheet.now 10 192)
rooms-are c =
    ap₂ (λ (a b : List ℤ). rooms a b) (old-is (goal.at.After-levels_of-2 c).In_ok-old) (laid c)
    ∙ room c.args.sheet.now (as_block c.args.samples.now c.args.side.now)

pub returns-in_err-a : goal.returns-in_err-a
unfolding add_answer
returns-in_err-a c =
    let p = err_from_is_err_and c.from_residual.result c.from_residual.ensures.1 in
    let h = c.in_err-a.ensures in
    let both = shows-refusal _ _ _ _ (fails (ne_eqb _ 20 h.1)) in
    record { result_value = rw (p.1, p.2, h.0) both.0; sheet_after = both.1 }

pub returns-in_err-samples : goal.returns-in_err-samples
unfolding add_answer
returns-in_err-samples c =
    let p = err_from_is_err_and c.from_residual-in_err-samples.result c.from_residual-in_err-samples.ensures.1 in
    let h = rw c.in_err-samples.ensures.ok_part at c.in_err-samples.ensures.value in
    let e : c.in_err-samples.field-0.0 ≡ Length = cc in
    let n = rw c.in_err-samples.ensures.ok_part at c.as_array.ensures.cases in
    let both = shows-refusal _ _ _ _ (later (eq-eqb _ 20 c.in_ok-a.ensures.0) (fails (ne_eqb _ 384 n))) in
    record { result_value = rw (p.1, p.2, e) both.0; sheet_after = both.1 }

pub returns-in_err-side : goal.returns-in_err-side
unfolding add_answer
returns-in_err-side c =
    let p = err_from_is_err_and c.from_residual-in_err-side.result c.from_residual-in_err-side.ensures.1 in
    let h = rw c.in_err-side.ensures.ok_part at c.in_err-side.ensures.value in
    let e : c.in_err-side.field-0.0 ≡ Length = cc in
    let n = rw c.in_err-side.ensures.ok_part at c.as_array-2.ensures.cases in
    let q = (goal.at.returns-in_err-side c).In_ok-samples in
    let both = shows-refusal _ _ _ _
    (later (eq-eqb _ 20 c.in_ok-a.ensures.0) (later (eq-eqb _ 384 (samples-long q)) (fails (ne_eqb _ side_length n)))) in
    record { result_value = rw (p.1, p.2, e) both.0; sheet_after = both.1 }

pub returns-in_err-old : goal.returns-in_err-old
unfolding add_answer
returns-in_err-old c =
    let p = err_from_is_err_and c.from_residual-in_err-old.result c.from_residual-in_err-old.ensures.1 in
    let h = c.in_err-old.ensures in
    let q = (goal.at.returns-in_err-old c).In_ok-samples in
    let r = (goal.at.returns-in_err-old c).In_ok-side in
    let both = shows-refusal _ _ _ _
    (later (eq-eqb _ 20 c.in_ok-a.ensures.0) (later (eq-eqb _ 384 (samples-long q)) (later (eq-eqb _ side_length (side-long r))
    (fails (ap sheet_sound (sym c.in_ok-a.ensures.1) ∙ h.1))))) in
    record { result_value = rw (p.1, p.2, h.0) both.0; sheet_after = both.1 }

pub overflow_cast-place : goal.overflow_cast-place
overflow_cast-place c = record { fits = omega (arith, found-below (outside c.in_ok-samples.samples.now) 384 c.in-Some.i c.in-Some.ensures) }

pub returns-in-Some : goal.returns-in-Some
unfolding add_answer
returns-in-Some c =
    let q = (goal.at.returns-in-Some c).In_ok-samples in
    let r = (goal.at.returns-in-Some c).In_ok-side in
    let o = (goal.at.returns-in-Some c).In_ok-old in
    let e = rw (samples-are q) at c.in-Some.ensures in
    let both = shows-refusal _ _ _ _
    (later (eq-eqb _ 20 c.in_ok-a.ensures.0) (later (eq-eqb _ 384 (samples-long q)) (later (eq-eqb _ side_length (side-long r))
    (later (old-sound o) (found-at (outside c.args.samples.now) 384 c.in-Some.i e))))) in
    record { result_value = both.0; sheet_after = both.1 }

pub join-requires : goal.join-requires
join-requires c =
    let b = as_block c.args.samples.now c.args.side.now in
    let n = (goal.at.join-requires c).In_default in
    (ap sheet_sound c.in_ok-old.ensures.1 ∙ c.in_ok-old.ensures.0, ap sheet_sound (laid (goal.at.join-requires c).After-levels_of-2) ∙ sheet-one-sound b (fit n))

pub returns-in_err-joined : goal.returns-in_err-joined
unfolding add_answer
returns-in_err-joined c =
    let p = err_from_is_err_and c.from_residual-in_err-joined.result c.from_residual-in_err-joined.ensures.1 in
    let h = c.in_err-joined.ensures in
    let q = (goal.at.returns-in_err-joined c).In_ok-samples in
    let r = (goal.at.returns-in_err-joined c).In_ok-side in
    let o = (goal.at.returns-in_err-joined c).In_ok-old in
    let n = (goal.at.returns-in_err-joined c).In_default in
    let l = (goal.at.returns-in_err-joined c).After-levels_of-2 in
    let both = shows-refusal _ _ _ _
    (later (eq-eqb _ 20 c.in_ok-a.ensures.0) (later (eq-eqb _ 384 (samples-long q)) (later (eq-eqb _ side_length (side-long r))
    (later (old-sound o) (later (none n) (one_of_two _ _ (sym (rooms-are l) ∙ h.1))))))) in
    record { result_value = rw (p.1, p.2, h.0) both.0; sheet_after = both.1 }

pub returns : goal.returns
unfolding add_answer
returns c =
    let q = (goal.at.returns c).In_ok-samples in
    let r = (goal.at.returns c).In_ok-side in
    let o = (goal.at.returns c).In_ok-old in
    let n = (goal.at.returns c).In_default in
    let l = (goal.at.returns c).After-levels_of-2 in
    let h = c.in_ok-joined.ensures in
    let m = both_true _ _ (sym (rooms-are l) ∙ h.0) in
    let both = shows-acceptance _ _ _ _ _
    (eq-eqb _ 20 c.in_ok-a.ensures.0 & eq-eqb _ 384 (samples-long q) & eq-eqb _ side_length (side-long r) & old-sound o & none n & m.0 & m.1 & tt)
    (length-joined c.args.sheet.now (sheet_of (as_block c.args.samples.now c.args.side.now ∷ [])) ∙ sym c.in_ok-a.ensures.0)
    (c.write.ensures ∙ h.1 ∙ ap₂ (λ (a b : List ℤ). sheet_joined a b) (old-is o) (laid l)) in
    record { result_value = both.0; sheet_after = both.1 }
