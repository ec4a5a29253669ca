-- `replay::replay` meets its contract. Assumes nothing.
use mathlib.Core.Path.{refl, sym, ap, ◌∙◌}
use Rattle.replay.specs.Inner.{full}
use Rattle.replay.proofs.Answers.{wrong_size, wrong-sheet, no_room, has_room, not-full, shows}
use Rattle.replay.proofs.replay.Goals as goal

pub returns-then-sheet-ne-FIGURES : goal.returns-then-sheet-ne-FIGURES
returns-then-sheet-ne-FIGURES c =
    let s = c.args in
    let both = shows s.octets.now s.sheet.now (wrong_size s.octets.now s.sheet.now refl c.if-sheet-ne-FIGURES.true) in
    record { value = c.refused.ensures ∙ both.0; sheet_after = both.1 }

pub returns-then-not-sheet_sound : goal.returns-then-not-sheet_sound
returns-then-not-sheet_sound c =
    let s = c.args in
    let both = shows s.octets.now s.sheet.now
    (wrong-sheet s.octets.now s.sheet.now c.if-sheet-ne-FIGURES.false refl (sym (rw c.copy_from_slice.ensures.after at c.sheet_sound.ensures) ∙ c.if-not-sheet_sound.true)) in
    record { value = c.refused-then-not-sheet_sound.ensures ∙ both.0; sheet_after = both.1 }

pub returns-in-Full : goal.returns-in-Full
returns-in-Full c =
    let s = c.args in
    let both = shows s.octets.now s.sheet.now
    (no_room s.octets.now s.sheet.now c.if-sheet-ne-FIGURES.false (sym (rw c.copy_from_slice.ensures.after at c.sheet_sound.ensures) ∙ c.if-not-sheet_sound.false)
    (rw c.copy_from_slice.ensures.after at c.run-ran.ensures.taken_value.0) (rw c.copy_from_slice.ensures.after at c.run-ran.ensures.taken_value.1)
    (rw c.copy_from_slice.ensures.after at c.run-ran.ensures.figures_after) (ap full c.in-Full.is)) in
    record { value = both.0; sheet_after = both.1 }

pub returns : goal.returns
returns c =
    let s = c.args in
    let both = shows s.octets.now s.sheet.now
    (has_room s.octets.now s.sheet.now c.if-sheet-ne-FIGURES.false (sym (rw c.copy_from_slice.ensures.after at c.sheet_sound.ensures) ∙ c.if-not-sheet_sound.false)
    (rw c.copy_from_slice.ensures.after at c.run-ran.ensures.taken_value.0) (rw c.copy_from_slice.ensures.after at c.run-ran.ensures.taken_value.1)
    (rw c.copy_from_slice.ensures.after at c.run-ran.ensures.figures_after) (not-full _ c.in_default.not-Full)
    c.copy_from_slice-2.ensures.after c.stop_of.ensures) in
    record { value = both.0; sheet_after = both.1 }
