-- `hd_control::lay` meets its contract: word by word. Assumes nothing.
use mathlib.Core.Path.{◌≡◌}
use mathlib.Core.List.{List, [], ◌∷◌}
use Prim.Native.Nat.{ℕ}
use lib.ListN.{get_or}
use mir.Syntax.{w32}
use mir.Val.{SFits}
use mir.Facts.{to_z-of_z}
use Rattle.std.proofs.Common.{rules}
use Rattle.hd_control.specs.Control.{delay_number}
use Rattle.hd_control.specs.Inner.{words_of_delay}
use Rattle.hd_control.specs.declared.Control.{Control}
use Rattle.hd_control.proofs.ControlLaws.{words-laid}
use Rattle.hd_control.proofs.lay.Goals as goal

-- the three words of a list
abbrev three : List ℕ → List ℕ
three ws = get_or ws 0 0 ∷ get_or ws 1 0 ∷ get_or ws 2 0 ∷ []

pub returns : goal.returns
returns c =
    let f : Control = c.args.c in
    let fits12 : SFits w32 f.delay12 = search rules in
    let fits34 : SFits w32 f.delay34 = search rules in
    let a : three c.delay_words.result ≡ words_of_delay (delay_number f.valid12 f.delay12) =
    rw (rw (to_z-of_z fits12) at c.delay_words.ensures) in
    let b : three c.delay_words-2.result ≡ words_of_delay (delay_number f.valid34 f.delay34) =
    rw (rw (to_z-of_z fits34) at c.delay_words-2.ensures) in
    words-laid f c.requires (three c.delay_words.result) (three c.delay_words-2.result) _ _ _ c.nine-frame.ensures
    c.nine-rate.ensures c.word-active.ensures a b
