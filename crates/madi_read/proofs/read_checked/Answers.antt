-- `madi_read::read_checked` meets its contract: the walk, then the copies. Assumes nothing.
use mathlib.Core.Path.{◌≡◌, sym, ap, ◌∙◌, subst}
use Prim.Native.Nat.{ℕ}
use lib.ListN.{length, take}
use Rattle.answer.specs.Answer.{Answer, after}
use Rattle.answer.proofs.Residues.{whole}
use Rattle.madi_read.specs.Reader.{Frame, row_read, words_of, commands_of}
use Rattle.madi_read.specs.Inner.{row_of, Held}
use Rattle.madi_read.proofs.Said.{frame-read}
use Rattle.madi_read.proofs.read_checked.Goals as goal

pub returns : goal.returns
returns c =
    let a = c.args in
    let source = a.source.now in
    let got = c.walk.new.so_far in
    let says = c.in_ok-counts.ensures in
    let t = frame-read (row_read (row_of source) source.channels) c.in_ok-counts.counts.active c.in_ok-counts.counts.commands says.result_value in
    let both = subst (λ (r : Answer Frame). Held source.channels r got.words got.codes) t.1 says.held in
    let words = c.copy_from_slice in
    let commands = c.copy_from_slice-2 in
    let words-are : words.new.self ≡ words_of t.0 = words.ensures.after ∙ ap (λ (k : ℕ). take k got.words) c.requires.0 ∙ both.0 in
    let commands-are : commands.new.self ≡ commands_of t.0 = commands.ensures.after ∙ both.1 in
    record {
      result_value = says.result_value;
      words_after = words-are ∙ sym (whole words_of t.0 a.words.now (sym (ap length words-are) ∙ words.ensures.len))
          ∙ sym (ap (λ (r : Answer Frame). after words_of r a.words.now) t.1);
      commands_after = commands-are ∙ sym (whole commands_of t.0 a.commands.now (sym (ap length commands-are) ∙ commands.ensures.len))
          ∙ sym (ap (λ (r : Answer Frame). after commands_of r a.commands.now) t.1);
    }
