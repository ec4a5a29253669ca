-- `status::WordLength::under` meets its contract, case by case. Assumes nothing.
use Rattle.std.proofs.Common.{rules}
use Rattle.status.specs.Meaning.{word_length_of}
use Rattle.status.proofs.WordLength.under.Goals as goal

pub returns-in-MainAudio : goal.returns-in-MainAudio
unfolding word_length_of
returns-in-MainAudio c = search rules

pub returns-in-NotDefined : goal.returns-in-NotDefined
unfolding word_length_of
returns-in-NotDefined c = search rules

pub returns-in-UserDefined : goal.returns-in-UserDefined
unfolding word_length_of
returns-in-UserDefined c = search rules
