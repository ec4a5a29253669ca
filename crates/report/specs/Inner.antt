-- A text put before a place of a buffer, as the code makes a line from its end. Assumes nothing.
use Rattle.std.specs.Prelude.{◌≡◌, ℕ, ◌+◌, List, ◌++◌, length, take, drop, get_or}
use Rattle.report.specs.Text.{single_text}
use Rattle.report.specs.Night.{breaks_word, last_text}

-- a text was put into a buffer before `end`, from `from` on, and nothing else was changed
pub record Put (old : List ℕ) (end : ℕ) (text : List ℕ) (from : ℕ) (new : List ℕ) : Type 0 where
  pub ends : from + length text ≡ end
  pub before : take from new ≡ take from old
  pub after : drop from new ≡ text ++ drop end old

-- the end of a group's line, from where its figures start
unfoldable pub tail_text : List ℕ → ℕ → List ℕ
tail_text figures at = last_text (get_or figures (at + 20) 0) (get_or figures (at + 21) 0) ++ single_text breaks_word (get_or figures (at + 22) 0)
