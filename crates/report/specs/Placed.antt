-- A text at the end of a buffer. Assumes nothing.
use Rattle.std.specs.Prelude.{ℕ, ◌-◌, List, ◌++◌, length, take}

-- where a text starts that stands at the end of a buffer of so many octets
unfoldable pub start_in : ℕ → List ℕ → ℕ
start_in size text = size - length text

-- that of a report's line, in a buffer of 128
abbrev pub start_of : List ℕ → ℕ
start_of text = start_in 128 text

-- the buffer then, whose octets before the text are as they were
unfoldable pub with_text : List ℕ → List ℕ → List ℕ
with_text text old = take (start_in (length old) text) old ++ text
