-- The report's words as ASCII codes, numbers in decimal, and the line of a record. Assumes nothing.
use Rattle.std.specs.Prelude.{ℕ, zero, suc, ◌+◌, ◌/◌, ◌%◌, List, [], ◌∷◌, ◌++◌, eqb}
use Rattle.bits.specs.Pick.{pick}
use Rattle.answer.specs.Answer.{Answer, Answer.accepted, Answer.refused}
use Rattle.records.specs.declared.Content.{Content}
use Rattle.records.specs.declared.Content.TheVariants.{Aes3, Hd, Madi, Ctl}

-- ---- words

-- "carrier report 1\n"
abbrev pub heading : List ℕ
heading = 99 ∷ 97 ∷ 114 ∷ 114 ∷ 105 ∷ 101 ∷ 114 ∷ 32 ∷ 114 ∷ 101 ∷ 112 ∷ 111 ∷ 114 ∷ 116 ∷ 32 ∷ 49 ∷ 10 ∷ []

-- " aes3 ok "
abbrev pub aes3_ok : List ℕ
aes3_ok = 32 ∷ 97 ∷ 101 ∷ 115 ∷ 51 ∷ 32 ∷ 111 ∷ 107 ∷ 32 ∷ []

-- " hd ok "
abbrev pub hd_ok : List ℕ
hd_ok = 32 ∷ 104 ∷ 100 ∷ 32 ∷ 111 ∷ 107 ∷ 32 ∷ []

-- " madi ok "
abbrev pub madi_ok : List ℕ
madi_ok = 32 ∷ 109 ∷ 97 ∷ 100 ∷ 105 ∷ 32 ∷ 111 ∷ 107 ∷ 32 ∷ []

-- " ctl ok "
abbrev pub ctl_ok : List ℕ
ctl_ok = 32 ∷ 99 ∷ 116 ∷ 108 ∷ 32 ∷ 111 ∷ 107 ∷ 32 ∷ []

-- " refused "
abbrev pub refused_word : List ℕ
refused_word = 32 ∷ 114 ∷ 101 ∷ 102 ∷ 117 ∷ 115 ∷ 101 ∷ 100 ∷ 32 ∷ []

-- " "
abbrev pub blank : List ℕ
blank = 32 ∷ []

-- "\n"
abbrev pub line_end : List ℕ
line_end = 10 ∷ []

-- "cut\n"
abbrev pub cut_line : List ℕ
cut_line = 99 ∷ 117 ∷ 116 ∷ 10 ∷ []

-- "records "
abbrev pub records_word : List ℕ
records_word = 114 ∷ 101 ∷ 99 ∷ 111 ∷ 114 ∷ 100 ∷ 115 ∷ 32 ∷ []

-- ---- numbers

-- the decimal digits of n, highest first and at most so many
unfoldable pub digits : ℕ → ℕ → List ℕ
digits zero n = []
digits (suc most) n = pick (eqb (n / 10) 0) [] (digits most (n / 10)) ++ ((48 + n % 10) ∷ [])

-- a number below 2 ^ 64 has twenty at most
unfoldable pub decimal : ℕ → List ℕ
decimal n = digits 20 n

-- ---- lines

-- a word and one number
unfoldable pub single_text : List ℕ → ℕ → List ℕ
single_text word a = word ++ decimal a ++ line_end

-- a word and two numbers
unfoldable pub pair_text : List ℕ → ℕ → ℕ → List ℕ
pair_text word a b = word ++ decimal a ++ blank ++ decimal b ++ line_end

-- what is answered of a record
unfoldable pub answer_text : Answer Content → List ℕ
answer_text (accepted (Aes3 a b)) = pair_text aes3_ok a b
answer_text (accepted (Hd group dbn)) = pair_text hd_ok group dbn
answer_text (accepted (Madi active commands)) = pair_text madi_ok active commands
answer_text (accepted (Ctl group)) = single_text ctl_ok group
answer_text (refused number place) = pair_text refused_word number place

-- the line of record n
unfoldable pub line_of : ℕ → Answer Content → List ℕ
line_of n answer = decimal n ++ answer_text answer

-- the line that ends the report
unfoldable pub count_line : ℕ → List ℕ
count_line n = single_text records_word n
