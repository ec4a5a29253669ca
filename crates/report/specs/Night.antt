-- The text of a replay: its words as ASCII codes, the line of a group, the lines of refused packets, and the whole.
-- Assumes nothing.
use Rattle.std.specs.Prelude.{ℕ, zero, suc, List, [], ◌∷◌, ◌++◌, eqb, get_or}
use Rattle.bits.specs.Pick.{pick}
use Rattle.replay.specs.Sheet.{read_at, lanes_at, refused_at, seen_at, last_at, breaks_at, unlisted_at}
use Rattle.replay.specs.declared.Next.{Next}
use Rattle.replay.specs.declared.Next.TheVariants.{Going, End, Long, Cut, Full}
use Rattle.report.specs.Text.{cut_line, refused_word, decimal, single_text, pair_text}

-- ---- words

-- "packet replay 1\n"
abbrev pub night_heading : List ℕ
night_heading = 112 ∷ 97 ∷ 99 ∷ 107 ∷ 101 ∷ 116 ∷ 32 ∷ 114 ∷ 101 ∷ 112 ∷ 108 ∷ 97 ∷ 121 ∷ 32 ∷ 49 ∷ 10 ∷ []

-- "group "
abbrev pub group_word : List ℕ
group_word = 103 ∷ 114 ∷ 111 ∷ 117 ∷ 112 ∷ 32 ∷ []

-- "unlisted"
abbrev pub unlisted_word : List ℕ
unlisted_word = 117 ∷ 110 ∷ 108 ∷ 105 ∷ 115 ∷ 116 ∷ 101 ∷ 100 ∷ []

-- " read "
abbrev pub read_word : List ℕ
read_word = 32 ∷ 114 ∷ 101 ∷ 97 ∷ 100 ∷ 32 ∷ []

-- " lanes "
abbrev pub lanes_word : List ℕ
lanes_word = 32 ∷ 108 ∷ 97 ∷ 110 ∷ 101 ∷ 115 ∷ 32 ∷ []

-- " last "
abbrev pub last_word : List ℕ
last_word = 32 ∷ 108 ∷ 97 ∷ 115 ∷ 116 ∷ 32 ∷ []

-- " last none"
abbrev pub none_word : List ℕ
none_word = 32 ∷ 108 ∷ 97 ∷ 115 ∷ 116 ∷ 32 ∷ 110 ∷ 111 ∷ 110 ∷ 101 ∷ []

-- " breaks "
abbrev pub breaks_word : List ℕ
breaks_word = 32 ∷ 98 ∷ 114 ∷ 101 ∷ 97 ∷ 107 ∷ 115 ∷ 32 ∷ []

-- "end\n"
abbrev pub end_word : List ℕ
end_word = 101 ∷ 110 ∷ 100 ∷ 10 ∷ []

-- "long\n"
abbrev pub long_word : List ℕ
long_word = 108 ∷ 111 ∷ 110 ∷ 103 ∷ 10 ∷ []

-- "full\n"
abbrev pub full_word : List ℕ
full_word = 102 ∷ 117 ∷ 108 ∷ 108 ∷ 10 ∷ []

-- ---- lines

-- a word and a number
unfoldable pub field_text : List ℕ → ℕ → List ℕ
field_text word n = word ++ decimal n

-- whose line it is: a group's, or, for 0, that of packets without one
unfoldable pub name_of : ℕ → List ℕ
name_of group = pick (eqb group 0) unlisted_word (field_text group_word group)

-- the last DBN, or none where no data packet was read
unfoldable pub last_text : (seen last : ℕ) → List ℕ
last_text seen last = pick (eqb seen 0) none_word (field_text last_word last)

-- "group g read R lanes L last D breaks B\n"
unfoldable pub group_line : List ℕ → ℕ → List ℕ
group_line figures group =
    name_of group ++ (field_text read_word (get_or figures (read_at group) 0) ++ (field_text lanes_word (get_or figures (lanes_at group) 0)
    ++ (last_text (get_or figures (seen_at group) 0) (get_or figures (last_at group) 0) ++ single_text breaks_word (get_or figures (breaks_at group) 0))))

-- how many packets were refused by a number: of a group, or, for 0, of those without one
unfoldable pub refused_count : List ℕ → ℕ → ℕ → ℕ
refused_count figures group n = pick (eqb group 0) (get_or figures (unlisted_at n) 0) (get_or figures (refused_at group n) 0)

-- "group g refused n C\n", where there are some
unfoldable pub refused_line : List ℕ → ℕ → ℕ → List ℕ
refused_line figures group n =
    pick (eqb (refused_count figures group n) 0) [] (name_of group ++ pair_text refused_word n (refused_count figures group n))

-- the lines of so many numbers from n on
unfoldable pub refused_from : List ℕ → ℕ → ℕ → ℕ → List ℕ
refused_from figures group zero n = []
refused_from figures group (suc many) n = refused_line figures group n ++ refused_from figures group many (suc n)

-- the lines of all numbers, 0 to 17
unfoldable pub refused_lines : List ℕ → ℕ → List ℕ
refused_lines figures group = refused_from figures group 18 0

unfoldable pub group_lines : List ℕ → ℕ → List ℕ
group_lines figures group = group_line figures group ++ refused_lines figures group

-- how it ended; one that could still go on has come to the end of its input
unfoldable pub end_text : Next → List ℕ
end_text Going = end_word
end_text End = end_word
end_text Long = long_word
end_text Cut = cut_line
end_text Full = full_word

-- ---- the whole

-- what is told when the replay has ended
unfoldable pub figures_text : List ℕ → Next → List ℕ
figures_text figures next =
    group_lines figures 1 ++ (group_lines figures 2 ++ (group_lines figures 3 ++ (group_lines figures 4 ++ (refused_lines figures 0 ++ end_text next))))

unfoldable pub replay_text : List ℕ → Next → List ℕ
replay_text figures next = night_heading ++ figures_text figures next
