-- An ancillary packet of any number of words from word 3 on: the ADF before them, CS after them. Assumes nothing.
use Rattle.std.specs.Prelude.{ℕ, suc, ◌+◌, ◌%◌, ◌^◌, Bool, List, [], ◌∷◌, ◌++◌, eqb, length, get_or, take, drop}
use Rattle.answer.specs.Demand.{Demand, Demand.asks, Demand.finds_none}
use Rattle.anc.specs.declared.B8.{B8}
use Rattle.anc.specs.Word.{width_by, word_by, check_word, wide_at, wrong_at}
use Rattle.anc.specs.Head.{head_demands}

-- the words of values from word k on, each by the rule of its place
abbrev pub words_by : (ℕ → B8) → ℕ → List ℕ → List ℕ
words_by rule k [] = []
words_by rule k (n ∷ ns) = word_by (rule k) n ∷ words_by rule (suc k) ns

-- and the values of words
abbrev pub values_by : (ℕ → B8) → ℕ → List ℕ → List ℕ
values_by rule k [] = []
values_by rule k (w ∷ ws) = w % 2 ^ width_by (rule k) ∷ values_by rule (suc k) ws

-- the ADF, the words, CS over them
abbrev pub enclosed : List ℕ → List ℕ
enclosed ws = 0x000 ∷ 0x3FF ∷ 0x3FF ∷ (ws ++ (check_word ws ∷ []))

-- the word after the n words from word 3 on is CS over them
abbrev pub sum_stands : ℕ → List ℕ → Bool
sum_stands n words = eqb (get_or words (3 + n) 0) (check_word (take n (drop 3 words)))

-- ten bits (14), the head (13), b8 and b9 of the n words from word 3 on (14), CS (16)
abbrev pub enclosed_demands : (ℕ → B8) → ℕ → List (ℕ × ℕ) → List ℕ → List Demand
enclosed_demands rule n head words =
    finds_none 14 (wide_at words) 0 (length words)
    ∷ (head_demands head words ++ (finds_none 14 (wrong_at rule words) 3 n ∷ asks 16 (3 + n) (sum_stands n words) ∷ []))
