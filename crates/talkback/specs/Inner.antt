-- What inner functions of the crate are held to. Assumes nothing.
use Rattle.std.specs.Prelude.{◌≡◌, ℕ, ◌+◌, ◌*◌, ◌/◌, ◌%◌, ◌^◌, ◌<◌, ◌≤◌, Bool, true, not, ◌&&◌, List, [], ◌∷◌, ltb, ℤ, pos, get_or, set}
use Rattle.std.specs.Int.Signed.{mag}
use Rattle.subframe.specs.Signed.{in_range}
use Rattle.answer.specs.Answer.{Answer, Answer.accepted}
use Rattle.answer.specs.Demand.{Demand.finds_none, provided}
use Rattle.talkback.specs.Talkback.{auxiliary, main, sample_with, undeclared}

-- a sample whose range ends at `half`, with less than `free` in slots 4 to 7
abbrev pub fitting : ℕ → ℕ → ℤ → Bool
fitting half free z = ltb (mag z) half && ltb (auxiliary z) free

-- sample i does not fit
unfoldable pub unfitting : ℕ → ℕ → List ℤ → ℕ → Bool
unfitting half free samples i = not (fitting half free (get_or samples i (pos 0)))

-- x is what is left in 32 bits of a sample moved up by half its range
abbrev pub Raises : ℕ → ℤ → ℕ → Type 0
Raises half z x = (x < 2 * half → mag z < half) × (mag z < half → x < 2 * half) × (mag z < half → auxiliary z ≡ x % 2 ^ 4)

-- none of the first n samples, raised, is above `all`, nor has more than `all` in slots 4 to 7
abbrev pub Unites : ℕ → List ℤ → ℕ → ℕ → Type 0
Unites half samples n all = (i : ℕ) → i < n → (x : ℕ) × Raises half (get_or samples i (pos 0)) x × (x ≤ all) × (x % 2 ^ 4 ≤ all % 2 ^ 4)

-- every sample is one of 24 bits, the lowest four 0
abbrev pub Programs : List ℤ → Type 0
Programs program = (i : ℕ) → i < 384 → (in_range 24 (get_or program i (pos 0)) ≡ true) × (auxiliary (get_or program i (pos 0)) ≡ 0)

-- each of n samples is one of w bits
abbrev pub AllIn : ℕ → ℕ → List ℤ → Type 0
AllIn w n samples = (i : ℕ) → i < n → in_range w (get_or samples i (pos 0)) ≡ true

-- the samples of A and B of a frame set, from subframe i on, to the program with these parts
unfoldable pub frame_set : List ℤ → ℕ → ℕ → ℕ → List ℤ → List ℤ
frame_set program a b i samples =
    set (set samples i (sample_with (main (get_or program i (pos 0))) a)) (i + 1) (sample_with (main (get_or program (i + 1) (pos 0))) b)

-- the same of the three frames from subframe i on that have the 12 bits a and b
unfoldable pub three_set : List ℤ → ℕ → ℕ → ℕ → List ℤ → List ℤ
three_set program a b i samples =
    frame_set program (a / 2 ^ 8 % 2 ^ 4) (b / 2 ^ 8 % 2 ^ 4) (i + 4)
    (frame_set program (a / 2 ^ 4 % 2 ^ 4) (b / 2 ^ 4 % 2 ^ 4) (i + 2) (frame_set program (a % 2 ^ 4) (b % 2 ^ 4) i samples))

-- the use that both channels declare (19), by itself
unfoldable pub declared_checked : List ℕ → Answer (Unit {0})
declared_checked side = provided (finds_none 19 (undeclared side) 0 2 ∷ []) (accepted tt)
