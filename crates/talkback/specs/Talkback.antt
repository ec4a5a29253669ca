-- Talkback (BS.647-3, part 3, appendix A): a voice sample of 12 bits for every three frames of a channel, four bits a
-- frame in slots 4 to 7, the lowest four in frame 0. The program is then the 20 bits in slots 8 to 27. Subframe i
-- belongs to channel i % 2 and frame i / 2, and voice sample k to channel k % 2. Assumes nothing.
use Rattle.std.specs.Prelude.{ℕ, ◌+◌, ◌-◌, ◌*◌, ◌/◌, ◌%◌, ◌^◌, Bool, not, ◌||◌, List, [], ◌∷◌, ◌++◌, eqb, ℤ, pos, length, get_or}
use Rattle.bits.specs.Listed.{listed}
use Rattle.answer.specs.Answer.{Answer, Answer.accepted}
use Rattle.answer.specs.Demand.{Demand, Demand.asks, Demand.finds_none, provided}
use Rattle.subframe.specs.Signed.{in_range, code_of, signed_of}
use Rattle.status.specs.Meaning.{field}
use Rattle.block.specs.Side.{side_length}
use Rattle.block.specs.Check.{status_of, outside}

-- ---- a sample's 24 bits, and a voice sample's 12

-- those in slots 4 to 7, and those in slots 8 to 27
abbrev pub auxiliary : ℤ → ℕ
auxiliary z = code_of 24 z % 2 ^ 4

abbrev pub main : ℤ → ℕ
main z = code_of 24 z / 2 ^ 4

-- the sample that has both
abbrev pub sample_with : ℕ → ℕ → ℤ
sample_with main auxiliary = signed_of 24 (main * 2 ^ 4 + auxiliary)

-- four bits of a voice sample: part 0 is the lowest
abbrev pub part_of : ℤ → ℕ → ℕ
part_of v part = code_of 12 v / 2 ^ (4 * part) % 2 ^ 4

-- the voice sample of three parts
abbrev pub voice_with : (ℕ → ℕ) → ℤ
voice_with parts = signed_of 12 (parts 0 + parts 1 * 2 ^ 4 + parts 2 * 2 ^ 8)

-- ---- where they stand

-- the subframe that has a part of voice sample k: frame 3 (k / 2) has part 0, the two after it parts 1 and 2
abbrev pub subframe_with : ℕ → ℕ → ℕ
subframe_with k part = 2 * (3 * (k / 2) + part) + k % 2

-- the voice sample of which subframe i has a part, and which part
abbrev pub voice_in : ℕ → ℕ
voice_in i = 2 * (i / 2 / 3) + i % 2

abbrev pub part_in : ℕ → ℕ
part_in i = i / 2 % 3

-- ---- a whole block: 384 samples, 128 voice samples

unfoldable pub with_voice : List ℤ → List ℤ → List ℤ
with_voice program voice =
    listed 0 384 (λ i. sample_with (main (get_or program i (pos 0))) (part_of (get_or voice (voice_in i) (pos 0)) (part_in i)))

unfoldable pub program_of : List ℤ → List ℤ
program_of samples = listed 0 384 (λ i. sample_with (main (get_or samples i (pos 0))) 0)

unfoldable pub voice_of : List ℤ → List ℤ
voice_of samples = listed 0 128 (λ k. voice_with (λ part. auxiliary (get_or samples (subframe_with k part) (pos 0))))

-- ---- each refusal at one of its places

-- byte 2 bits 2, 1, 0 of the channel's status are not 0, 1, 0
unfoldable pub undeclared : List ℕ → ℕ → Bool
undeclared side channel = not (eqb (field 0 3 (get_or (status_of channel side) 2 0)) 0b010)

-- a program sample is out of range or has a busy low bit
unfoldable pub unfit : List ℤ → ℕ → Bool
unfit program i = outside program i || not (eqb (auxiliary (get_or program i (pos 0))) 0)

-- voice sample i, at place 384 + i, is outside -2,048 to 2,047
unfoldable pub voice_outside : List ℤ → ℕ → Bool
voice_outside voice place = not (in_range 12 (get_or voice (place - 384) (pos 0)))

-- ---- in their order

-- the lengths of program, voice, side table and samples (1), then the use that both channels declare (19)
abbrev pub use_demands : ℕ → ℕ → List ℕ → ℕ → List Demand
use_demands program voice side samples =
    asks 1 0 (eqb program 384)
    ∷ asks 1 0 (eqb voice 128)
    ∷ asks 1 0 (eqb (length side) side_length)
    ∷ asks 1 0 (eqb samples 384)
    ∷ finds_none 19 (undeclared side) 0 2
    ∷ []

abbrev pub voice_join_demands : List ℤ → List ℤ → List ℕ → ℕ → List Demand
voice_join_demands program voice side samples =
    use_demands (length program) (length voice) side samples
    ++ (finds_none 3 (unfit program) 0 384 ∷ finds_none 3 (voice_outside voice) 384 128 ∷ [])

abbrev pub separate_demands : List ℤ → List ℕ → ℕ → ℕ → List Demand
separate_demands samples side program voice =
    use_demands program voice side (length samples) ++ (finds_none 3 (outside samples) 0 384 ∷ [])

-- on acceptance the joined samples
unfoldable pub voice_join_answer : List ℤ → List ℤ → List ℕ → ℕ → Answer (List ℤ)
voice_join_answer program voice side samples = provided (voice_join_demands program voice side samples) (accepted (with_voice program voice))

-- on acceptance the samples, whose program and voice fill the buffers
unfoldable pub separate_answer : List ℤ → List ℕ → ℕ → ℕ → Answer (List ℤ)
separate_answer samples side program voice = provided (separate_demands samples side program voice) (accepted samples)
