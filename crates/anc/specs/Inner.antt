-- What only the code needs: searches over words, and a pass over several at once. Assumes nothing.
use Rattle.std.specs.Prelude.{ℕ, ◌+◌, ◌%◌, ◌^◌, ◌≤◌, ◌<◌, Bool, true, ◌&&◌, List, [], ◌∷◌, eqb, length, Option, Some, None}
use Rattle.bits.specs.Pick.{pick, first}
use Rattle.answer.specs.Demand.{Demand, AllMet, Stops}
use Rattle.anc.specs.Word.{word_of, parities, wide_at, wrong_at}
use Rattle.anc.specs.Enclosed.{enclosed}

-- the word of its own b0 to b7, and each of some words
unfoldable pub coded : ℕ → Bool
coded w = eqb w (word_of (w % 2 ^ 8))

unfoldable pub all_coded : List ℕ → Bool
all_coded [] = true
all_coded (w ∷ ws) = coded w && all_coded ws

-- the first word of more than ten bits, and the first whose b8 or b9 is wrong by the parity
unfoldable pub first_wide : List ℕ → Option ℕ
first_wide ws = first (wide_at ws) 0 (length ws) Some None

unfoldable pub first_wrong : List ℕ → Option ℕ
first_wrong ws = first (wrong_at parities ws) 0 (length ws) Some None

-- of demands that each refuse with this number: r is the place of the first that is not met, or at least `none` where
-- all are
pub record FirstUnmet (ds : List Demand) (number none r : ℕ) : Type 0 where
  pub stops : r < none → Stops ds number r
  pub all-met : none ≤ r → AllMet ds

-- what laying out a packet of these words leaves: the packet, if there is just the room for it
unfoldable pub laid_out : List ℕ → List ℕ → List ℕ
laid_out ws old = pick (eqb (length old) (4 + length ws)) (enclosed ws) old
