-- Eight lanes side by side in 30 octets: 24 of data, then 6 of check bits. Lane i is bit i of each, octet k its place k.
-- Assumes nothing.
use Rattle.std.specs.Prelude.{ℕ, zero, suc, ◌+◌, Bool, true, false, not, List, map, eqb}
use Rattle.bits.specs.Row.{digit, little}
use Rattle.bits.specs.Cross.{across, crossed}
use Rattle.answer.specs.Answer.{Answer}
use Rattle.codes.specs.Lane.{check_places, satisfies, repaired}

unfoldable pub lane_of : ℕ → List ℕ → ℕ
lane_of i os = little (across i os)

-- all eight
unfoldable pub lanes_of : List ℕ → List ℕ
lanes_of os = crossed 0 8 os

-- the six octets that hold the check places of each lane
unfoldable pub check_octets : List ℕ → List ℕ
check_octets ds = crossed 0 6 (map check_places (lanes_of ds))

-- lane i fails its code
unfoldable pub failing : List ℕ → ℕ → Bool
failing os i = not (satisfies (lane_of i os))

-- ---- repair, lane by lane

-- lane repair refuses lane i
abbrev pub refuses : Answer ℕ → Bool
refuses (Answer.accepted x) = false
refuses (Answer.refused n p) = true

unfoldable pub hopeless_at : List ℕ → ℕ → Bool
hopeless_at os i = refuses (repaired (lane_of i os))

-- the lane that lane repair gives; where it refuses, the lane that it was given
abbrev pub lane_in : Answer ℕ → ℕ → ℕ
lane_in (Answer.accepted x) lane = x
lane_in (Answer.refused n p) lane = lane

unfoldable pub mended_lane : ℕ → ℕ
mended_lane lane = lane_in (repaired lane) lane

-- the octets across these lanes
unfoldable pub mended_octets : List ℕ → List ℕ
mended_octets os = crossed 0 30 (map mended_lane (lanes_of os))

-- in how many of the first n lanes two packets differ
unfoldable pub lanes_apart : ℕ → List ℕ → List ℕ → ℕ
lanes_apart zero a b = 0
lanes_apart (suc n) a b = lanes_apart n a b + digit (not (eqb (lane_of n a) (lane_of n b)))
