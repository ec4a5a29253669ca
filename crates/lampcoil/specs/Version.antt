-- The version of the library, as C is told it: one number that grows with it. Assumes nothing.
use Rattle.std.specs.Prelude.{ℕ, ◌+◌, ◌*◌, ◌^◌}

abbrev pub major : ℕ
major = 5

abbrev pub minor : ℕ
minor = 3

abbrev pub patch : ℕ
patch = 0

abbrev pub version_number : ℕ
version_number = major * 2 ^ 16 + minor * 2 ^ 8 + patch
