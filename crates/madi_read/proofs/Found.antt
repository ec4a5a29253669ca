-- What holds of a value that may be found. Assumes nothing.
use mathlib.Core.Path.{◌≡◌, refl}
use Prim.Native.Nat.{ℕ}
use Rattle.std.specs.Prelude.{IfSome, Some, None, Option}

pub if-some : (r : Option ℕ) (P : ℕ → Type 0) → ((v : ℕ) → r ≡ Some v → P v) → IfSome r P
if-some (Some v) P f = f v refl
if-some None P f = tt
