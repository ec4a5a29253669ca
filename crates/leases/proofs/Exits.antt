-- The exit of `o.ok_or(r)?`: there was nothing, and the refusal is r. Assumes nothing.
use mathlib.Core.Path.{◌≡◌, refl}
use Rattle.std.specs.Prelude.{Option, Some, None, Err}
use Rattle.std.specs.Option.{ok_or}
use Rattle.answer.specs.declared.Refusal.{Refusal}

pub nothing_there : {A : Type 0} (o : Option A) (r q : Refusal) → Err q ≡ ok_or o r → o ≡ None
nothing_there None r q e = refl
nothing_there (Some x) r q e = absurd (cc)

pub refused_so : {A : Type 0} (o : Option A) (r q : Refusal) → Err q ≡ ok_or o r → q ≡ r
refused_so None r q e = cc
refused_so (Some x) r q e = absurd (cc)
