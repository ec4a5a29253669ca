-- What the reader returns says an answer in one way only. Assumes nothing.
use mathlib.Core.Path.{◌≡◌}
use Rattle.std.specs.Prelude.{Result}
use Rattle.answer.specs.Said.{said}
use Rattle.answer.specs.declared.Refusal.{Refusal}
use Rattle.answer.proofs.Said.{said-once}
use Rattle.hd_control.specs.declared.Control.{Control}

pub control-said-once : (a b : Result Control Refusal) → said a ≡ said b → a ≡ b
control-said-once = said-once
