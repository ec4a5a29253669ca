-- The reader's result says an answer in one way only. Assumes nothing.
use mathlib.Core.Path.{◌≡◌}
use Rattle.std.specs.Prelude.{Result}
use Rattle.answer.specs.declared.Refusal.{Refusal}
use Rattle.answer.proofs.Said.{said-once}
use Rattle.hd_packet.specs.declared.Fields.{Fields}
use Rattle.hd_read.specs.Read.{packet_said}

pub packet-said-once : (a b : Result Fields Refusal) → packet_said a ≡ packet_said b → a ≡ b
packet-said-once = said-once
