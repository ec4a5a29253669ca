-- `aes3_write::write_subframe` meets its contract: its word, inverted after level 1. Assumes nothing.
use mathlib.Core.Path.{ap, ◌∙◌}
use Prim.Native.Nat.{ℕ}
use Prim.Native.Nat.{◌+◌, ◌*◌, ◌^◌}
use native.Mathlib.Omega.{arith}
use Rattle.bits.specs.Row.{odd, big_bits}
use Rattle.aes3_write.proofs.Writing.{word-octets}
use Rattle.bits.specs.Pack.{octets}
use Rattle.aes3_write.specs.Inner.{word_after}
use Rattle.aes3_write.proofs.write_subframe.Goals as goal

pub returns : goal.returns
unfolding word_after
returns c =
    c.copy_from_slice.ensures.after ∙ c.to_be_bytes.ensures ∙ word-octets c.after_level-symbols.result (omega arith)
    ∙ ap (λ (w : ℕ). octets 8 (big_bits 64 w)) (c.after_level-symbols.ensures ∙ ap (word_after (odd c.args.level)) (ap (λ (m : ℕ). m * 2 ^ 56 + c.args.w) c.from.ensures))
