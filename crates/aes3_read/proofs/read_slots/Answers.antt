-- `aes3_read::read_slots` meets its contract: seven octets, four bits each. Assumes nothing.
use mathlib.Core.Path.{◌≡◌, ap, ◌∙◌}
use mathlib.Core.List.{List}
use Prim.Native.Nat.{ℕ}
use lib.ListN.{get_or}
use Rattle.line.proofs.BiphaseOctets.{nibble}
use Rattle.std.specs.Int.{w64, to_be_bytes}
use Rattle.aes3_read.proofs.Reading.{slots-held-in, held_small}
use Rattle.aes3_read.proofs.read_slots.Goals as goal

pub returns : goal.returns
returns c =
    let w = c.args.w in
    let octet : (k : ℕ) → nibble (get_or c.to_be_bytes.result k 0) ≡ nibble (get_or (to_be_bytes w64 w) k 0) =
    λ k. ap (λ (os : List ℕ). nibble (get_or os k 0)) c.to_be_bytes.ensures in
    let e = slots-held-in w c.four.result c.four-2.result c.four-3.result c.four-4.result c.four-5.result c.four-6.result c.four-7.result
    (c.four.ensures.0 ∙ octet 1) (c.four-2.ensures.0 ∙ octet 2) (c.four-3.ensures.0 ∙ octet 3) (c.four-4.ensures.0 ∙ octet 4)
    (c.four-5.ensures.0 ∙ octet 5) (c.four-6.ensures.0 ∙ octet 6) (c.four-7.ensures.0 ∙ octet 7) in
    (e, rw e (held_small w))
