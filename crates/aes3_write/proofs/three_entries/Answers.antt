-- `aes3_write::three_entries` meets its contract. Assumes nothing.
use mathlib.Core.Path.{◌≡◌, ap, ◌∙◌}
use mathlib.Core.List.{List}
use Prim.Native.Nat.{ℕ, ◌/◌, ◌%◌}
use native.Mathlib.Nat.{mod-eq_of_lt}
use native.Mathlib.Omega.{arith}
use lib.ListN.{get_or}
use Rattle.std.specs.Int.{w32, to_le_bytes}
use Rattle.aes3_write.specs.Inner.{entry_for}
use Rattle.aes3_write.proofs.three_entries.Goals as goal

pub returns : goal.returns
returns c =
    let k = c.args.code in
    let octet : (i : ℕ) → entry_for (get_or c.to_le_bytes.result i 0) ≡ entry_for (get_or (to_le_bytes w32 k) i 0) =
    λ i. ap (λ (os : List ℕ). entry_for (get_or os i 0)) c.to_le_bytes.ensures in
    let top : k / 65536 % 256 ≡ k / 65536 = mod-eq_of_lt (omega arith) in
    let a : c.entry-a.result ≡ entry_for (k % 256) = c.entry-a.ensures.0 ∙ octet 0 in
    let b : c.entry-b.result ≡ entry_for (k / 256 % 256) = c.entry-b.ensures.0 ∙ octet 1 in
    let d : c.entry-c.result ≡ entry_for (k / 65536) = c.entry-c.ensures.0 ∙ octet 2 ∙ ap entry_for top in
    record {
      together = omega (arith, a, b, d);
      first = rw a at c.entry-a.ensures.1;
      second = rw b at c.entry-b.ensures.1;
      third = rw d at c.entry-c.ensures.1;
    }
