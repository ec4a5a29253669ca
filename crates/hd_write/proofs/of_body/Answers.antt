-- `hd_write::of_body` meets its contract: the octets as they are written. Assumes nothing.
use mathlib.Core.Path.{◌≡◌, ap, ap₂, ◌∙◌}
use mathlib.Core.List.{List, [], ◌∷◌}
use Prim.Native.Nat.{ℕ, ◌+◌, ◌*◌, ◌/◌, ◌%◌, ◌^◌, ◌≤◌}
use native.Mathlib.Omega.{arith}
use mir.Syntax.{w32}
use Rattle.std.specs.Int.{to_le_bytes}
use Rattle.hd_packet.proofs.Channels.{channel-octets}
use Rattle.hd_write.proofs.of_body.Goals as goal

bytes : (b z : ℕ) → z ≤ 1
    → to_le_bytes w32 (b / 16 * 16 + z * 8)
    ≡ (b / 2 ^ 4 % 2 ^ 4 * 2 ^ 4 + z * 2 ^ 3) ∷ b / 2 ^ 8 % 2 ^ 8 ∷ b / 2 ^ 16 % 2 ^ 8 ∷ b / 2 ^ 24 % 2 ^ 8 ∷ []
bytes b z h =
    ap₂ (λ (x : ℕ) (l : List ℕ). x ∷ l) (omega arith)
    (ap₂ (λ (x : ℕ) (l : List ℕ). x ∷ l) (omega arith) (ap₂ (λ (x : ℕ) (l : List ℕ). x ∷ l) (omega arith) (ap (λ (x : ℕ). x ∷ []) (omega arith))))

pub returns : goal.returns
returns c = c.to_le_bytes.ensures ∙ bytes c.args.body c.args.z c.requires ∙ channel-octets c.args.body c.args.z
