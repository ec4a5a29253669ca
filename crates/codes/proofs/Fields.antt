-- The struct that the CRCC's stages are handed on in is its stages, so a contract that gives them gives the struct.
-- Assumes nothing.
use mathlib.Core.Path.{◌≡◌, ap}
use Prim.Native.Nat.{ℕ}
use Rattle.codes.specs.declared.Crcc.{Crcc}

pub crcc-is-its-stages : (a b : Crcc) → a.stages ≡ b.stages → a ≡ b
crcc-is-its-stages a b e = ap (λ (s : ℕ). record { stages = s }) e
