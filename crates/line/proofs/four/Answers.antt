-- `line::four` meets its contract: each octet makes the window longer by eight. Assumes nothing.
use mathlib.Core.Path.{◌≡◌, sym, ap, ◌∙◌}
use Prim.Native.Nat.{ℕ, ◌+◌, ◌*◌, ◌<◌}
use native.Mathlib.Omega.{arith}
use lib.ListN.{get_or}
use Rattle.bits.specs.Window.{window}
use Rattle.bits.specs.Pack.{symbols}
use Rattle.bits.proofs.Packing.{octet-window, window-next}
use Rattle.line.proofs.four.Goals as goal

-- the sum, octet by octet
by-turns : (a b c d : ℕ) → a * 16777216 + b * 65536 + c * 256 + d ≡ ((a * 256 + b) * 256 + c) * 256 + d
by-turns a b c d = omega arith

pub returns : goal.returns
returns c =
    let l = c.args.line.now in
    let j = c.args.j in
    let octet : (i : ℕ) → get_or l i 0 < 256 = λ i. omega (arith, c.type_inv.line i) in
    let v = get_or l in
    let a : v j 0 ≡ window (symbols l) (j * 8) 8 = sym (octet-window l j (octet j)) in
    let b : v j 0 * 256 + v (j + 1) 0 ≡ window (symbols l) (j * 8) 16 =
    ap (λ (x : ℕ). x * 256 + v (j + 1) 0) a ∙ window-next l (j * 8) 8 (j + 1) (omega arith) (octet (j + 1)) in
    let d : (v j 0 * 256 + v (j + 1) 0) * 256 + v (j + 2) 0 ≡ window (symbols l) (j * 8) 24 =
    ap (λ (x : ℕ). x * 256 + v (j + 2) 0) b ∙ window-next l (j * 8) 16 (j + 2) (omega arith) (octet (j + 2)) in
    let e : ((v j 0 * 256 + v (j + 1) 0) * 256 + v (j + 2) 0) * 256 + v (j + 3) 0 ≡ window (symbols l) (j * 8) 32 =
    ap (λ (x : ℕ). x * 256 + v (j + 3) 0) d ∙ window-next l (j * 8) 24 (j + 3) (omega arith) (octet (j + 3)) in
    c.from.ensures ∙ c.from_be_bytes.ensures ∙ by-turns (v j 0) (v (j + 1) 0) (v (j + 2) 0) (v (j + 3) 0) ∙ e
