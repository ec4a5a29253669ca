-- `aes3_write::slots_word` meets its contract: four entries side by side, inverted where those before them leave level 1.
-- Assumes nothing.
use mathlib.Core.Path.{◌≡◌, refl, ap, ap₂, ◌∙◌}
use mathlib.Core.Bool.{false}
use Prim.Native.Nat.{ℕ, ◌+◌, ◌*◌, ◌/◌, ◌%◌, ◌^◌}
use native.Mathlib.Omega.{arith}
use lib.Bits.{bit_xor}
use lib.Dec.{eqb}
use Rattle.bits.specs.Row.{odd, big}
use Rattle.line.specs.Biphase.{biphase}
use Rattle.subframe.specs.Body.{slots}
use Rattle.aes3_write.specs.Inner.{inverters, entry_for, body_with}
use Rattle.aes3_write.proofs.Writing.{slots-lt, word-of-body}
use Rattle.aes3_write.proofs.slots_word.Goals as goal

pub inverters_of-v-requires : goal.inverters_of-v-requires
inverters_of-v-requires c =
    let h = c.three_entries-u.ensures in
    omega (arith, h.together, h.first, h.second, h.third)

pub overflow_mul-result : goal.overflow_mul-result
overflow_mul-result c =
    let h = c.three_entries-u.ensures in
    omega (arith, h.together, h.first, h.second, h.third)

pub overflow_add-result : goal.overflow_add-result
overflow_add-result c =
    let h = c.three_entries-u.ensures in
    omega (arith, h.together, h.first, h.second, h.third, c.entry-d.ensures.1)

pub returns : goal.returns
returns c =
    let k = c.args.code in
    let f = c.args.flags in
    let h = c.three_entries-u.ensures in
    let e = c.entry-d in
    let u = c.three_entries-u.result in
    let a = entry_for (k % 256) in
    let b = entry_for (k / 256 % 256) in
    let d = entry_for (k / 65536) in
    let ua : u / 2 ^ 32 ≡ a = omega (arith, h.together, h.second, h.third) in
    let ub : u / 2 ^ 16 % 2 ≡ b % 2 = omega (arith, h.together, h.third) in
    let ud : u % 2 ≡ d % 2 = omega (arith, h.together) in
    let v : c.inverters_of-v.result ≡ inverters (odd a) (odd b) (odd d) =
    c.inverters_of-v.ensures
    ∙ ap₂ (λ (x y : ℕ). inverters (odd x) (eqb y 1) (odd u)) ua ub ∙ ap (λ (x : ℕ). inverters (odd a) (odd b) (eqb x 1)) ud in
    let w : bit_xor (u * 256 + e.result / 256) c.inverters_of-v.result ≡ big (biphase false (slots (body_with k f))) =
    ap₂ (λ (x y : ℕ). bit_xor (x * 256 + e.result / 256) y) h.together v
    ∙ word-of-body k f c.requires.0 c.requires.1 c.last_slots.result c.last_slots.ensures.0 a b d e.result refl refl
    refl e.ensures.0 in
    (w, rw w (slots-lt (body_with k f)))
