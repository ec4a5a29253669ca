-- `leases::slots_of` meets its contract: the slots from k on are in the number. Assumes nothing.
use mathlib.Core.Path.{◌≡◌, refl, sym, ap, ◌∙◌}
use mathlib.Core.Bool.{Bool, true, false}
use mathlib.Core.List.{List}
use Prim.Native.Nat.{ℕ, suc, ◌+◌, ◌-◌, ◌*◌, ◌^◌, ◌≤◌, ◌<◌}
use native.Mathlib.Omega.{arith}
use lib.Dec.{eqb}
use mir.Val.{bool_byte}
use lib.ListN.{length, get_or, drop, length-drop, length-map, drop_of_length-le}
use lib.Pow.{pow_mono}
use lib.Seq.{drop-cons}
use Rattle.bits.specs.Row.{digit, little}
use Rattle.bits.proofs.Digits.{digit_lt}
use Rattle.bits.proofs.Rows.{little-lt}
use Rattle.leases.specs.Table.{row_of, slots_of}
use Rattle.leases.proofs.slots_of.Goals as goal

none_yet : (t : ℕ) (table : List ℕ) → length table ≡ 64 → 0 ≡ slots_of t (drop 64 table)
unfolding slots_of little
none_yet t table h = ap (slots_of t) (sym (drop_of_length-le table {i = 64} (omega (arith, h))))

-- one slot more, below those that are there
more : (t i : ℕ) (table : List ℕ) → i < length table
    → slots_of t (drop (suc i) table) * 2 + digit (eqb (get_or table i 0) t) ≡ slots_of t (drop i table)
unfolding slots_of little
more t i table h = rw (drop-cons table i 0 h) (omega arith)

-- fewer than 64 slots make a number below 2 ^ 63
small : (t i : ℕ) (table : List ℕ) → length table ≡ 64 → 0 < i → slots_of t (drop i table) < 2 ^ 63
unfolding slots_of
small t i table h z =
    let n : length (row_of t (drop i table)) ≡ length table - i = length-map (drop i table) (λ x. eqb x t) ∙ length-drop i table in
    omega (arith, rw n at (little-lt (row_of t (drop i table))), pow_mono {i = length table - i} {j = 63} (omega (arith, h)))

-- the number after a turn
next : (t k slots d : ℕ) (table : List ℕ) → 0 < k → k ≤ length table → slots ≡ slots_of t (drop k table)
    → d ≡ digit (eqb (get_or table (k - 1) 0) t) → slots * 2 + d ≡ slots_of t (drop (k - 1) table)
next t k slots d table z h e is =
    let n : k ≡ suc (k - 1) = omega (arith, z) in
    ap (λ (x : ℕ). slots * 2 + x) is
    ∙ ap (λ (x : ℕ). x * 2 + digit (eqb (get_or table (k - 1) 0) t)) (e ∙ ap (λ (j : ℕ). slots_of t (drop j table)) n)
    ∙ more t (k - 1) table (omega arith)

-- one octet for a truth is its digit
byte-digit : (b : Bool) → bool_byte b ≡ digit b
byte-digit true = refl
byte-digit false = refl

pub loop-k-init : goal.loop-k-init
loop-k-init c = none_yet c.args.t c.args.table.now (omega arith)

pub overflow_mul-slots : goal.overflow_mul-slots
overflow_mul-slots c =
    let v = c.loop-k in
    omega (arith, v.invariant, small c.args.t v.k c.args.table.now (omega arith) c.loop-k-test.true)

pub overflow_add-slots : goal.overflow_add-slots
overflow_add-slots c =
    let v = c.loop-k in
    let own : Bool = eqb (get_or c.args.table.now (v.k - 1) 0) c.args.t in
    omega (
      arith,
      v.invariant,
      c.from.ensures,
      byte-digit own,
      digit_lt own,
      small c.args.t v.k c.args.table.now (omega arith) c.loop-k-test.true,
    )

pub loop-k-preserved : goal.loop-k-preserved
loop-k-preserved c =
    let v = c.loop-k in
    let own : Bool = eqb (get_or c.args.table.now (v.k - 1) 0) c.args.t in
    next c.args.t v.k v.slots c.from.result c.args.table.now c.loop-k-test.true (omega arith) v.invariant (c.from.ensures ∙ byte-digit own)

pub returns : goal.returns
returns c =
    let z : c.loop-k.k ≡ 0 = omega (arith, c.loop-k-test.false) in
    c.loop-k.invariant ∙ ap (λ (j : ℕ). slots_of c.args.t (drop j c.args.table.now)) z
