-- `codes::crcc_of` meets its contract. The loop's invariant: what the code holds is the octet that the stages are sent as, after the
-- octets passed. Assumes nothing.
use mathlib.Core.Path.{◌≡◌, refl, sym, ap, ◌∙◌}
use mathlib.Core.Logic.{⊎_elim}
use mathlib.Core.List.{List}
use Prim.Native.Nat.{ℕ, ◌≤◌, ◌<◌, min}
use native.Mathlib.Omega.{arith}
use lib.ListN.{length, get_or, take}
use lib.Seq.{length-take-le, get_or-take, take_all}
use lib.Bits.{bit_xor}
use Rattle.bits.proofs.Tests.{order}
use Rattle.bits.specs.Row.{big_bits, little}
use Rattle.bits.specs.Pack.{chain}
use Rattle.codes.specs.Divide.{through}
use Rattle.codes.specs.Crcc.{sent, stages_after, octet_of, crcc_of}
use Rattle.codes.proofs.Stages.{stages-lt, stages-next}
use Rattle.codes.proofs.CrccTable.{sent-next}
use Rattle.codes.proofs.crcc_of.Goals as goal

pub loop-octet-init : goal.loop-octet-init
unfolding stages_after sent chain through octet_of little big_bits
loop-octet-init c = refl

pub loop-octet-preserved : goal.loop-octet-preserved
loop-octet-preserved c =
    let status : List ℕ = c.args.status.now in
    let table : List ℕ = c.sent_table-table.result in
    let v = c.loop-octet in
    let i : ℕ = v.octet-index in
    let m : length (take c.min.result status) ≡ c.min.result = length-take-le c.min.result status (omega arith) in
    let h : get_or status i 0 < 256 = omega (arith, c.type_inv.status i) in
    ap (λ (x : ℕ). get_or table x 0)
    (c.from.ensures ∙ ap (bit_xor v.c) (get_or-take c.min.result status i 0 (omega arith)) ∙ ap (λ (x : ℕ). bit_xor x (get_or status i 0)) v.invariant)
    ∙ sent-next table (stages_after (take i status)) (get_or status i 0) c.sent_table-table.ensures (stages-lt (take i status)) h
    ∙ ap octet_of (sym (stages-next status i (omega arith)))

-- the octets passed are all that count
all_passed : (status : List ℕ) (i m : ℕ) → m ≡ min (length status) 23 → length (take m status) ≤ i → i ≤ length (take m status)
    → take i status ≡ take 23 status
all_passed status i m e h l =
    let n : length (take m status) ≡ m = length-take-le m status (omega arith) in
    ⊎_elim
    (λ (q : 23 ≤ length status). let same : i ≡ 23 = omega arith in ap (λ (k : ℕ). take k status) same)
    (λ (q : length status < 23). take_all i status (omega arith) ∙ sym (take_all 23 status (omega arith))) (order 23 (length status))

pub returns : goal.returns
unfolding crcc_of
returns c =
    c.loop-octet.invariant
    ∙ ap (λ (os : List ℕ). octet_of (stages_after os))
    (all_passed c.args.status.now c.loop-octet.octet-index c.min.result c.min.ensures c.loop-octet-test.false c.loop-octet.auto.octet-index-end)
