-- What comes back of a control packet is in its range: its group, and the number of a refusal. Assumes nothing.
use mathlib.Core.Path.{◌≡◌, refl}
use mathlib.Core.List.{List}
use Prim.Native.Nat.{ℕ, ◌≤◌, ◌<◌}
use native.Mathlib.Omega.{arith}
use lib.ListN.{get_or}
use Rattle.answer.specs.Answer.{Answer.accepted, Answer.refused}
use Rattle.answer.proofs.Chains.{met}
use Rattle.answer.proofs.Numbers.{refused-below}
use Rattle.anc.specs.Head.{group_in}
use Rattle.anc.proofs.Heads.{names}
use Rattle.hd_control.specs.Control.{control_dids, control_in}
use Rattle.hd_control.specs.Read.{read_demands, read_answer}
use Rattle.hd_control.specs.declared.Control.{Control}

-- a packet that is read names a group
pub read_named : (words : List ℕ) (c : Control) → read_answer words ≡ accepted c → 1 ≤ group_in control_dids (get_or words 3 0)
unfolding read_answer
read_named words c e =
    let m = met (control_in words) (read_demands words) e in
    (names control_dids (get_or words 3 0) (omega arith) m.0.1.1.1.1.1.0).some

pub read_number : (words : List ℕ) (number place : ℕ) → read_answer words ≡ refused number place → number < 18
unfolding read_answer
read_number words number place e = refused-below (control_in words) (read_demands words) 18 e refl
