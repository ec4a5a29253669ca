-- The octets and the packet of repair, and what its acceptance says. Assumes nothing.
use mathlib.Core.Path.{◌≡◌, refl, ap, ◌∙◌}
use mathlib.Core.Bool.{true, false}
use mathlib.Core.List.{List}
use Prim.Native.Nat.{ℕ, ◌^◌, ◌<◌}
use native.Mathlib.Omega.{arith}
use borrow.Author.Tests.{eq-eqb, eqb-true}
use lib.ListN.{length}
use Rattle.bits.specs.Row.{Below}
use Rattle.answer.specs.Answer.{Answer.accepted, Answer.refused}
use Rattle.answer.specs.Demand.{AllMet, ◌&◌}
use Rattle.answer.specs.Demand.Stops.{found, later}
use Rattle.answer.proofs.Chains.{passing, stopped, met}
use Rattle.answer.proofs.Numbers.{refused-below}
use Rattle.anc.specs.Word.{wide_at}
use Rattle.anc.specs.Head.{head_demands}
use Rattle.codes.specs.Lanes.{hopeless_at, mended_octets, lanes_apart}
use Rattle.codes.proofs.RepairedLanes.{length-all, all-below}
use Rattle.hd_packet.specs.Packet.{octets_of, packet_of}
use Rattle.hd_packet.proofs.PacketLaws.{length-octets, octets-below, length-packet, octets-packet}
use Rattle.hd_repair.specs.Repair.{repaired_octets, packet_repaired, adf_octets, repair_demands, repair_answer}

module _ (words : List ℕ) (h : length words ≡ 31) where
  pub long : length (octets_of words) ≡ 30
  long = length-octets words (omega arith)

  pub below : Below (2 ^ 8) (octets_of words)
  below = octets-below words (omega arith)

  pub mended-octets : repaired_octets words ≡ mended_octets (octets_of words)
  unfolding repaired_octets
  mended-octets = refl

  pub repaired-30 : length (repaired_octets words) ≡ 30
  repaired-30 = ap length mended-octets ∙ length-all (octets_of words) long below

  pub packet-of-octets : packet_repaired words ≡ packet_of (repaired_octets words)
  unfolding packet_repaired
  packet-of-octets = refl

  pub packet-size : length (packet_repaired words) ≡ 31
  packet-size = ap length packet-of-octets ∙ length-packet (repaired_octets words) repaired-30

  -- the octets of the packet are those repaired, where these open with the ADF's
  pub packet-octets : AllMet (head_demands adf_octets (repaired_octets words)) → octets_of (packet_repaired words) ≡ repaired_octets words
  packet-octets adf =
      ap octets_of packet-of-octets
      ∙ octets-packet (repaired_octets words) repaired-30 (rw mended-octets (all-below (octets_of words) long below)) (eqb-true _ 0x00 adf.0)
      (eqb-true _ 0xFF adf.1.0) (eqb-true _ 0xFF adf.1.1.0)

-- ---- the answer, of 31 words of ten bits into 31

module _ (words : List ℕ) (h : length words ≡ 31) (narrow : (k : ℕ) → k < 31 → wide_at words k ≡ false) where
  pub repairs : ((i : ℕ) → i < 8 → hopeless_at (octets_of words) i ≡ false) → AllMet (head_demands adf_octets (repaired_octets words))
      → repair_answer words 31 ≡ accepted (lanes_apart 8 (repaired_octets words) (octets_of words), packet_repaired words)
  unfolding repair_answer
  repairs hope adf =
      passing (accepted (lanes_apart 8 (repaired_octets words) (octets_of words), packet_repaired words)) (repair_demands words 31)
      (eq-eqb (length words) 31 h & refl & (λ k z l. narrow k (omega arith)) & (λ i z l. hope i (omega arith)) & adf)

  pub refuses-lane : (i : ℕ) → i < 8 → hopeless_at (octets_of words) i ≡ true → ((j : ℕ) → j < i → hopeless_at (octets_of words) j ≡ false)
      → repair_answer words 31 ≡ refused 15 i
  unfolding repair_answer
  refuses-lane i l here before =
      stopped (accepted (lanes_apart 8 (repaired_octets words) (octets_of words), packet_repaired words))
      (later (eq-eqb (length words) 31 h) (later refl (later (λ k z q. narrow k (omega arith))
      (found (omega arith) (omega arith) here (λ j z q. before j q)))))

-- ---- and what acceptance says

pub repair-met : (words : List ℕ) (room : ℕ) (v : ℕ × List ℕ) → repair_answer words room ≡ accepted v
    → AllMet (repair_demands words room) × (◌≡◌ {A = ℕ × List ℕ} (lanes_apart 8 (repaired_octets words) (octets_of words), packet_repaired words) v)
unfolding repair_answer
repair-met words room v e = met (lanes_apart 8 (repaired_octets words) (octets_of words), packet_repaired words) (repair_demands words room) e

-- a refusal has one of the numbers of repair
pub repair-number : (words : List ℕ) (room number place : ℕ) → repair_answer words room ≡ refused number place → number < 18
unfolding repair_answer
repair-number words room number place e =
    refused-below (lanes_apart 8 (repaired_octets words) (octets_of words), packet_repaired words) (repair_demands words room) 18 e refl
