-- Laws of the writer's tests, of the packet that it writes, and of its acceptance. Assumes nothing.
use mathlib.Core.Path.{◌≡◌, refl, sym, ap, ◌∙◌}
use mathlib.Core.Bool.{true, false, not, ◌&&◌}
use mathlib.Core.List.{List, ◌++◌}
use Prim.Native.Nat.{ℕ, ◌%◌, ◌^◌, ◌<◌}
use native.Mathlib.Omega.{arith}
use borrow.Author.Tests.{eq-eqb, eqb-true, leb-true, le-leb, not-false}
use lib.Dec.{eqb, leb}
use lib.ListN.{length, get_or, length-append}
use Rattle.bits.specs.Row.{Below}
use Rattle.bits.proofs.Tests.{both_true}
use Rattle.answer.specs.Answer.{Answer, Answer.accepted, verdict, rewritten}
use Rattle.answer.specs.Demand.{◌&◌}
use Rattle.answer.proofs.Chains.{value_of, met, passing}
use Rattle.answer.proofs.Residues.{whole}
use Rattle.codes.specs.Lanes.{check_octets}
use Rattle.codes.proofs.CheckLaws.{length-checks, checks-below}
use Rattle.hd_packet.specs.Packet.{octets_of, packet_of, Ranges, data_octets, odd_body}
use Rattle.hd_packet.specs.declared.Fields.{Fields}
use Rattle.hd_packet.proofs.Channels.{below-append}
use Rattle.hd_packet.proofs.Laid.{length-data, data-below, adf-octets}
use Rattle.hd_packet.proofs.PacketLaws.{length-packet, octets-packet}
use Rattle.hd_write.specs.Write.{in_ranges, low_body, packet_written, write_demands, write_answer, words_written}

-- ---- the tests of a body

pub low-false : (bodies : List ℕ) (i : ℕ) → get_or bodies i 0 % 16 ≡ 0 → low_body bodies i ≡ false
unfolding low_body
low-false bodies i e = ap not (eq-eqb _ 0 e)

pub clear-body : (bodies : List ℕ) (n : ℕ) → low_body bodies n ≡ false → get_or bodies n 0 % 2 ^ 4 ≡ 0
unfolding low_body
clear-body bodies n f = eqb-true (get_or bodies n 0 % 2 ^ 4) 0 (not-false (eqb (get_or bodies n 0 % 2 ^ 4) 0) f)

-- ---- the ranges

pub ranges : (f : Fields) → in_ranges f ≡ true → Ranges f
unfolding in_ranges
ranges f e =
    let a = both_true (leb 1 f.group && leb f.group 4 && leb f.dbn 255 && leb f.phase 4095 && leb f.ck12 1 && leb f.z1 1)
    (leb f.z2 1) e in
    let b = both_true (leb 1 f.group && leb f.group 4 && leb f.dbn 255 && leb f.phase 4095 && leb f.ck12 1) (leb f.z1 1)
    a.0 in
    let c = both_true (leb 1 f.group && leb f.group 4 && leb f.dbn 255 && leb f.phase 4095) (leb f.ck12 1) b.0 in
    let d = both_true (leb 1 f.group && leb f.group 4 && leb f.dbn 255) (leb f.phase 4095) c.0 in
    let g = both_true (leb 1 f.group && leb f.group 4) (leb f.dbn 255) d.0 in
    let h = both_true (leb 1 f.group) (leb f.group 4) g.0 in
    record {
      some = leb-true 1 f.group h.0;
      four = leb-true f.group 4 h.1;
      block = leb-true f.dbn 255 g.1;
      clock = leb-true f.phase 4095 d.1;
      top = leb-true f.ck12 1 c.1;
      first-pair = leb-true f.z1 1 b.1;
      second-pair = leb-true f.z2 1 a.1;
    }

pub ranged : (f : Fields) → Ranges f → in_ranges f ≡ true
unfolding in_ranges
ranged f r =
    rw (
      le-leb 1 f.group r.some,
      le-leb f.group 4 r.four,
      le-leb f.dbn 255 r.block,
      le-leb f.phase 4095 r.clock,
      le-leb f.ck12 1 r.top,
      le-leb f.z1 1 r.first-pair,
      le-leb f.z2 1 r.second-pair,
    )

-- ---- the packet

module _ (f : Fields) (bodies : List ℕ) where
  -- words 0 to 23 and the check words
  abbrev pub written_octets : List ℕ
  written_octets = data_octets f bodies ++ check_octets (data_octets f bodies)

  pub length-written : length written_octets ≡ 30
  length-written = simp (length-append, length-data, length-checks)

  pub packet-of-octets : packet_written f bodies ≡ packet_of written_octets
  unfolding packet_written
  packet-of-octets = refl

  pub packet-size : length (packet_written f bodies) ≡ 31
  packet-size = ap length packet-of-octets ∙ length-packet written_octets length-written

  -- in ranges they are octets, and those of the packet
  module _ (r : Ranges f) where
    pub written_below : Below (2 ^ 8) written_octets
    written_below = below-append (data_octets f bodies) (check_octets (data_octets f bodies)) (data-below f bodies r) (checks-below (data_octets f bodies))

    pub written-octets : octets_of (packet_written f bodies) ≡ written_octets
    written-octets =
        let adf = adf-octets f bodies (check_octets (data_octets f bodies)) in
        ap octets_of packet-of-octets
        ∙ octets-packet written_octets length-written written_below (eqb-true _ 0x00 adf.0) (eqb-true _ 0xFF adf.1.0)
        (eqb-true _ 0xFF adf.1.1.0)

-- ---- acceptance

pub record Accepted (f : Fields) (bodies : List ℕ) : Type 0 where
  pub four : length bodies ≡ 4
  pub within : Ranges f
  pub evens : (n : ℕ) → n < 4 → odd_body bodies n ≡ false
  pub clear : (n : ℕ) → n < 4 → low_body bodies n ≡ false

module _ (f : Fields) (bodies : List ℕ) where
  -- what is accepted is the packet, and all demands are met
  pub accepting : (room : ℕ) {words : List ℕ} → write_answer f bodies room ≡ accepted words
      → Accepted f bodies × (packet_written f bodies ≡ words)
  unfolding write_answer
  accepting room {words} e =
      let k = met (packet_written f bodies) (write_demands f bodies room) e in
      let m = k.0 in
      let four = eqb-true (length bodies) 4 m.0 in (
        record {
          four = four;
          within = ranges f m.1.1.0;
          evens = λ n l. m.1.1.1.0 n (omega arith) (omega (arith, four));
          clear = λ n l. m.1.1.1.1.0 n (omega arith) (omega (arith, four));
        },
        k.1,
      )

  -- and then the packet stands in the 31 words lent
  pub packet-left : (old : List ℕ) → verdict (write_answer f bodies (length old)) ≡ accepted tt
      → Accepted f bodies × (words_written f bodies old ≡ packet_written f bodies)
  unfolding write_answer
  packet-left old e =
      let v = value_of (λ w. tt) (write_answer f bodies (length old)) e in
      let m = met (packet_written f bodies) (write_demands f bodies (length old)) v.1 in (
        (accepting (length old) v.1).0,
        ap (λ (a : Answer (List ℕ)). rewritten a old) (v.1 ∙ ap accepted (sym m.1))
            ∙ whole (λ w. w) (packet_written f bodies) old (packet-size f bodies ∙ sym (eqb-true (length old) 31 m.0.1.0)),
      )

  pub accepts : Accepted f bodies → write_answer f bodies 31 ≡ accepted (packet_written f bodies)
  unfolding write_answer
  accepts a =
      passing (accepted (packet_written f bodies)) (write_demands f bodies 31)
      (eq-eqb (length bodies) 4 a.four & refl & ranged f a.within & (λ n k l. a.evens n (omega (arith, a.four)))
      & (λ n k l. a.clear n (omega (arith, a.four))) & tt)
