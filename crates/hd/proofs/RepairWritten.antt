-- Repair between writer and reader: every lane of a written packet satisfies the code; a written packet with at most one changed place in
-- each lane, whatever happened to b8, b9 and CS, is given back with the number of lanes that were changed; two changed places in one lane
-- are refused, at the first such lane; and each lane of an accepted output is lane repair's answer. Assumes nothing.
use mathlib.Core.Path.{◌≡◌, sym, ap, ◌∙◌, subst}
use mathlib.Core.Bool.{true, false}
use mathlib.Core.List.{List}
use Prim.Native.Nat.{ℕ, ◌+◌, ◌^◌, ◌≤◌, ◌<◌}
use native.Mathlib.Omega.{arith}
use borrow.Author.Tests.{eqb-true}
use lib.ListN.{length}
use Rattle.bits.specs.Row.{Below}
use Rattle.bits.proofs.Tests.{no-yes}
use Rattle.answer.specs.Answer.{Answer, Answer.accepted, Answer.refused, mapped, verdict, after}
use Rattle.answer.specs.Demand.{AllMet}
use Rattle.answer.proofs.Chains.{value_of, search-cases}
use Rattle.answer.proofs.Residues.{whole}
use Rattle.anc.specs.Word.{wide_at}
use Rattle.anc.specs.Head.{head_demands}
use Rattle.anc.proofs.Searched.{narrow-passes}
use Rattle.codes.specs.Lane.{satisfies, apart, repaired}
use Rattle.codes.specs.Lanes.{lane_of, check_octets, hopeless_at, lanes_apart}
use Rattle.codes.proofs.LaneLaws.{repair-finds}
use Rattle.codes.proofs.CheckLaws.{lane-lt, checks-satisfy}
use Rattle.codes.proofs.MendLaws.{all-mended}
use Rattle.codes.proofs.RepairedLanes.{lane-refused, lane-given, given-lane, two-apart, mended-as}
use Rattle.hd_packet.specs.Packet.{octets_of, packet_of, data_octets}
use Rattle.hd_packet.specs.declared.Fields.{Fields}
use Rattle.hd_packet.proofs.Laid.{length-data, adf-octets}
use Rattle.hd_write.specs.Write.{write_answer, words_written}
use Rattle.hd_write.proofs.WriteLaws.{written_octets, length-written, packet-of-octets, written_below, written-octets, packet-size, Accepted, accepting, packet-left}
use Rattle.hd_write.proofs.WriteLaws.{accepts as packet-accepts}
use Rattle.hd_repair.specs.Repair.{repaired_octets, packet_repaired, adf_octets, repair_demands, repair_answer, lanes_changed, packet_out, words_repaired}
use Rattle.hd_repair.proofs.RepairLaws.{mended-octets, packet-octets, repairs, refuses-lane, repair-met}
use Rattle.hd_repair.proofs.RepairLaws.{long as octets-30, below as octets-small, packet-of-octets as packet-of-repaired, packet-size as repaired-size}

-- ---- a written packet

module _ (f : Fields) (bodies : List ℕ) {words : List ℕ} (e : write_answer f bodies 31 ≡ accepted words) where
  ok : Accepted f bodies
  ok = (accepting f bodies 31 e).0

  abbrev sent : List ℕ
  sent = written_octets f bodies

  words_of : words ≡ packet_of sent
  words_of = sym (accepting f bodies 31 e).1 ∙ packet-of-octets f bodies

  same-octets : octets_of words ≡ sent
  same-octets = ap octets_of (sym (accepting f bodies 31 e).1) ∙ written-octets f bodies ok.within

  satisfied : (i : ℕ) → i < 8 → satisfies (lane_of i sent) ≡ true
  satisfied i l = checks-satisfy (data_octets f bodies) (length-data f bodies) i l

  lanes-right : (i : ℕ) → i < 8 → satisfies (lane_of i (octets_of words)) ≡ true
  lanes-right i l = ap (λ (xs : List ℕ). satisfies (lane_of i xs)) same-octets ∙ satisfied i l

  -- ---- 31 words of ten bits, received in place of it

  module _ (received : List ℕ) (long : length received ≡ 31) (ten : Below (2 ^ 10) received) where
    abbrev got : List ℕ
    got = octets_of received

    -- the places in which lane i differs
    abbrev changes : ℕ → ℕ
    changes i = apart (lane_of i got) (lane_of i (octets_of words))

    narrow : (k : ℕ) → k < 31 → wide_at received k ≡ false
    narrow k l = narrow-passes received k (ten k)

    -- a lane with at most one change is given back
    mended-lane : (i : ℕ) → i < 8 → changes i ≤ 1 → repaired (lane_of i got) ≡ accepted (lane_of i sent)
    mended-lane i l few =
        repair-finds (lane_of i got) (lane_of i sent) (lane-lt got (octets-30 received long) i)
        (record {
          right = satisfied i l;
          within = subst (λ (xs : List ℕ). apart (lane_of i got) (lane_of i xs) ≤ 1) same-octets few;
        })

    -- at most one changed place in each lane
    module _ (few : (i : ℕ) → i < 8 → changes i ≤ 1) where
      all-octets : repaired_octets received ≡ sent
      all-octets =
          mended-octets received long
          ∙ mended-as got (octets-30 received long) (octets-small received long) sent (length-written f bodies) (written_below f bodies ok.within)
          (λ i l. sym (lane-given got i (lane_of i sent) (mended-lane i l (few i l))).1)

      adf : AllMet (head_demands adf_octets (repaired_octets received))
      adf =
          subst (λ (xs : List ℕ). AllMet (head_demands adf_octets xs)) (sym all-octets)
          (adf-octets f bodies (check_octets (data_octets f bodies)))

      packet-back : packet_repaired received ≡ words
      packet-back = packet-of-repaired received long ∙ ap packet_of all-octets ∙ sym words_of

      one-mended : repair_answer received 31 ≡ accepted (lanes_apart 8 (octets_of words) (octets_of received), words)
      one-mended =
          repairs received long narrow (λ i l. (lane-given got i (lane_of i sent) (mended-lane i l (few i l))).0) adf
          ∙ rw (all-octets, packet-back, same-octets)

    -- two changed places in lane i
    module _ (i : ℕ) (l : i < 8) (two : changes i ≡ 2) where
      refused-here : hopeless_at got i ≡ true
      refused-here =
          lane-refused got i 15 0
          (two-apart (lane_of i got) (lane_of i sent) (lane-lt got (octets-30 received long) i) (satisfied i l)
          (subst (λ (xs : List ℕ). apart (lane_of i got) (lane_of i xs) ≡ 2) same-octets two))

      -- where no lane before it has them
      two-first : ((j : ℕ) → j < i → changes j ≤ 1) → repair_answer received 31 ≡ refused 15 i
      two-first before =
          refuses-lane received long narrow i l refused-here
          (λ j q. (lane-given got j (lane_of j sent) (mended-lane j (omega arith) (before j q))).0)

      -- whatever the lanes before it have
      two-anywhere : (j : ℕ) × (j ≤ i) × (repair_answer received 31 ≡ refused 15 j)
      two-anywhere =
          search-cases (hopeless_at got) (λ (j : ℕ). j) 8 0 (i + 1) (λ m. (j : ℕ) × (j ≤ i) × (repair_answer received 31 ≡ refused 15 j))
          (λ j z q here before. (j, omega arith, refuses-lane received long narrow j (omega arith) here (λ k h. before k (omega arith) h)))
          (λ none. no-yes (hopeless_at got i) (none i (omega arith) (omega arith)) refused-here)

-- ---- the promises, of the words that the writer leaves in 31 lent ones

module _ (f : Fields) (bodies old : List ℕ) (accepts : verdict (write_answer f bodies (length old)) ≡ accepted tt) where
  abbrev left : List ℕ
  left = words_written f bodies old

  writes : write_answer f bodies 31 ≡ accepted (words_written f bodies old)
  writes =
      let p = packet-left f bodies old accepts in
      packet-accepts f bodies p.0 ∙ ap accepted (sym p.1)

  -- every lane of them satisfies the code
  pub written-lanes : (i : ℕ) → i < 8 → satisfies (lane_of i (octets_of (words_written f bodies old))) ≡ true
  written-lanes = lanes-right f bodies writes

  -- 31 words of ten bits, received in place of them, are repaired into 31 lent ones
  module _ (received into : List ℕ) (long : length received ≡ 31) (ten : Below (2 ^ 10) received) (room : length into ≡ 31) where
    -- the places in which lane i differs
    abbrev pub changed : ℕ → ℕ
    changed i = apart (lane_of i (octets_of received)) (lane_of i (octets_of (words_written f bodies old)))

    module _ (few : (i : ℕ) → i < 8 → changed i ≤ 1) where
      mends : repair_answer received (length into) ≡ accepted (lanes_apart 8 (octets_of left) (octets_of received), left)
      mends = ap (repair_answer received) room ∙ one-mended f bodies writes received long ten few

      -- at most one changed place in each lane: the answer is the number of lanes that were changed
      pub repair-count : mapped lanes_changed (repair_answer received (length into))
          ≡ accepted (lanes_apart 8 (octets_of (words_written f bodies old)) (octets_of received))
      repair-count = ap (mapped lanes_changed) mends

      -- and the words are those that the writer left
      pub repair-written : words_repaired received into ≡ words_written f bodies old
      repair-written =
          ap (λ (a : Answer (ℕ × List ℕ)). after packet_out a into) mends
          ∙ whole packet_out (lanes_apart 8 (octets_of left) (octets_of received), left) into
          (ap length (packet-left f bodies old accepts).1 ∙ packet-size f bodies ∙ sym room)

    module _ (i : ℕ) (l : i < 8) (two : changed i ≡ 2) where
      -- two changed places in lane i: refused, there or at a lane before it
      pub two-are-refused : (j : ℕ) × (j ≤ i) × (mapped lanes_changed (repair_answer received (length into)) ≡ refused 15 j)
      two-are-refused =
          let r = two-anywhere f bodies writes received long ten i l two in
          (r.0, r.1, ap (mapped lanes_changed) (ap (repair_answer received) room ∙ r.2))

      -- there, if each lane before it has at most one
      pub two-refused : ((j : ℕ) → j < i → changed j ≤ 1) → mapped lanes_changed (repair_answer received (length into)) ≡ refused 15 i
      two-refused before =
          ap (mapped lanes_changed) (ap (repair_answer received) room ∙ two-first f bodies writes received long ten i l two before)

-- ---- each lane of an accepted output is lane repair's answer for that lane of the input

module _ (words into : List ℕ) (n : ℕ) (accepts : mapped lanes_changed (repair_answer words (length into)) ≡ accepted n) where
  abbrev read : List ℕ
  read = octets_of words

  value : (v : ℕ × List ℕ) × (repair_answer words (length into) ≡ accepted v) × (lanes_changed v ≡ n)
  value = value_of lanes_changed (repair_answer words (length into)) accepts

  said : AllMet (repair_demands words (length into))
      × (◌≡◌ {A = ℕ × List ℕ} (lanes_apart 8 (repaired_octets words) read, packet_repaired words) value.0)
  said = repair-met words (length into) value.0 value.1

  long-31 : length words ≡ 31
  long-31 = eqb-true (length words) 31 said.0.0

  output : octets_of (words_repaired words into) ≡ repaired_octets words
  output =
      ap octets_of (ap (λ (a : Answer (ℕ × List ℕ)). after packet_out a into) (value.1 ∙ ap accepted (sym said.1))
      ∙ whole packet_out (lanes_apart 8 (repaired_octets words) read, packet_repaired words) into
      (repaired-size words long-31 ∙ sym (eqb-true (length into) 31 said.0.1.0)))
      ∙ packet-octets words long-31 said.0.1.1.1.1

  -- lane by lane, of the words that repair leaves
  pub output-lanes : (i : ℕ) → i < 8 → repaired (lane_of i (octets_of words)) ≡ accepted (lane_of i (octets_of (words_repaired words into)))
  output-lanes i l =
      given-lane read i (said.0.1.1.1.0 i (omega arith) (omega arith))
      ∙ ap accepted (sym (ap (lane_of i) (output ∙ mended-octets words long-31)
      ∙ all-mended read (octets-30 words long-31) (octets-small words long-31) i l))

  -- the count is of the lanes in which output and input differ
  pub output-count : n ≡ lanes_apart 8 (octets_of (words_repaired words into)) (octets_of words)
  output-count = sym (ap lanes_changed said.1 ∙ value.2) ∙ ap (λ (xs : List ℕ). lanes_apart 8 xs read) (sym output)
