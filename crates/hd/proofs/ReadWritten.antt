-- What the writer accepts is read back unchanged, from the words that it leaves: the fields and the bodies. Assumes
-- nothing.
use mathlib.Core.Path.{◌≡◌, refl, sym, ap, ap₂, ◌∙◌, subst}
use mathlib.Core.List.{List, [], ◌∷◌}
use Prim.Native.Nat.{ℕ, ◌^◌}
use native.Mathlib.Omega.{arith}
use borrow.Author.Tests.{eq-eqb, eqb-true}
use lib.ListN.{length, get_or}
use Rattle.bits.specs.Row.{Below}
use Rattle.answer.specs.Answer.{Answer, Answer.accepted, mapped, verdict, after}
use Rattle.answer.specs.Demand.{Demand.asks, Demand.finds_none, AllMet, ◌&◌}
use Rattle.answer.proofs.Chains.{both-met}
use Rattle.answer.proofs.Residues.{whole}
use Rattle.anc.specs.Word.{parities, wrong_at}
use Rattle.anc.specs.Head.{head_demands}
use Rattle.anc.specs.Enclosed.{sum_stands}
use Rattle.codes.specs.Lanes.{check_octets}
use Rattle.codes.proofs.CheckLaws.{checks-satisfy}
use Rattle.codes.proofs.RepairedLanes.{satisfied-passes}
use Rattle.hd_packet.specs.Packet.{octets_of, packet_of, did, dc, packet_head, data_octets, fields_in, bodies_in, spare_demands, odd_body}
use Rattle.hd_packet.specs.declared.Fields.{Fields}
use Rattle.hd_packet.proofs.PacketLaws.{length-packet}
use Rattle.hd_packet.proofs.Laid.{length-data, fields_back, spares-clear}
use Rattle.hd_packet.proofs.Laid.{bodies-back as laid-back}
use Rattle.hd_packet.proofs.Words.{narrow, right-words, right-sum, group-named, head-stands}
use Rattle.hd_write.specs.Write.{write_answer, words_written}
use Rattle.hd_write.proofs.WriteLaws.{written_octets, length-written, packet-of-octets, written_below, written-octets, Accepted, packet-left, clear-body}
use Rattle.hd_read.specs.Read.{word_demands, octet_demands, read_demands, read_answer, fields_read, bodies_read, bodies_after}
use Rattle.hd_read.proofs.ReadLaws.{reads}

module _ (f : Fields) (bodies : List ℕ) (below : Below (2 ^ 32) bodies) (a : Accepted f bodies) where
  abbrev cs : List ℕ
  cs = check_octets (data_octets f bodies)

  abbrev xs : List ℕ
  xs = written_octets f bodies

  abbrev packet : List ℕ
  packet = packet_of xs

  long : length xs ≡ 30
  long = length-written f bodies

  octets : octets_of packet ≡ xs
  octets = ap octets_of (sym (packet-of-octets f bodies)) ∙ written-octets f bodies a.within

  bodies-back : bodies_in xs ≡ bodies
  bodies-back = laid-back f bodies cs a.within below a.four (λ n l. clear-body bodies n (a.clear n l))

  small : Below (2 ^ 8) xs
  small = written_below f bodies a.within

  words-met : AllMet (word_demands packet)
  words-met =
      (λ k z l. narrow xs long small k (omega (arith, length-packet xs long)))
      & both-met (head_demands (packet_head packet) packet) (finds_none 14 (wrong_at parities packet) 3 27 ∷ asks 16 30 (sum_stands 27 packet) ∷ [])
      (head-stands f bodies cs a.within long)
      ((λ k z l. right-words xs long small k z (omega arith)) & right-sum xs long small & tt)

  octets-met : AllMet (octet_demands xs)
  octets-met =
      (λ i z l. satisfied-passes xs i (checks-satisfy (data_octets f bodies) (length-data f bodies) i (omega arith)))
      & both-met (spare_demands xs) (finds_none 9 (odd_body (bodies_in xs)) 0 4 ∷ []) (spares-clear f bodies cs a.within)
      ((λ n z l. ap (λ (bs : List ℕ). odd_body bs n) bodies-back ∙ a.evens n (omega arith)) & tt)

  all-met : AllMet (read_demands packet 4)
  all-met =
      eq-eqb (length packet) 31 (length-packet xs long) & refl
      & both-met (word_demands packet) (octet_demands (octets_of packet)) words-met (subst (λ (os : List ℕ). AllMet (octet_demands os)) (sym octets) octets-met)

  packet-read : read_answer packet 4 ≡ accepted (f, bodies)
  packet-read =
      reads packet all-met
      ∙ ap₂ (λ (g : ℕ) (os : List ℕ). accepted (fields_in g os, bodies_in os)) (group-named f bodies cs a.within long) octets
      ∙ ap₂ (λ (g : Fields) (bs : List ℕ). accepted (g, bs)) (fields_back f bodies cs a.within) bodies-back

-- ---- the promises, of the words that the writer leaves in 31 lent ones

module _ (f : Fields) (bodies old : List ℕ) (below : Below (2 ^ 32) bodies)
    (accepts : verdict (write_answer f bodies (length old)) ≡ accepted tt) where
  sound : Accepted f bodies
  sound = (packet-left f bodies old accepts).0

  left : words_written f bodies old ≡ packet f bodies below sound
  left = (packet-left f bodies old accepts).1 ∙ packet-of-octets f bodies

  -- the reader, given them and room for four bodies, gives the fields
  pub read-written : (room : List ℕ) → length room ≡ 4 → mapped fields_read (read_answer (words_written f bodies old) (length room)) ≡ accepted f
  read-written room h =
      ap₂ (λ (ws : List ℕ) (n : ℕ). mapped fields_read (read_answer ws n)) left h ∙ ap (mapped fields_read) (packet-read f bodies below sound)

  -- and leaves the bodies
  pub bodies-written : (room : List ℕ) → length room ≡ 4 → bodies_after (words_written f bodies old) room ≡ bodies
  bodies-written room h =
      ap₂ (λ (ws : List ℕ) (n : ℕ). after bodies_read (read_answer ws n) room) left h
      ∙ ap (λ (a : Answer (Fields × List ℕ)). after bodies_read a room) (packet-read f bodies below sound)
      ∙ whole bodies_read (f, bodies) room (sound.four ∙ sym h)

  -- word 3 is the DID that is listed for the group, word 5 the DC
  pub did-written : get_or (words_written f bodies old) 3 0 ≡ did f.group
  did-written =
      let p = packet f bodies below sound in
      let l = length-written f bodies in
      ap (λ (ws : List ℕ). get_or ws 3 0) left
      ∙ eqb-true (get_or p 3 0) _ (head-stands f bodies (check_octets (data_octets f bodies)) sound.within l).1.1.1.0
      ∙ ap did (group-named f bodies (check_octets (data_octets f bodies)) sound.within l)

  pub dc-written : get_or (words_written f bodies old) 5 0 ≡ dc
  dc-written =
      ap (λ (ws : List ℕ). get_or ws 5 0) left
      ∙ eqb-true (get_or (packet f bodies below sound) 5 0) dc
      (head-stands f bodies (check_octets (data_octets f bodies)) sound.within (length-written f bodies)).1.1.1.1.0
