-- The words of a packet and its octets: each gives the other. Assumes nothing.
use mathlib.Core.Path.{◌≡◌, refl, sym, ap, ◌∙◌}
use mathlib.Core.Bool.{true, false}
use mathlib.Core.List.{List, [], ◌∷◌, ◌++◌}
use Prim.Native.Nat.{ℕ, ◌+◌, ◌%◌, ◌^◌, ◌≤◌, ◌<◌}
use native.Mathlib.Omega.{arith}
use borrow.Author.Tests.{eq-eqb, eqb-true}
use lib.ListN.{length, get_or, take, drop, length-drop}
use lib.Seq.{get_or-drop}
use Rattle.bits.specs.Row.{Below}
use Rattle.answer.specs.Demand.{AllMet, ◌&◌}
use Rattle.anc.specs.Word.{word_of, parities, wide_at, wrong_at}
use Rattle.anc.specs.Head.{head_demands}
use Rattle.anc.specs.Enclosed.{words_by, values_by, enclosed, sum_stands}
use Rattle.anc.proofs.Heads.{Named, names}
use Rattle.anc.proofs.Enclosing.{parity-values, sum-enclosed, packet-narrow, packet-right, packet-back}
use Rattle.hd_packet.specs.Packet.{octets_of, coded_words, packet_of, dids, did, dc, group_of_did, packet_head, Ranges, data_octets}
use Rattle.hd_packet.specs.declared.Fields.{Fields}
use Rattle.hd_packet.proofs.PacketLaws.{octet-at, length-coded, packet-at}
use Rattle.hd_packet.proofs.Groups.{did-word, dc-word, did-group}
use Rattle.hd_packet.proofs.Laid.{did-here, dc-here}

-- ---- the words of any packet that is laid out of octets

module _ (xs : List ℕ) (h : length xs ≡ 30) (b : Below (2 ^ 8) xs) where
  abbrev octets : List ℕ
  octets = drop 3 xs

  many : length octets ≡ 27
  many = length-drop 3 xs ∙ omega arith

  fit : (i : ℕ) → i < 27 → get_or octets i 0 < 2 ^ 8
  fit i l = rw (get_or-drop 3 xs i 0) (b (3 + i))

  pub narrow : (k : ℕ) → k < 31 → wide_at (packet_of xs) k ≡ false
  unfolding packet_of coded_words
  narrow = packet-narrow parities octets 27 many fit

  pub right-words : (k : ℕ) → 3 ≤ k → k < 30 → wrong_at parities (packet_of xs) k ≡ false
  unfolding packet_of coded_words
  right-words = packet-right parities octets 27 many fit

  pub right-sum : sum_stands 27 (packet_of xs) ≡ true
  unfolding packet_of
  right-sum = sum-enclosed (coded_words xs) 27 (length-coded xs h)

-- ---- the head of a packet of fields and bodies

module _ (f : Fields) (bodies cs : List ℕ) (r : Ranges f) (h : length (data_octets f bodies ++ cs) ≡ 30) where
  abbrev packet : List ℕ
  packet = packet_of (data_octets f bodies ++ cs)

  word-3 : get_or packet 3 0 ≡ did f.group
  word-3 =
      packet-at (data_octets f bodies ++ cs) h 3 (omega arith) (omega arith)
      ∙ ap word_of (did-here f bodies cs) ∙ did-word f.group r.some r.four

  word-5 : get_or packet 5 0 ≡ dc
  word-5 =
      packet-at (data_octets f bodies ++ cs) h 5 (omega arith) (omega arith) ∙ ap word_of (dc-here f bodies cs) ∙ dc-word

  pub group-named : group_of_did (get_or packet 3 0) ≡ f.group
  group-named = ap group_of_did word-3 ∙ did-group f.group r.some r.four

  pub head-stands : AllMet (head_demands (packet_head packet) packet)
  unfolding packet_of
  head-stands =
      refl & refl & refl & eq-eqb (get_or packet 3 0) _ (word-3 ∙ ap did (sym group-named)) & eq-eqb (get_or packet 5 0) dc word-5 & tt

-- ---- words that are right are those of the packet of their octets

-- octets 3 to 29 are the values of words 3 to 29
values : (words : List ℕ) → 3 ≤ length words → drop 3 (octets_of words) ≡ values_by parities 3 (take 27 (drop 3 words))
unfolding octets_of
values [] h = absurd (omega arith)
values (a ∷ []) h = absurd (omega arith)
values (a ∷ b ∷ []) h = absurd (omega arith)
values (a ∷ b ∷ c ∷ words) h = sym (parity-values 3 (take 27 words))

module _ (words : List ℕ) (long : length words ≡ 31) (ten : (k : ℕ) → k < 31 → wide_at words k ≡ false)
    (head : AllMet (head_demands (packet_head words) words)) (worded : (k : ℕ) → 3 ≤ k → k < 30 → wrong_at parities words k ≡ false)
    (summed : sum_stands 27 words ≡ true) where
  abbrev os : List ℕ
  os = octets_of words

  pub same-words : packet_of os ≡ words
  unfolding packet_of coded_words
  same-words =
      ap (λ (vs : List ℕ). enclosed (words_by parities 3 vs)) (values words (omega (arith, long)))
      ∙ packet-back parities 27 words long ten (eqb-true (get_or words 0 0) 0 head.0) (eqb-true (get_or words 1 0) 0x3FF head.1.0)
      (eqb-true (get_or words 2 0) 0x3FF head.1.1.0) worded summed

  -- the group that is named, and the head's octets
  pub group-read : Named dids (get_or words 3 0) (group_of_did (get_or words 3 0))
  group-read = names dids (get_or words 3 0) (omega arith) head.1.1.1.0

  octet-is : (k w : ℕ) → k < 30 → get_or words k 0 ≡ w → get_or os k 0 ≡ w % 2 ^ 8
  octet-is k w l q = octet-at words k (omega (arith, long)) l ∙ ap (λ (x : ℕ). x % 2 ^ 8) q

  pub head-octets : AllMet (head_demands ((0, 0x00) ∷ (1, 0xFF) ∷ (2, 0xFF) ∷ (3, did (group_of_did (get_or words 3 0)) % 2 ^ 8)
      ∷ (5, dc % 2 ^ 8) ∷ []) os)
  head-octets =
      eq-eqb _ _ (octet-is 0 0x000 (omega arith) (eqb-true (get_or words 0 0) 0 head.0))
      & eq-eqb _ _ (octet-is 1 0x3FF (omega arith) (eqb-true (get_or words 1 0) 0x3FF head.1.0))
      & eq-eqb _ _ (octet-is 2 0x3FF (omega arith) (eqb-true (get_or words 2 0) 0x3FF head.1.1.0))
      & eq-eqb _ _ (octet-is 3 (did (group_of_did (get_or words 3 0))) (omega arith) (eqb-true (get_or words 3 0) _ head.1.1.1.0))
      & eq-eqb _ _ (octet-is 5 dc (omega arith) (eqb-true (get_or words 5 0) dc head.1.1.1.1.0)) & tt
