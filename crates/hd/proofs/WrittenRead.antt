-- Writing back an accepted packet, with the bodies that the reader leaves, gives the same 31 words. Assumes nothing.
use mathlib.Core.Path.{◌≡◌, sym, ap, ap₂, ◌∙◌, subst}
use mathlib.Core.Bool.{false}
use mathlib.Core.List.{List, [], ◌∷◌, ◌++◌}
use Prim.Native.Nat.{ℕ, ◌+◌, ◌*◌, ◌%◌, ◌^◌, ◌≤◌, ◌<◌}
use native.Mathlib.Omega.{arith}
use borrow.Author.Tests.{eqb-true}
use lib.ListN.{length, get_or, take, take-append-drop}
use Rattle.bits.specs.Row.{Below}
use Rattle.answer.specs.Answer.{Answer, Answer.accepted, mapped, verdict, after, rewritten}
use Rattle.answer.specs.Demand.{Demand.asks, Demand.finds_none, AllMet}
use Rattle.answer.proofs.Chains.{value_of, parts-met}
use Rattle.answer.proofs.Residues.{whole}
use Rattle.anc.specs.Word.{parities, wide_at, wrong_at}
use Rattle.anc.specs.Head.{head_demands}
use Rattle.anc.specs.Enclosed.{sum_stands}
use Rattle.codes.specs.Lanes.{check_octets}
use Rattle.codes.proofs.CheckLaws.{satisfied-checks}
use Rattle.codes.proofs.RepairedLanes.{passes-satisfied}
use Rattle.hd_packet.specs.Packet.{octets_of, packet_of, group_of_did, packet_head, data_octets, fields_in, bodies_in, spare_demands, odd_body}
use Rattle.hd_packet.specs.declared.Fields.{Fields}
use Rattle.hd_packet.proofs.PacketLaws.{length-octets, octets-below}
use Rattle.hd_packet.proofs.Channels.{body-in, body-low, four-bodies}
use Rattle.hd_packet.proofs.Laid.{read-ranges, data-back}
use Rattle.hd_packet.proofs.Words.{same-words, group-read, head-octets}
use Rattle.hd_write.specs.Write.{low_body, write_answer, packet_written, words_written}
use Rattle.hd_write.proofs.WriteLaws.{low-false, packet-of-octets, packet-size, Accepted, accepting, accepts}
use Rattle.hd_read.specs.Read.{word_demands, octet_demands, read_demands, read_answer, fields_read, bodies_read, bodies_after}
use Rattle.hd_read.proofs.ReadLaws.{read-met}

module _ (words : List ℕ) (met : AllMet (read_demands words 4)) where
  abbrev os : List ℕ
  os = octets_of words

  abbrev group : ℕ
  group = group_of_did (get_or words 3 0)

  abbrev f : Fields
  f = fields_in group os

  -- ---- what the demands say

  halves : AllMet (word_demands words) × AllMet (octet_demands os)
  halves = parts-met (word_demands words) (octet_demands os) met.1.1

  of_words : AllMet (head_demands (packet_head words) words) × AllMet (finds_none 14 (wrong_at parities words) 3 27 ∷ asks 16 30 (sum_stands 27 words) ∷ [])
  of_words =
      parts-met (head_demands (packet_head words) words) (finds_none 14 (wrong_at parities words) 3 27 ∷ asks 16 30 (sum_stands 27 words) ∷ []) halves.0.1

  of-octets : AllMet (spare_demands os) × AllMet (finds_none 9 (odd_body (bodies_in os)) 0 4 ∷ [])
  of-octets = parts-met (spare_demands os) (finds_none 9 (odd_body (bodies_in os)) 0 4 ∷ []) halves.1.1

  long : length words ≡ 31
  long = eqb-true (length words) 31 met.0

  ten : (k : ℕ) → k < 31 → wide_at words k ≡ false
  ten k l = halves.0.0 k (omega arith) (omega (arith, long))

  worded : (k : ℕ) → 3 ≤ k → k < 30 → wrong_at parities words k ≡ false
  worded k q l = of_words.1.0 k q (omega arith)

  os-long : length os ≡ 30
  os-long = length-octets words (omega (arith, long))

  small : Below (2 ^ 8) os
  small = octets-below words (omega (arith, long))

  -- ---- their octets are those that are written

  octets-back : data_octets f (bodies_in os) ++ check_octets (data_octets f (bodies_in os)) ≡ os
  octets-back =
      ap (λ (l : List ℕ). l ++ check_octets l)
      (data-back os os-long small of-octets.0 group (head-octets words long ten of_words.0 worded of_words.1.1.0))
      ∙ ap (λ (l : List ℕ). take 24 os ++ l)
      (sym (satisfied-checks os os-long small (λ i l. passes-satisfied os i (halves.1.0 i (omega arith) (omega arith)))))
      ∙ take-append-drop 24 os

  -- ---- and the writer accepts

  clear : (n : ℕ) → n < 4 → low_body (bodies_in os) n ≡ false
  clear n l = low-false (bodies_in os) n (ap (λ (b : ℕ). b % 16) (body-in os n l) ∙ body-low os (8 + 4 * n))

  ok : Accepted f (bodies_in os)
  ok =
      let g = group-read words long ten of_words.0 worded of_words.1.1.0 in
      record {
        four = four-bodies os;
        within = read-ranges os os-long small of-octets.0 group g.some g.few;
        evens = λ n l. of-octets.1.0 n (omega arith) (omega arith);
        clear = clear;
      }

  same-packet : packet_written f (bodies_in os) ≡ words
  same-packet =
      packet-of-octets f (bodies_in os) ∙ ap packet_of octets-back ∙ same-words words long ten of_words.0 worded of_words.1.1.0

  writes-back : write_answer f (bodies_in os) 31 ≡ accepted words
  writes-back = accepts f (bodies_in os) ok ∙ ap accepted same-packet

-- ---- the promises, of the bodies that the reader leaves in four lent ones

module _ (words room : List ℕ) (f : Fields) (accepts : mapped fields_read (read_answer words (length room)) ≡ accepted f) where
  reading : (v : Fields × List ℕ) × (read_answer words (length room) ≡ accepted v) × (fields_read v ≡ f)
  reading = value_of fields_read (read_answer words (length room)) accepts

  four : length room ≡ 4
  four = eqb-true (length room) 4 (read-met words (length room) reading.0 reading.1).0.1.0

  written : write_answer f (bodies_after words room) 31 ≡ accepted words
  written =
      let m = read-met words (length room) reading.0 reading.1 in
      let same : fields_in (group_of_did (get_or words 3 0)) (octets_of words) ≡ f = ap fields_read m.1 ∙ reading.2 in
      let left : bodies_after words room ≡ bodies_in (octets_of words) =
      ap (λ (a : Answer (Fields × List ℕ)). after bodies_read a room) (reading.1 ∙ ap accepted (sym m.1))
      ∙ whole bodies_read (fields_in (group_of_did (get_or words 3 0)) (octets_of words), bodies_in (octets_of words)) room
      (four-bodies (octets_of words) ∙ sym four) in
      ap₂ (λ (g : Fields) (bs : List ℕ). write_answer g bs 31) (sym same) left
      ∙ writes-back words (subst (λ (n : ℕ). AllMet (read_demands words n)) four m.0)

  -- the writer, given the fields, those bodies and room for 31 words, accepts
  pub written_read : (old : List ℕ) → length old ≡ 31 → verdict (write_answer f (bodies_after words room) (length old)) ≡ accepted tt
  written_read old h = ap (λ (n : ℕ). verdict (write_answer f (bodies_after words room) n)) h ∙ ap verdict written

  -- and leaves the same 31 words
  pub words_back : (old : List ℕ) → length old ≡ 31 → words_written f (bodies_after words room) old ≡ words
  words_back old h =
      ap (λ (n : ℕ). rewritten (write_answer f (bodies_after words room) n) old) h ∙ ap (λ (a : Answer (List ℕ)). rewritten a old) written
      ∙ whole (λ (ws : List ℕ). ws) words old (ap length (sym (accepting f (bodies_after words room) 31 written).1) ∙ packet-size f (bodies_after words room) ∙ sym h)
