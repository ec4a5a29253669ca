-- The eleven numbered examples of document 01: one list of what is given and what is stated, and one theorem over it, by computation over the definitions that the
-- contracts cite. Assumes nothing.
use mathlib.Core.Path.{◌≡◌, refl}
use Prim.Native.Nat.{ℕ, ◌+◌, ◌^◌}
use mathlib.Core.Bool.{true, false, xor}
use mathlib.Core.List.{List, [], ◌∷◌, map}
use lib.IntN.{ℤ, pos, negsuc}
use lib.ListN.{take, drop, replicate}
use Rattle.bits.specs.Pick.{first}
use Rattle.bits.specs.Row.{digit, bits, big_bits, count, little, big}
use Rattle.bits.specs.Window.{part}
use Rattle.bits.specs.Pack.{chain, pack, octets}
use Rattle.answer.specs.Answer.{told}
use Rattle.answer.specs.Demand.{provided}
use Rattle.line.specs.Preamble.{after_level}
use Rattle.line.specs.Biphase.{biphase, left}
use Rattle.subframe.specs.Body.{slots, parity_of, data_of, with_p, body_of, body_written}
use Rattle.codes.specs.Divide.{less, fed, through}
use Rattle.codes.specs.Crcc.{sent, stages_after, octet_of, crcc_of}
use Rattle.codes.specs.Lane.{lane_check}
use Rattle.aes3_line.specs.Subframe.{due, preamble, subframe}
use Rattle.anc.specs.Word.{opposed, word_of}
use Rattle.hd_packet.specs.Packet.{channel_octets, data_octets, coded_words, packet_of, odd_body}
use Rattle.hd_write.specs.Write.{in_ranges, low_body, packet_written, write_answer, words_written}
use Rattle.lampcoil.specs.Told.{fields_lent}

-- number, place and body of a sample with V, U, C
abbrev body_told : ℤ → ℕ → ℕ → ℕ → List ℕ
body_told sample v u c =
    let t = told 0 (body_written sample v u c) in
    t.0 ∷ t.1 ∷ t.2 ∷ []

-- the body of sample +1
abbrev one : ℕ
one = (told 0 (body_written (pos 1) 0 0 0)).2

-- byte 23, its bits 0 to 7
abbrev byte23 : List ℕ → List ℕ
byte23 status = map digit (bits 8 (crcc_of status))

-- n words from UDWk on of the packet that is written with Z of the first pair and the body of channel 1; it is of group 1, and
-- all else is 0
abbrev udw : ℕ → ℕ → ℕ → ℕ → List ℕ
udw z body k n = take n (drop (6 + k) (words_written (fields_lent 1 0 0 0 z 0) (body ∷ 0 ∷ 0 ∷ 0 ∷ []) (replicate 31 0)))

-- what is given, and what document 01 states of it
abbrev pub examples : List (List ℕ × List ℕ)
examples =
    -- 1 to 4: samples +1, -1, -8,388,608, and 0 with V 1: accepted (0, at 0), and the body
    (body_told (pos 1) 0 0 0, 0 ∷ 0 ∷ 0x80000010 ∷ [])
    ∷ (body_told (negsuc 0) 0 0 0, 0 ∷ 0 ∷ 0x0FFFFFF0 ∷ [])
    ∷ (body_told (negsuc 8388607) 0 0 0, 0 ∷ 0 ∷ 0x88000000 ∷ [])
    ∷ (body_told (pos 0) 1 0 0, 0 ∷ 0 ∷ 0x90000000 ∷ [])
    -- 5 and 6: a silent X subframe after level 0 and after level 1
    ∷ (octets 8 (subframe 2 false 0), 0xE2 ∷ 0xCC ∷ 0xCC ∷ 0xCC ∷ 0xCC ∷ 0xCC ∷ 0xCC ∷ 0xCC ∷ [])
    ∷ (octets 8 (subframe 2 true 0), 0x1D ∷ 0x33 ∷ 0x33 ∷ 0x33 ∷ 0x33 ∷ 0x33 ∷ 0x33 ∷ 0x33 ∷ [])
    -- 7: sample +1 under Z after level 0
    ∷ (octets 8 (subframe 0 false one), 0xE8 ∷ 0xB3 ∷ 0x33 ∷ 0x33 ∷ 0x33 ∷ 0x33 ∷ 0x33 ∷ 0x32 ∷ [])
    -- 8: byte 0 bits 0, 2, 3, 4, 5, byte 1 bit 1, byte 4 bit 1; 9: byte 0 bit 0
    ∷ (byte23 (0b111101 ∷ 0b10 ∷ 0 ∷ 0 ∷ 0b10 ∷ replicate 19 0), 1 ∷ 1 ∷ 0 ∷ 1 ∷ 1 ∷ 0 ∷ 0 ∷ 1 ∷ [])
    ∷ (byte23 (0b1 ∷ replicate 23 0), 0 ∷ 1 ∷ 0 ∷ 0 ∷ 1 ∷ 1 ∷ 0 ∷ 0 ∷ [])
    -- 10: only the UDW17 place, x^5 + x^3 + x^2 + x + 1
    ∷ (lane_check (2 ^ 23) ∷ [], 0b101111 ∷ [])
    -- 11: sample +1 with Z in channel 1, UDW2 to UDW5
    ∷ (udw 1 one 2 4, 0x218 ∷ 0x200 ∷ 0x200 ∷ 0x180 ∷ [])
    ∷ []

pub eleven-examples : map (λ e. e.0) examples ≡ map (λ e. e.1) examples
unfolding bits big_bits count little big part chain pack first after_level biphase left slots parity_of data_of with_p body_of provided body_written less fed through sent stages_after octet_of crcc_of lane_check due preamble subframe opposed word_of channel_octets data_octets coded_words packet_of packet_written in_ranges low_body odd_body write_answer xor
eleven-examples = refl
