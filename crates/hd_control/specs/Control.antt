-- The HD audio control packet (BT.1365, section 6): 18 ten-bit words, 000h 3FFh 3FFh, DID, DBN 200h, DC 10Bh, UDW0 to
-- UDW10, CS. Assumes nothing.
use Rattle.std.specs.Prelude.{ℕ, ◌+◌, ◌*◌, ◌/◌, ◌%◌, ◌^◌, Bool, not, ◌&&◌, List, [], ◌∷◌, ◌++◌, eqb, leb, ℤ, get_or}
use Rattle.bits.specs.Pick.{pick}
use Rattle.anc.specs.declared.B8.{B8}
use Rattle.anc.specs.declared.B8.TheVariants.{Parity, Value, Zero}
use Rattle.anc.specs.Head.{did_in, group_in, head_in}
use Rattle.anc.specs.Enclosed.{words_by, enclosed}
use Rattle.subframe.specs.Signed.{code_of, signed_of}
use Rattle.hd_control.specs.declared.Control.{Control}

-- DID of groups 1 to 4
abbrev pub control_dids : List ℕ
control_dids = 0x1E3 ∷ 0x2E2 ∷ 0x2E1 ∷ 0x1E0 ∷ []

abbrev pub control_dc : ℕ
control_dc = 0x10B

-- the words of the head and their values
abbrev pub control_head : List ℕ → List (ℕ × ℕ)
control_head words = head_in control_dids control_dc words

-- b8 is the parity in words 3 to 5 and 8 (the active channels), a bit of the value in 6 (the frame number) and 9 to 14
-- (the delays), and 0 in 7 (the rate), 15 and 16 (reserved)
abbrev pub rule_of : ℕ → B8
rule_of k =
    pick (leb k 5) Parity
    (pick (eqb k 6) Value (pick (eqb k 7) Zero (pick (eqb k 8) Parity (pick (leb k 14) Value Zero))))

-- ---- states that are not allowed

-- a frame number other than 0 in asynchronous use
abbrev pub misused : ℕ → ℕ → Bool
misused asynchronous frame = eqb asynchronous 1 && not (eqb frame 0)

-- rate codes 3 to 6
abbrev pub rate_reserved : ℕ → Bool
rate_reserved rate = leb 3 rate && leb rate 6

-- ---- writing

-- e and then the 26 bits of a delay, lowest first
abbrev pub delay_number : ℕ → ℤ → ℕ
delay_number valid delay = valid + code_of 26 delay * 2

-- nine bits of these to a word
abbrev pub delay_words : ℕ → List ℕ
delay_words d = d % 2 ^ 9 ∷ d / 2 ^ 9 % 2 ^ 9 ∷ d / 2 ^ 18 % 2 ^ 9 ∷ []

-- the values of words 3 to 16: DID, DBN 0, DC; the frame number; b0 asynchronous, b1 to b3 the rate code; b0 to b3 the
-- active channels; the delays of channels 1 and 2, and of 3 and 4; two that are reserved
unfoldable pub control_values : Control → List ℕ
control_values c =
    did_in control_dids c.group % 2 ^ 8 ∷ 0x00 ∷ control_dc % 2 ^ 8 ∷ c.frame ∷ (c.asynchronous + c.rate * 2) ∷ c.active
    ∷ (delay_words (delay_number c.valid12 c.delay12) ++ delay_words (delay_number c.valid34 c.delay34) ++ (0 ∷ 0 ∷ []))

unfoldable pub control_packet : Control → List ℕ
control_packet c = enclosed (words_by rule_of 3 (control_values c))

-- ---- and back

-- the 27 bits of the three words from word k on
unfoldable pub delay_at : List ℕ → ℕ → ℕ
delay_at words k =
    get_or words k 0 % 2 ^ 9 + get_or words (k + 1) 0 % 2 ^ 9 * 2 ^ 9 + get_or words (k + 2) 0 % 2 ^ 9 * 2 ^ 18

unfoldable pub control_in : List ℕ → Control
control_in words = record {
  group = group_in control_dids (get_or words 3 0);
  frame = get_or words 6 0 % 2 ^ 9;
  rate = get_or words 7 0 / 2 % 2 ^ 3;
  asynchronous = get_or words 7 0 % 2;
  active = get_or words 8 0 % 2 ^ 4;
  valid12 = delay_at words 9 % 2;
  delay12 = signed_of 26 (delay_at words 9 / 2);
  valid34 = delay_at words 12 % 2;
  delay34 = signed_of 26 (delay_at words 12 / 2);
}
