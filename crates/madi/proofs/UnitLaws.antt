-- Units in a row: the first of them, their length, what they give, and that a row is units in one way only. Assumes
-- nothing.
use mathlib.Core.Path.{◌≡◌, refl, sym, ap, ap₂, ◌∙◌}
use mathlib.Core.List.{List, [], ◌∷◌, ◌++◌, map, append_assoc, append-nil}
use mathlib.Core.Bool.{true}
use Prim.Native.Nat.{ℕ, suc, ◌+◌, ◌/◌, ◌^◌, ◌<◌}
use native.Mathlib.Nat.{mod-eq_of_lt}
use native.Mathlib.Omega.{arith}
use lib.ListN.{length, take, drop, length-append}
use lib.Seq.{drop-drop, drop_at, take_at}
use Rattle.bits.specs.Row.{Row, bit, count, big}
use Rattle.bits.specs.Window.{part, window}
use Rattle.bits.specs.Cross.{across}
use Rattle.bits.proofs.Digits.{digit-odd}
use Rattle.bits.proofs.Rows.{length-big_bits, big-big_bits}
use Rattle.bits.proofs.Windows.{part-all, part-drop}
use Rattle.bits.proofs.Chains.{part-first}
use Rattle.madi_code.specs.Frame.{boundary, numbered}
use Rattle.madi_code.specs.Groups.{command_code, command_row, command_of}
use Rattle.madi_code.specs.Channels.{channel_row, channel_of}
use Rattle.std.specs.Prelude.{Ok}
use Rattle.madi_code.proofs.GroupLaws.{command-small, command-back}
use Rattle.madi_code.proofs.FrameLaws.{numbered-at, numbered-all}
use Rattle.madi_code.proofs.ChannelLaws.{length-channel, channel-back, channel-no-command}
use Rattle.madi_read.specs.Reader.{Frame, with_command, with_channel, cleared}
use Rattle.madi.specs.Units.{Part, units_row, channels_in, commands_in, with_units, Placed, Lawful}
use Rattle.madi.specs.Units.Part.{channel, command}

-- ---- the first unit of a row

pub length-command : (c : ℕ) → length (command_row c) ≡ 10
length-command c = length-big_bits 10 (command_code c)

-- the n bits of it, and the rest
pub first_part : (r row rest : Row) (at n : ℕ) → length row ≡ n → drop at r ≡ row ++ rest → (part r at n ≡ row) × (drop (at + n) r ≡ rest)
first_part r row rest at n h e =
    let p : at + 0 ≡ at = omega arith in (
      ap (λ (k : ℕ). part r k n) (sym p) ∙ sym (part-drop r at 0 n) ∙ ap (λ (x : Row). part x 0 n) e
          ∙ part-first row rest 0 n (omega arith) ∙ part-all row n h,
      sym (drop-drop n at r) ∙ ap (drop n) e ∙ drop_at row rest n h,
    )

-- ten bits of a command are it
pub command-window : (c : ℕ) → c < 16 → command_of (big (command_row c)) ≡ c
command-window c h = ap command_of (big-big_bits 10 (command_code c) ∙ mod-eq_of_lt (command-small c)) ∙ command-back c h

-- ---- their length

pub units-length : (us : List Part) → length (units_row us) ≡ boundary (length (channels_in us)) (length (commands_in us))
unfolding units_row channels_in commands_in
units-length [] = refl
units-length (channel w ∷ us) = omega (arith, length-append (channel_row w) (units_row us), length-channel w, units-length us)
units-length (command c ∷ us) = omega (arith, length-append (command_row c) (units_row us), length-command c, units-length us)

-- ---- what they give

pub units-words : (us : List Part) (f : Frame) → (with_units us f).words ≡ f.words ++ map cleared (channels_in us)
unfolding with_units channels_in
units-words [] f = sym (append-nil f.words)
units-words (channel w ∷ us) f = units-words us (with_channel w f) ∙ append_assoc f.words (cleared w ∷ []) (map cleared (channels_in us))
units-words (command c ∷ us) f = units-words us (with_command c f)

pub units-commands : (us : List Part) (f : Frame) → (with_units us f).commands ≡ f.commands ++ commands_in us
unfolding with_units commands_in
units-commands [] f = sym (append-nil f.commands)
units-commands (channel w ∷ us) f = units-commands us (with_channel w f)
units-commands (command c ∷ us) f = units-commands us (with_command c f) ∙ append_assoc f.commands (c ∷ []) (commands_in us)

pub units-active : (us : List Part) (f : Frame) → (with_units us f).active ≡ f.active + count (across 1 (channels_in us))
unfolding with_units channels_in across count
units-active [] f = omega arith
units-active (channel w ∷ us) f = omega (arith, units-active us (with_channel w f), digit-odd (w / 2))
units-active (command c ∷ us) f = units-active us (with_command c f)

-- ---- a row is units in one way only

-- words of 32 bits and commands of table 6
abbrev Known : List Part → Type 0
Known [] = Unit {0}
Known (channel w ∷ us) = (w < 2 ^ 32) × Known us
Known (command c ∷ us) = (c < 16) × Known us

known : (n active : ℕ) (us : List Part) → Placed n active (channels_in us) → numbered (commands_in us) ≡ true → Known us
unfolding Placed channels_in commands_in
known n active [] q e = tt
known n active (channel w ∷ us) q e = (q.3, known (n + 1) (active + bit 1 w) us q.4 e)
known n active (command c ∷ us) q e =
    let cs = commands_in us in
    (numbered-at (c ∷ cs) e 0 (omega arith), known n active us q (numbered-all cs (λ k h. numbered-at (c ∷ cs) e (suc k) (omega arith))))

-- the first n bits of two equal rows, and what follows them
cut : (n : ℕ) (a b r s : Row) → length a ≡ n → length b ≡ n → a ++ r ≡ b ++ s → (a ≡ b) × (r ≡ s)
cut n a b r s ha hb e =
    (sym (take_at a r n ha) ∙ ap (take n) e ∙ take_at b s n hb, sym (drop_at a r n ha) ∙ ap (drop n) e ∙ drop_at b s n hb)

same_word : (w v : ℕ) → w < 2 ^ 32 → v < 2 ^ 32 → channel_row w ≡ channel_row v → w ≡ v
same_word w v hw hv e =
    let q : Ok w ≡ Ok v = sym (channel-back w hw) ∙ ap channel_of e ∙ channel-back v hv in
    cc

same-command : (c d : ℕ) → c < 16 → d < 16 → command_row c ≡ command_row d → c ≡ d
same-command c d hc hd e = sym (command-window c hc) ∙ ap (λ (x : Row). command_of (big x)) e ∙ command-window d hd

-- a channel begins with no command
apart : (w c : ℕ) (r s : Row) → c < 16 → channel_row w ++ r ≡ command_row c ++ s → ⊥
unfolding window
apart w c r s h e =
    let ten : part (channel_row w) 0 10 ≡ command_row c =
    sym (part-first (channel_row w) r 0 10 (omega (arith, length-channel w))) ∙ ap (λ (x : Row). part x 0 10) e
    ∙ part-first (command_row c) s 0 10 (omega (arith, length-command c)) ∙ part-all (command_row c) 10 (length-command c) in
    let none : command_of (big (part (channel_row w) 0 10)) ≡ 16 = channel-no-command w in
    omega (arith, sym (command-window c h) ∙ sym (ap (λ (x : Row). command_of (big x)) ten) ∙ none)

nothing-else : (a r : Row) (n : ℕ) → length a ≡ suc n → [] ≡ a ++ r → ⊥
nothing-else a r n h e = omega (arith, ap length e ∙ length-append a r)

one_way : (us vs : List Part) → Known us → Known vs → units_row us ≡ units_row vs → us ≡ vs
unfolding units_row
one_way [] [] p q e = refl
one_way [] (channel v ∷ vs) p q e = absurd (nothing-else (channel_row v) (units_row vs) 39 (length-channel v) e)
one_way [] (command d ∷ vs) p q e = absurd (nothing-else (command_row d) (units_row vs) 9 (length-command d) e)
one_way (channel w ∷ us) [] p q e = absurd (nothing-else (channel_row w) (units_row us) 39 (length-channel w) (sym e))
one_way (command c ∷ us) [] p q e = absurd (nothing-else (command_row c) (units_row us) 9 (length-command c) (sym e))
one_way (channel w ∷ us) (channel v ∷ vs) p q e =
    let s = cut 40 (channel_row w) (channel_row v) (units_row us) (units_row vs) (length-channel w) (length-channel v) e in
    ap₂ (λ (x : ℕ) (xs : List Part). channel x ∷ xs) (same_word w v p.0 q.0 s.0) (one_way us vs p.1 q.1 s.1)
one_way (command c ∷ us) (command d ∷ vs) p q e =
    let s = cut 10 (command_row c) (command_row d) (units_row us) (units_row vs) (length-command c) (length-command d) e in
    ap₂ (λ (x : ℕ) (xs : List Part). command x ∷ xs) (same-command c d p.0 q.0 s.0) (one_way us vs p.1 q.1 s.1)
one_way (channel w ∷ us) (command d ∷ vs) p q e = absurd (apart w d (units_row us) (units_row vs) q.0 e)
one_way (command c ∷ us) (channel v ∷ vs) p q e = absurd (apart v c (units_row vs) (units_row us) p.0 (sym e))

-- frames whose bits agree have the same units
pub one-frame : (channels : ℕ) (us vs : List Part) → Lawful channels us → Lawful channels vs → units_row us ≡ units_row vs → us ≡ vs
one-frame channels us vs p q e = one_way us vs (known 0 0 us p.placed p.named) (known 0 0 vs q.placed q.named) e
