-- A frame whose commands all come last is its channels and then its commands. Assumes nothing.
use mathlib.Core.Path.{◌≡◌, refl, sym, ap, ap₂, ◌∙◌}
use mathlib.Core.Bool.{Bool, true, false, ◌&&◌}
use mathlib.Core.List.{List, [], ◌∷◌, ◌++◌, append_assoc}
use Prim.Native.Nat.{ℕ, suc, ◌+◌, ◌*◌, ◌<◌}
use native.Mathlib.Omega.{arith}
use borrow.Author.Tests.{leb-true, leb-false, le-leb, lt-leb, lt-ltb}
use lib.Dec.{ltb, leb}
use lib.ListN.{length, length-append}
use Rattle.bits.specs.Row.{Row, big}
use Rattle.bits.specs.Window.{part, window}
use Rattle.bits.specs.Pack.{chain}
use Rattle.bits.proofs.Tests.{no-yes}
use Rattle.bits.proofs.Windows.{part-all}
use Rattle.bits.proofs.Chains.{part-first, part-second}
use Rattle.madi_code.specs.Frame.{numbered}
use Rattle.madi_code.specs.Groups.{command_row, command_of}
use Rattle.madi_code.specs.Channels.{channel_row}
use Rattle.madi_code.proofs.FrameLaws.{numbered-at, numbered-all}
use Rattle.madi_code.proofs.ChannelLaws.{length-channel}
use Rattle.madi_read.specs.Reader.{is_command}
use Rattle.madi.specs.Units.{Part, units_row, channels_in, commands_in, CommandsLast}
use Rattle.madi.specs.Units.Part.{channel, command}
use Rattle.madi.proofs.UnitLaws.{length-command, command-window}

-- a command stands at the start
starts : (c : ℕ) (r : Row) → c < 16 → is_command (command_row c ++ r) (40 * 0) ≡ true
unfolding window
starts c r h =
    let e : command_of (big (part (command_row c ++ r) 0 10)) ≡ c =
    ap (λ (x : Row). command_of (big x)) (part-first (command_row c) r 0 10 (omega (arith, length-command c)) ∙ part-all (command_row c) 10 (length-command c))
    ∙ command-window c h in
    rw (le-leb 10 (length (command_row c ++ r)) (omega (arith, length-append (command_row c) r, length-command c)), e, lt-ltb c 16 h)

-- after a channel
later : (w : ℕ) (r : Row) (n : ℕ) → is_command (channel_row w ++ r) (40 * (n + 1)) ≡ is_command r (40 * n)
unfolding window
later w r n =
    let p : 40 * (n + 1) ≡ 40 + 40 * n = omega arith in
    let l : length (channel_row w ++ r) ≡ 40 + length r = length-append (channel_row w) r ∙ ap (λ (x : ℕ). x + length r) (length-channel w) in
    ap₂ (λ (x y : Bool). x && y)
    (ap₂ (λ (x y : ℕ). leb (x + 10) y) p l ∙ shift (40 * n) (length r))
    (ap (λ (x : ℕ). ltb (command_of x) 16) (ap (λ (q : ℕ). big (part (channel_row w ++ r) q 10)) p ∙ ap big (part-second (channel_row w) r 40 (40 * n) 10 (length-channel w))))
  where
    shift : (a b : ℕ) → leb (40 + a + 10) (40 + b) ≡ leb (a + 10) b
    shift a b = go (leb (a + 10) b) refl
      where
        go : (t : Bool) → leb (a + 10) b ≡ t → leb (40 + a + 10) (40 + b) ≡ t
        go true e = le-leb (40 + a + 10) (40 + b) (omega (arith, leb-true (a + 10) b e))
        go false e = lt-leb (40 + a + 10) (40 + b) (omega (arith, leb-false (a + 10) b e))

abbrev pub Row-of : List ℕ → List ℕ → Row
Row-of ws cs = chain channel_row ws ++ chain command_row cs

after-command : (c : ℕ) (r : Row) (ws cs : List ℕ) → c < 16 → (CommandsLast (length ws) r → r ≡ Row-of ws cs)
    → CommandsLast (length ws) (command_row c ++ r) → command_row c ++ r ≡ Row-of ws (c ∷ cs)
unfolding chain
after-command c r [] cs h on last = ap (λ (x : Row). command_row c ++ x) (on (λ n l. absurd (omega arith)))
after-command c r (w ∷ ws) cs h on last = no-yes (is_command (command_row c ++ r) (40 * 0)) (last 0 (omega arith)) (starts c r h)

after-channel : (w : ℕ) (r : Row) (ws cs : List ℕ) → (CommandsLast (length ws) r → r ≡ Row-of ws cs)
    → CommandsLast (suc (length ws)) (channel_row w ++ r) → channel_row w ++ r ≡ Row-of (w ∷ ws) cs
unfolding chain
after-channel w r ws cs on last =
    ap (λ (x : Row). channel_row w ++ x) (on (λ n h. sym (later w r n) ∙ last (n + 1) (omega arith)))
    ∙ sym (append_assoc (channel_row w) (chain channel_row ws) (chain command_row cs))

pub last_row : (us : List Part) → numbered (commands_in us) ≡ true → CommandsLast (length (channels_in us)) (units_row us)
    → units_row us ≡ Row-of (channels_in us) (commands_in us)
unfolding units_row channels_in commands_in chain
last_row [] named last = refl
last_row (channel w ∷ us) named last = after-channel w (units_row us) (channels_in us) (commands_in us) (λ l. last_row us named l) last
last_row (command c ∷ us) named last =
    let cs = commands_in us in
    after-command c (units_row us) (channels_in us) cs (numbered-at (c ∷ cs) named 0 (omega arith))
    (λ l. last_row us (numbered-all cs (λ k h. numbered-at (c ∷ cs) named (suc k) (omega arith))) l) last
