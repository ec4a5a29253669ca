-- A frame's octets in blocks of five: the levels of a block, the octets of its levels, what is left after the last
-- whole block. Assumes nothing.
use mathlib.Core.Path.{◌≡◌, sym, ap, ap₂, ◌∙◌}
use mathlib.Core.List.{List}
use Prim.Native.Nat.{ℕ, suc, ◌+◌, ◌*◌, ◌-◌, ◌/◌, ◌%◌, ◌^◌, ◌≤◌, ◌<◌}
use native.Mathlib.Nat.{add-zero}
use native.Mathlib.Omega.{arith}
use lib.Bits.{bit_xor}
use lib.ListN.{length, get_or}
use lib.Pow.{pow_mono}
use Rattle.bits.specs.Row.{Row, odd, digit, big}
use Rattle.bits.specs.Window.{window}
use Rattle.bits.proofs.Digits.{digit-same}
use Rattle.bits.proofs.Xor.{against, against-twice, against-out}
use Rattle.bits.proofs.Windows.{window-lt, window-split, window-low, window-inside, window-past}
use Rattle.bits.proofs.Packing.{length-pack, get_or-pack}
use Rattle.line.specs.Nrzi.{levels}
use Rattle.line.proofs.NrziLaws.{length-levels, levels-window, before-later, before-first}
use Rattle.madi_code.specs.Frame.{boundary}
use Rattle.madi_write.specs.Writer.{frame_row, needed, frame_octets}
use Rattle.madi_write.specs.Inner.{commands_number, block_of, Levels, sent_levels}
use Rattle.madi_write.proofs.Frames.{length-frame, frame-commands, block-window}

-- ---- by doubling

doubled : (k x y : ℕ) → x ≡ against k y → bit_xor x (x / 2 ^ k) ≡ against (k + k) y
doubled k x y e = ap (against k) e ∙ against-twice k y

-- x against itself moved by 1, 2, 4 to 32
abbrev pub undone : ℕ → ℕ
undone x = against 32 (against 16 (against 8 (against 4 (against 2 (against 1 x)))))

pub levels-undone : (x : ℕ) → Levels x (undone x)
levels-undone x y h e =
    doubled 32 _ y (doubled 16 _ y (doubled 8 _ y (doubled 4 _ y (doubled 2 _ y (doubled 1 x y (sym e)))))) ∙ against-out 64 y h

-- ---- the level before a place, and the levels from there on

module _ (channels : ℕ) (words commands : List ℕ) (level : ℕ) where
  abbrev sent : Row
  sent = sent_levels channels words commands level

  pub first-level : level ≤ 1 → level ≡ window sent 0 1
  first-level h = sym (sym (before-first (odd level) (levels (odd level) (frame_row channels words commands)) 0) ∙ first)
    where
      first : digit (odd level) * 2 ^ 0 + window (levels (odd level) (frame_row channels words commands)) 0 0 ≡ level
      first = omega (arith, digit-same level (omega arith), window-lt (levels (odd level) (frame_row channels words commands)) 0 0)

  module _ (most : length words ≤ channels) where
    length-sent : length sent ≡ suc (boundary channels (length commands))
    length-sent = ap suc (length-levels (odd level) (frame_row channels words commands) ∙ length-frame channels words commands most)

    -- a whole block
    pub block-levels : (b last x y : ℕ) → 40 * b + 40 ≤ boundary channels (length commands) → last ≡ window sent (40 * b) 1 → x ≡ block_of channels words commands b
        → Levels (last * 2 ^ 40 + x) y → y ≡ window sent (40 * b) 41
    block-levels b last x y fits el ex f =
        f (window sent (40 * b) 41) (omega (arith, window-lt sent (40 * b) 41))
        (levels-window (odd level) (frame_row channels words commands) (40 * b) 40 (omega (arith, length-frame channels words commands most))
        ∙ ap₂ (λ (u v : ℕ). u * 2 ^ 40 + v) (sym el) (block-window channels words commands most b fits ∙ sym ex))

    pub next_level : (b y : ℕ) → y ≡ window sent (40 * b) 41 → y % 2 ≡ window sent (40 * (b + 1)) 1
    next_level b y e =
        let p : 40 * b + 40 ≡ 40 * (b + 1) = omega arith in
        ap (λ (x : ℕ). x % 2) e ∙ window-low sent (40 * b) 40 1 ∙ ap (λ (q : ℕ). window sent q 1) p

    -- the k commands after the last whole block, and zeros past the frame's end
    pub tail-levels : (b i k last y : ℕ) → 40 * b ≡ 40 * channels + 10 * i → i + k ≡ length commands → k < 4 → last ≡ window sent (40 * b) 1
        → Levels (last * 2 ^ (10 * k) + commands_number commands i k) y → y * 2 ^ (40 - 10 * k) ≡ window sent (40 * b) 41
    tail-levels b i k last y p whole few el f =
        let row : Row = frame_row channels words commands in
        let x : commands_number commands i k ≡ window row (40 * b) (10 * k) =
        sym (ap (λ (q : ℕ). window row q (10 * k)) p ∙ frame-commands channels words commands most i k (omega arith)) in
        let small : window sent (40 * b) (10 * k + 1) < 2 ^ 64 =
        omega (arith, window-lt sent (40 * b) (10 * k + 1), pow_mono {i = 10 * k + 1} {j = 64} (omega arith)) in
        let e : y ≡ window sent (40 * b) (10 * k + 1) =
        f (window sent (40 * b) (10 * k + 1)) small
        (levels-window (odd level) row (40 * b) (10 * k) (omega (arith, length-frame channels words commands most))
        ∙ ap₂ (λ (u v : ℕ). u * 2 ^ (10 * k) + v) (sym el) (sym x)) in
        let n : 41 ≡ 10 * k + 1 + (40 - 10 * k) = omega arith in
        let none : window sent (40 * b + (10 * k + 1)) (40 - 10 * k) ≡ 0 =
        window-past sent (40 * b + (10 * k + 1)) (40 - 10 * k) (omega (arith, length-sent)) in
        ap (λ (z : ℕ). z * 2 ^ (40 - 10 * k)) e
        ∙ sym (ap (window sent (40 * b)) n ∙ window-split sent (40 * b) (10 * k + 1) (40 - 10 * k) ∙ rw (none, add-zero))

    pub length-octets : length (frame_octets channels words commands level) ≡ needed channels (length commands)
    unfolding frame_octets
    length-octets = length-pack big 8 (needed channels (length commands)) (levels (odd level) (frame_row channels words commands))

    -- octet i of a block's levels
    pub octet-right : (b i y : ℕ) → 5 * b + i < needed channels (length commands) → i < 5 → y ≡ window sent (40 * b) 41
        → get_or (frame_octets channels words commands level) (5 * b + i) 0 ≡ y / 2 ^ (32 - 8 * i) % 256
    unfolding frame_octets window
    octet-right b i y fits hi e =
        let l : Row = levels (odd level) (frame_row channels words commands) in
        let p : (5 * b + i) * 8 ≡ 40 * b + 8 * i = omega arith in
        let q : 40 * b + 8 * i + 1 ≡ 40 * b + (1 + 8 * i) = omega arith in
        let m : 41 - (1 + 8 * i + 8) ≡ 32 - 8 * i = omega arith in
        get_or-pack big 8 (needed channels (length commands)) l (5 * b + i) fits ∙ ap (λ (at : ℕ). window l at 8) p ∙ before-later (odd level) l (40 * b + 8 * i) 8
        ∙ ap (λ (at : ℕ). window sent at 8) q
        ∙ sym (ap₂ (λ (x k : ℕ). x / 2 ^ k % 256) e (sym m) ∙ window-inside sent (40 * b) 41 (1 + 8 * i) 8 (omega arith))
