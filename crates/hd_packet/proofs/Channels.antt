-- A channel's four octets and its body: each gives the other. Assumes nothing.
use mathlib.Core.Path.{◌≡◌, refl, ap, ◌∙◌}
use mathlib.Core.Bool.{true, false, not}
use mathlib.Core.List.{List, [], ◌∷◌, ◌++◌}
use Prim.Native.Nat.{ℕ, zero, suc, ◌+◌, ◌*◌, ◌/◌, ◌%◌, ◌^◌, ◌≤◌, ◌<◌}
use native.Mathlib.Nat.{add-zero}
use native.Mathlib.Omega.{arith}
use borrow.Author.Tests.{eq-eqb, ne_eqb, eqb-true, not-false}
use mir.Syntax.{w32}
use lib.Dec.{lit<}
use lib.Pow.{high, low, shl-shr}
use lib.ListN.{length, get_or}
use Rattle.std.specs.Int.{from_le_bytes}
use Rattle.bits.specs.Row.{bit, Below}
use Rattle.subframe.specs.Body.{parity_of, even_body}
use Rattle.hd_packet.specs.Packet.{channel_octets, with_z, body_at, bodies_in, odd_body}

-- ---- octets of a body

pub below-append : (xs ys : List ℕ) → Below (2 ^ 8) xs → Below (2 ^ 8) ys → Below (2 ^ 8) (xs ++ ys)
below-append [] ys b c i = c i
below-append (x ∷ xs) ys b c zero = b zero
below-append (x ∷ xs) ys b c (suc i) = below-append xs ys (λ j. b (suc j)) c i

below-cons : (x : ℕ) (xs : List ℕ) → x < 2 ^ 8 → Below (2 ^ 8) xs → Below (2 ^ 8) (x ∷ xs)
below-cons x xs h b zero = h
below-cons x xs h b (suc i) = b i

below-nil : Below (2 ^ 8) []
below-nil i = lit< tt

pub channel-below : (body : ℕ) → Below (2 ^ 8) (channel_octets body)
unfolding channel_octets
channel-below body =
    below-cons (body / 2 ^ 4 % 2 ^ 4 * 2 ^ 4) (body / 2 ^ 8 % 2 ^ 8 ∷ body / 2 ^ 16 % 2 ^ 8 ∷ body / 2 ^ 24 % 2 ^ 8 ∷ []) (omega arith)
    (below-cons (body / 2 ^ 8 % 2 ^ 8) (body / 2 ^ 16 % 2 ^ 8 ∷ body / 2 ^ 24 % 2 ^ 8 ∷ []) (omega arith)
    (below-cons (body / 2 ^ 16 % 2 ^ 8) (body / 2 ^ 24 % 2 ^ 8 ∷ []) (omega arith) (below-cons (body / 2 ^ 24 % 2 ^ 8) [] (omega arith) below-nil)))

pub marked-below : (z body : ℕ) → z ≤ 1 → Below (2 ^ 8) (with_z z (channel_octets body))
unfolding channel_octets
marked-below z body h zero = omega arith
marked-below z body h (suc i) = channel-below body (suc i)

-- the octets as they are written
pub channel-octets : (body z : ℕ)
    → (body / 2 ^ 4 % 2 ^ 4 * 2 ^ 4 + z * 2 ^ 3) ∷ body / 2 ^ 8 % 2 ^ 8 ∷ body / 2 ^ 16 % 2 ^ 8 ∷ body / 2 ^ 24 % 2 ^ 8 ∷ []
    ≡ with_z z (channel_octets body)
unfolding channel_octets
channel-octets body z = refl

-- a channel without Z
pub no-z : (b : ℕ) → with_z 0 (channel_octets b) ≡ channel_octets b
unfolding channel_octets
no-z b = rw add-zero

-- ---- the body of octets

pub body-lt : (os : List ℕ) (k : ℕ) → Below (2 ^ 8) os → body_at os k < 2 ^ 32
unfolding body_at
body-lt os k b = omega (arith, b k, b (k + 1), b (k + 2), b (k + 3))

pub body-low : (os : List ℕ) (k : ℕ) → body_at os k % 2 ^ 4 ≡ 0
unfolding body_at
body-low os k = omega arith

-- the number of its four octets without its low four bits
pub body_of : (os : List ℕ) (k n : ℕ)
    → n ≡ from_le_bytes w32 (get_or os k 0 ∷ get_or os (k + 1) 0 ∷ get_or os (k + 2) 0 ∷ get_or os (k + 3) 0 ∷ []) → n / 16 * 16 ≡ body_at os k
unfolding body_at
body_of os k n e = omega arith

-- channel n, from octet 8 + 4 n on
pub body-in : (os : List ℕ) (n : ℕ) → n < 4 → get_or (bodies_in os) n 0 ≡ body_at os (8 + 4 * n)
unfolding bodies_in
body-in os zero h = refl
body-in os (suc zero) h = refl
body-in os (suc (suc zero)) h = refl
body-in os (suc (suc (suc zero))) h = refl
body-in os (suc (suc (suc (suc n)))) h = absurd (omega arith)

-- the bodies one by one
pub bodies-of : (os : List ℕ) → body_at os 8 ∷ body_at os 12 ∷ body_at os 16 ∷ body_at os 20 ∷ [] ≡ bodies_in os
unfolding bodies_in
bodies-of os = refl

pub four-bodies : (os : List ℕ) → length (bodies_in os) ≡ 4
unfolding bodies_in
four-bodies os = refl

-- ---- the body of its own octets

joined : (body q r t u s0 s1 s2 : ℕ) → body ≡ q * 16 → q ≡ r * 16 + s0 → r ≡ t * 256 + s1 → t ≡ u * 256 + s2
    → s0 * 16 + s1 * 256 + s2 * 65536 + u * 16777216 ≡ body
joined body q r t u s0 s1 s2 hq hr ht hu = omega arith

module _ (body : ℕ) (h : body < 2 ^ 32) (e : body % 2 ^ 4 ≡ 0) where
  top : body / 2 ^ 24 % 2 ^ 8 ≡ body / 2 ^ 24
  top = omega arith

  whole : body / 2 ^ 4 % 2 ^ 4 * 2 ^ 4 + body / 2 ^ 8 % 2 ^ 8 * 2 ^ 8 + body / 2 ^ 16 % 2 ^ 8 * 2 ^ 16 + body / 2 ^ 24 % 2 ^ 8 * 2 ^ 24 ≡ body
  whole =
      rw top
      (joined body (body / 2 ^ 4) (body / 2 ^ 8) (body / 2 ^ 16) (body / 2 ^ 24) (body / 2 ^ 4 % 2 ^ 4) (body / 2 ^ 8 % 2 ^ 8)
      (body / 2 ^ 16 % 2 ^ 8) (omega arith) (omega arith) (omega arith) (omega arith))

  pub plain_body : body / 2 ^ 4 % 2 ^ 4 * 2 ^ 4 / 2 ^ 4 * 2 ^ 4 + body / 2 ^ 8 % 2 ^ 8 * 2 ^ 8 + body / 2 ^ 16 % 2 ^ 8 * 2 ^ 16
      + body / 2 ^ 24 % 2 ^ 8 * 2 ^ 24 ≡ body
  plain_body =
      let f : body / 2 ^ 4 % 2 ^ 4 * 2 ^ 4 / 2 ^ 4 ≡ body / 2 ^ 4 % 2 ^ 4 = shl-shr (body / 2 ^ 4 % 2 ^ 4) 4 in
      rw f whole

  pub marked-body : (z : ℕ) → z ≤ 1 → (body / 2 ^ 4 % 2 ^ 4 * 2 ^ 4 + z * 2 ^ 3) / 2 ^ 4 * 2 ^ 4 + body / 2 ^ 8 % 2 ^ 8 * 2 ^ 8
      + body / 2 ^ 16 % 2 ^ 8 * 2 ^ 16 + body / 2 ^ 24 % 2 ^ 8 * 2 ^ 24 ≡ body
  marked-body z hz =
      let f : (body / 2 ^ 4 % 2 ^ 4 * 2 ^ 4 + z * 2 ^ 3) / 2 ^ 4 ≡ body / 2 ^ 4 % 2 ^ 4 = high (body / 2 ^ 4 % 2 ^ 4) 4 (omega arith) in
      rw f whole

-- ---- the octets of their own body

module _ (q o1 o2 o3 : ℕ) (hq : q < 2 ^ 4) (h1 : o1 < 2 ^ 8) (h2 : o2 < 2 ^ 8) (h3 : o3 < 2 ^ 8) where
  abbrev body : ℕ
  body = q * 2 ^ 4 + o1 * 2 ^ 8 + o2 * 2 ^ 16 + o3 * 2 ^ 24

  low-4 : body / 2 ^ 4 % 2 ^ 4 ≡ q
  low-4 =
      let e : body / 2 ^ 4 ≡ (o1 + o2 * 2 ^ 8 + o3 * 2 ^ 16) * 2 ^ 4 + q = omega arith in
      rw e (low (o1 + o2 * 2 ^ 8 + o3 * 2 ^ 16) 4 hq)

  next-8 : body / 2 ^ 8 % 2 ^ 8 ≡ o1
  next-8 =
      let e : body / 2 ^ 8 ≡ (o2 + o3 * 2 ^ 8) * 2 ^ 8 + o1 = omega arith in
      rw e (low (o2 + o3 * 2 ^ 8) 8 h1)

  then-8 : body / 2 ^ 16 % 2 ^ 8 ≡ o2
  then-8 =
      let e : body / 2 ^ 16 ≡ o3 * 2 ^ 8 + o2 = omega arith in
      rw e (low o3 8 h2)

  last-8 : body / 2 ^ 24 % 2 ^ 8 ≡ o3
  last-8 =
      let e : body / 2 ^ 24 ≡ o3 = omega arith in
      rw e (omega arith)

  channel-back : channel_octets body ≡ q * 2 ^ 4 ∷ o1 ∷ o2 ∷ o3 ∷ []
  unfolding channel_octets
  channel-back = rw (low-4, next-8, then-8, last-8)

module _ (os : List ℕ) (b : Below (2 ^ 8) os) (k : ℕ) where
  -- a channel with Z, and one without
  pub marked : get_or os k 0 % 2 ^ 3 ≡ 0
      → with_z (bit 3 (get_or os k 0)) (channel_octets (body_at os k))
      ≡ get_or os k 0 ∷ get_or os (k + 1) 0 ∷ get_or os (k + 2) 0 ∷ get_or os (k + 3) 0 ∷ []
  unfolding body_at
  marked z =
      let w : get_or os k 0 / 2 ^ 4 * 2 ^ 4 + bit 3 (get_or os k 0) * 2 ^ 3 ≡ get_or os k 0 = omega (arith, b k) in
      ap (with_z (bit 3 (get_or os k 0)))
      (channel-back (get_or os k 0 / 2 ^ 4) (get_or os (k + 1) 0) (get_or os (k + 2) 0) (get_or os (k + 3) 0) (omega (arith, b k)) (b (k + 1))
      (b (k + 2)) (b (k + 3)))
      ∙ ap (λ (x : ℕ). x ∷ get_or os (k + 1) 0 ∷ get_or os (k + 2) 0 ∷ get_or os (k + 3) 0 ∷ []) w

  pub plain : get_or os k 0 % 2 ^ 4 ≡ 0
      → channel_octets (body_at os k) ≡ get_or os k 0 ∷ get_or os (k + 1) 0 ∷ get_or os (k + 2) 0 ∷ get_or os (k + 3) 0 ∷ []
  unfolding body_at
  plain z =
      let w : get_or os k 0 / 2 ^ 4 * 2 ^ 4 ≡ get_or os k 0 = omega (arith, b k) in
      channel-back (get_or os k 0 / 2 ^ 4) (get_or os (k + 1) 0) (get_or os (k + 2) 0) (get_or os (k + 3) 0) (omega (arith, b k)) (b (k + 1))
      (b (k + 2)) (b (k + 3))
      ∙ ap (λ (x : ℕ). x ∷ get_or os (k + 1) 0 ∷ get_or os (k + 2) 0 ∷ get_or os (k + 3) 0 ∷ []) w

-- ---- odd bodies

module _ (bodies : List ℕ) (n : ℕ) where
  pub odd-not-even : odd_body bodies n ≡ not (even_body (get_or bodies n 0))
  unfolding odd_body
  odd-not-even = refl

  pub odd-found : (parity_of (get_or bodies n 0) ≡ 0 → ⊥) → odd_body bodies n ≡ true
  unfolding odd_body
  odd-found e = ap not (ne_eqb (parity_of (get_or bodies n 0)) 0 e)

  pub even-passes : parity_of (get_or bodies n 0) ≡ 0 → odd_body bodies n ≡ false
  unfolding odd_body
  even-passes e = ap not (eq-eqb (parity_of (get_or bodies n 0)) 0 e)

  pub passes-even : odd_body bodies n ≡ false → parity_of (get_or bodies n 0) ≡ 0
  unfolding odd_body
  passes-even e = eqb-true (parity_of (get_or bodies n 0)) 0 (not-false (even_body (get_or bodies n 0)) e)
