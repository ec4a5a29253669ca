-- The fields and bodies of a packet and words 0 to 23: each gives the other. Assumes nothing.
use mathlib.Core.Path.{◌≡◌, refl, sym, ap, ap₂, ◌∙◌}
use mathlib.Core.List.{List, [], ◌∷◌, ◌++◌}
use Prim.Native.Nat.{ℕ, zero, suc, ◌+◌, ◌*◌, ◌/◌, ◌%◌, ◌^◌, ◌≤◌, ◌<◌}
use native.Mathlib.Omega.{arith}
use borrow.Author.Tests.{eq-eqb, eqb-true}
use lib.Dec.{lit<}
use lib.ListN.{length, get_or, take, drop}
use lib.Seq.{drop-cons}
use Rattle.bits.specs.Row.{bit, Below}
use Rattle.answer.specs.Demand.{AllMet, ◌&◌}
use Rattle.anc.specs.Head.{head_demands}
use Rattle.hd_packet.specs.Packet.{did, dc, Ranges, channel_octets, with_z, data_octets, fields_in, body_at, bodies_in, spare_demands}
use Rattle.hd_packet.specs.declared.Fields.{Fields}
use Rattle.hd_packet.proofs.Channels.{below-append, channel-below, marked-below, plain_body, marked-body, marked, plain}

-- ---- the octets that are written

-- the four octets of a channel, one by one, before others
abbrev four-of : List ℕ → List ℕ → List ℕ
four-of w rest = get_or w 0 0 ∷ get_or w 1 0 ∷ get_or w 2 0 ∷ get_or w 3 0 ∷ rest

module _ (f : Fields) (bodies : List ℕ) where
  abbrev body : ℕ → ℕ
  body n = get_or bodies n 0

  pub length-data : length (data_octets f bodies) ≡ 24
  unfolding data_octets channel_octets
  length-data = refl

  -- word by word, from the octets of the channels
  pub data-octets : (w x y z : List ℕ) → w ≡ with_z f.z1 (channel_octets (body 0)) → x ≡ channel_octets (body 1)
      → y ≡ with_z f.z2 (channel_octets (body 2)) → z ≡ channel_octets (body 3)
      → 0x00 ∷ 0xFF ∷ 0xFF ∷ did f.group % 2 ^ 8 ∷ f.dbn ∷ dc % 2 ^ 8 ∷ f.phase % 2 ^ 8 ∷ (f.phase / 2 ^ 8 + f.ck12 * 2 ^ 4)
      ∷ four-of w (four-of x (four-of y (four-of z []))) ≡ data_octets f bodies
  unfolding data_octets channel_octets
  data-octets w x y z p q r s = rw (p, q, r, s)

  abbrev rest : List ℕ
  rest = with_z f.z1 (channel_octets (body 0)) ++ channel_octets (body 1) ++ with_z f.z2 (channel_octets (body 2)) ++ channel_octets (body 3)

  rest_below : f.z1 ≤ 1 → f.z2 ≤ 1 → Below (2 ^ 8) rest
  rest_below h1 h2 =
      below-append (with_z f.z1 (channel_octets (body 0)) ++ channel_octets (body 1) ++ with_z f.z2 (channel_octets (body 2)))
      (channel_octets (body 3))
      (below-append (with_z f.z1 (channel_octets (body 0)) ++ channel_octets (body 1)) (with_z f.z2 (channel_octets (body 2)))
      (below-append (with_z f.z1 (channel_octets (body 0))) (channel_octets (body 1)) (marked-below f.z1 (body 0) h1)
      (channel-below (body 1))) (marked-below f.z2 (body 2) h2)) (channel-below (body 3))

  pub data-below : Ranges f → Below (2 ^ 8) (data_octets f bodies)
  unfolding data_octets
  data-below r zero = lit< tt
  data-below r (suc zero) = lit< tt
  data-below r (suc (suc zero)) = lit< tt
  data-below r (suc (suc (suc zero))) = omega arith
  data-below r (suc (suc (suc (suc zero)))) = omega (arith, r.block)
  data-below r (suc (suc (suc (suc (suc zero))))) = lit< tt
  data-below r (suc (suc (suc (suc (suc (suc zero)))))) = omega arith
  data-below r (suc (suc (suc (suc (suc (suc (suc zero))))))) = omega (arith, r.clock, r.top)
  data-below r (suc (suc (suc (suc (suc (suc (suc (suc k)))))))) = rest_below r.first-pair r.second-pair k

  -- the head's, whatever follows
  module _ (cs : List ℕ) where
    abbrev xs : List ℕ
    xs = data_octets f bodies ++ cs

    pub adf-octets : AllMet (head_demands ((0, 0x00) ∷ (1, 0xFF) ∷ (2, 0xFF) ∷ []) xs)
    unfolding data_octets
    adf-octets = refl & refl & refl & tt

    pub did-here : get_or xs 3 0 ≡ did f.group % 2 ^ 8
    unfolding data_octets
    did-here = refl

    pub dc-here : get_or xs 5 0 ≡ dc % 2 ^ 8
    unfolding data_octets
    dc-here = refl

-- ---- read back

-- ck0 to ck12 in two octets, Z below four sample bits
module _ (phase ck12 : ℕ) (hp : phase ≤ 4095) (hc : ck12 ≤ 1) where
  spare-ck : (phase / 2 ^ 8 + ck12 * 2 ^ 4) / 2 ^ 5 % 2 ^ 3 ≡ 0
  spare-ck = omega arith

  phase-back : phase % 2 ^ 8 + (phase / 2 ^ 8 + ck12 * 2 ^ 4) % 2 ^ 4 * 2 ^ 8 ≡ phase
  phase-back =
      let f : (phase / 2 ^ 8 + ck12 * 2 ^ 4) % 2 ^ 4 ≡ phase / 2 ^ 8 = omega arith in
      rw f (omega arith)

  ck12-back : (phase / 2 ^ 8 + ck12 * 2 ^ 4) / 2 ^ 4 % 2 ≡ ck12
  ck12-back = omega arith

module _ (n z : ℕ) (hz : z ≤ 1) where
  spare-z : (n * 2 ^ 4 + z * 2 ^ 3) / 2 ^ 0 % 2 ^ 3 ≡ 0
  spare-z = omega arith

  z-back : (n * 2 ^ 4 + z * 2 ^ 3) / 2 ^ 3 % 2 ≡ z
  z-back = omega arith

four-list : (l : List ℕ) → length l ≡ 4 → get_or l 0 0 ∷ get_or l 1 0 ∷ get_or l 2 0 ∷ get_or l 3 0 ∷ [] ≡ l
four-list [] h = absurd (omega arith)
four-list (w ∷ []) h = absurd (omega arith)
four-list (w ∷ x ∷ []) h = absurd (omega arith)
four-list (w ∷ x ∷ y ∷ []) h = absurd (omega arith)
four-list (w ∷ x ∷ y ∷ z ∷ []) h = refl
four-list (w ∷ x ∷ y ∷ z ∷ v ∷ l) h = absurd (omega arith)

module _ (f : Fields) (bodies cs : List ℕ) (r : Ranges f) where
  abbrev ys : List ℕ
  ys = data_octets f bodies ++ cs

  abbrev b : ℕ → ℕ
  b n = get_or bodies n 0

  pub fields_back : fields_in f.group ys ≡ f
  unfolding fields_in data_octets channel_octets
  fields_back =
      rw (
        phase-back f.phase f.ck12 r.clock r.top,
        ck12-back f.phase f.ck12 r.clock r.top,
        z-back (b 0 / 2 ^ 4 % 2 ^ 4) f.z1 r.first-pair,
        z-back (b 2 / 2 ^ 4 % 2 ^ 4) f.z2 r.second-pair,
      )

  pub spares-clear : AllMet (spare_demands ys)
  unfolding data_octets channel_octets
  spares-clear =
      eq-eqb _ 0 (spare-ck f.phase f.ck12 r.clock r.top) & eq-eqb _ 0 (spare-z (b 0 / 2 ^ 4 % 2 ^ 4) f.z1 r.first-pair)
      & eq-eqb (b 1 / 2 ^ 4 % 2 ^ 4 * 2 ^ 4 / 2 ^ 0 % 2 ^ 4) 0 (omega arith)
      & eq-eqb _ 0 (spare-z (b 2 / 2 ^ 4 % 2 ^ 4) f.z2 r.second-pair)
      & eq-eqb (b 3 / 2 ^ 4 % 2 ^ 4 * 2 ^ 4 / 2 ^ 0 % 2 ^ 4) 0 (omega arith) & tt

  pub bodies-back : Below (2 ^ 32) bodies → length bodies ≡ 4 → ((n : ℕ) → n < 4 → get_or bodies n 0 % 2 ^ 4 ≡ 0) → bodies_in ys ≡ bodies
  unfolding bodies_in body_at data_octets channel_octets
  bodies-back below four clear =
      ap₂ (λ (x : ℕ) (l : List ℕ). x ∷ l) (marked-body (b 0) (below 0) (clear 0 (omega arith)) f.z1 r.first-pair)
      (ap₂ (λ (x : ℕ) (l : List ℕ). x ∷ l) (plain_body (b 1) (below 1) (clear 1 (omega arith)))
      (ap₂ (λ (x : ℕ) (l : List ℕ). x ∷ l) (marked-body (b 2) (below 2) (clear 2 (omega arith)) f.z2 r.second-pair)
      (ap (λ (x : ℕ). x ∷ []) (plain_body (b 3) (below 3) (clear 3 (omega arith))))))
      ∙ four-list bodies four

-- the fields one by one
pub fields-of : (group : ℕ) (os : List ℕ)
    → ◌≡◌ {A = Fields} (record {
      group = group;
      dbn = get_or os 4 0;
      phase = get_or os 6 0 + get_or os 7 0 % 2 ^ 4 * 2 ^ 8;
      ck12 = bit 4 (get_or os 7 0);
      z1 = bit 3 (get_or os 8 0);
      z2 = bit 3 (get_or os 16 0);
    }) (fields_in group os)
unfolding fields_in
fields-of group os = refl

-- ---- written back

-- the first n octets from place k on, one by one
abbrev run : ℕ → ℕ → List ℕ → List ℕ
run zero k os = []
run (suc n) k os = get_or os k 0 ∷ run n (suc k) os

take-run : (n k : ℕ) (os : List ℕ) → k + n ≤ length os → take n (drop k os) ≡ run n k os
take-run zero k os h = refl
take-run (suc n) k os h =
    rw (drop-cons os k 0 (omega arith)) (ap (λ (l : List ℕ). get_or os k 0 ∷ l) (take-run n (suc k) os (omega arith)))

module _ (os : List ℕ) (long : length os ≡ 30) (small : Below (2 ^ 8) os) (clear : AllMet (spare_demands os)) where
  spare-7 : get_or os 7 0 / 2 ^ 5 ≡ 0
  spare-7 = omega (arith, eqb-true (get_or os 7 0 / 2 ^ 5 % 2 ^ 3) 0 clear.0, small 7)

  spare-8 : get_or os 8 0 % 2 ^ 3 ≡ 0
  spare-8 = omega (arith, eqb-true (get_or os 8 0 / 2 ^ 0 % 2 ^ 3) 0 clear.1.0)

  spare-12 : get_or os 12 0 % 2 ^ 4 ≡ 0
  spare-12 = omega (arith, eqb-true (get_or os 12 0 / 2 ^ 0 % 2 ^ 4) 0 clear.1.1.0)

  spare-16 : get_or os 16 0 % 2 ^ 3 ≡ 0
  spare-16 = omega (arith, eqb-true (get_or os 16 0 / 2 ^ 0 % 2 ^ 3) 0 clear.1.1.1.0)

  spare-20 : get_or os 20 0 % 2 ^ 4 ≡ 0
  spare-20 = omega (arith, eqb-true (get_or os 20 0 / 2 ^ 0 % 2 ^ 4) 0 clear.1.1.1.1.0)

  module _ (group : ℕ) where
    abbrev phase : ℕ
    phase = get_or os 6 0 + get_or os 7 0 % 2 ^ 4 * 2 ^ 8

    low-ck : phase % 2 ^ 8 ≡ get_or os 6 0
    low-ck = omega (arith, small 6)

    high-ck : phase / 2 ^ 8 + bit 4 (get_or os 7 0) * 2 ^ 4 ≡ get_or os 7 0
    high-ck =
        let h : phase / 2 ^ 8 ≡ get_or os 7 0 % 2 ^ 4 = omega (arith, small 6) in
        rw h (omega (arith, small 7, spare-7))

    -- the fields that are read stand in their ranges
    pub read-ranges : 1 ≤ group → group ≤ 4 → Ranges (fields_in group os)
    unfolding fields_in
    read-ranges s l = record {
      some = s;
      four = l;
      block = omega (arith, small 4);
      clock = omega (arith, small 6);
      top = omega arith;
      first-pair = omega arith;
      second-pair = omega arith;
    }

    -- and give the octets again
    pub data-back : AllMet (head_demands ((0, 0x00) ∷ (1, 0xFF) ∷ (2, 0xFF) ∷ (3, did group % 2 ^ 8) ∷ (5, dc % 2 ^ 8) ∷ []) os)
        → data_octets (fields_in group os) (bodies_in os) ≡ take 24 os
    unfolding data_octets fields_in bodies_in
    data-back head =
        ap (λ (l : List ℕ). 0x00 ∷ 0xFF ∷ 0xFF ∷ did group % 2 ^ 8 ∷ get_or os 4 0 ∷ dc % 2 ^ 8 ∷ phase % 2 ^ 8
        ∷ (phase / 2 ^ 8 + bit 4 (get_or os 7 0) * 2 ^ 4) ∷ l)
        (ap₂ ◌++◌ (ap₂ ◌++◌ (ap₂ ◌++◌ (marked os small 8 spare-8) (plain os small 12 spare-12)) (marked os small 16 spare-16))
        (plain os small 20 spare-20))
        ∙ first-eight (run 16 8 os) ∙ sym (take-run 24 0 os (omega (arith, long)))
      where
        first-eight : (rest : List ℕ)
            → 0x00 ∷ 0xFF ∷ 0xFF ∷ did group % 2 ^ 8 ∷ get_or os 4 0 ∷ dc % 2 ^ 8 ∷ phase % 2 ^ 8
            ∷ (phase / 2 ^ 8 + bit 4 (get_or os 7 0) * 2 ^ 4) ∷ rest
            ≡ get_or os 0 0 ∷ get_or os 1 0 ∷ get_or os 2 0 ∷ get_or os 3 0 ∷ get_or os 4 0 ∷ get_or os 5 0 ∷ get_or os 6 0 ∷ get_or os 7 0 ∷ rest
        first-eight rest =
            rw (
              eqb-true (get_or os 0 0) 0x00 head.0,
              eqb-true (get_or os 1 0) 0xFF head.1.0,
              eqb-true (get_or os 2 0) 0xFF head.1.1.0,
              eqb-true (get_or os 3 0) (did group % 2 ^ 8) head.1.1.1.0,
              eqb-true (get_or os 5 0) (dc % 2 ^ 8) head.1.1.1.1.0,
              low-ck,
              high-ck,
            )
