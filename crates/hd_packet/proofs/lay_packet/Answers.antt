-- `hd_packet::lay_packet` meets its contract: up to word k the words are the packet's. Assumes nothing.
use mathlib.Core.Path.{◌≡◌, sym, ap, ap₂, ◌∙◌}
use mathlib.Core.List.{List}
use Prim.Native.Nat.{ℕ, ◌+◌, ◌≤◌, ◌<◌}
use native.Mathlib.Omega.{arith}
use borrow.Author.Tests.{eq-eqb, ne_eqb}
use lib.ListN.{length, get_or, set, take, drop, length-set}
use Rattle.bits.proofs.Filling.{over, over-next, over-all, length_over}
use Rattle.anc.specs.Word.{word_of, check_word}
use Rattle.hd_packet.specs.Packet.{packet_of}
use Rattle.hd_packet.specs.Inner.{packet_laid}
use Rattle.hd_packet.proofs.PacketLaws.{length-packet, packet-at, packet-last, laid-coded, laid-three}
use Rattle.hd_packet.proofs.lay_packet.Goals as goal
use Rattle.hd_packet.proofs.lay_packet.Goals.{At-loop-k, then-octets-ne30-via-then-octets-ne30, then-octets-ne30-via-else-octets-ne30+then-words-ne31}

module _ (c : At-loop-k) where
  abbrev os : List ℕ
  os = c.args.octets.now

  -- what stood there, with the ADF
  abbrev old : List ℕ
  old = set (set (set c.args.words.now 0 0) 1 1023) 2 1023

  abbrev k : ℕ
  k = c.loop-k.k

  thirty : length os ≡ 30
  thirty = c.if-octets-ne30.false

  room : length old ≡ 31
  room = simp length-set c.if-words-ne31.false

  new-length : length (packet_of os) ≡ 31
  new-length = length-packet os thirty

  long : length c.loop-k.words ≡ 31
  long = ap length c.loop-k.invariant.2 ∙ length_over k (packet_of os) old (omega (arith, new-length)) (omega (arith, room)) ∙ room

  next : (v : ℕ) → k < 30 → v ≡ word_of (get_or os k 0) → set c.loop-k.words k v ≡ over (k + 1) (packet_of os) old
  next v h e =
      ap₂ (λ (l : List ℕ) (o : ℕ). set l k o) c.loop-k.invariant.2 (e ∙ sym (packet-at os thirty k c.loop-k.invariant.0 h))
      ∙ over-next k (packet_of os) old 0 (omega (arith, new-length)) (omega (arith, room))

  last : (v : ℕ) → 30 ≤ k → v ≡ check_word (take 27 (drop 3 c.loop-k.words)) → set c.loop-k.words 30 v ≡ packet_of os
  last v h e =
      let q : k ≡ 30 = omega (arith, c.loop-k.invariant.1) in
      let w : c.loop-k.words ≡ over 30 (packet_of os) old = c.loop-k.invariant.2 ∙ ap (λ (t : ℕ). over t (packet_of os) old) q in
      ap₂ (λ (l : List ℕ) (o : ℕ). set l 30 o) w
      (e ∙ ap check_word (ap (λ (l : List ℕ). take 27 (drop 3 l)) w ∙ laid-coded os thirty old) ∙ sym (packet-last os thirty))
      ∙ over-next 30 (packet_of os) old 0 (omega (arith, new-length)) (omega (arith, room))
      ∙ over-all 31 (packet_of os) old (omega (arith, new-length)) (omega (arith, room))

pub returns-then-octets-ne30 : goal.returns-then-octets-ne30
unfolding packet_laid
returns-then-octets-ne30 c =
    elim c.then-octets-ne30.branch [
      | then-octets-ne30-via-then-octets-ne30 w ↦ simp (ne_eqb _ _ w.if-octets-ne30.true)
      | then-octets-ne30-via-else-octets-ne30+then-words-ne31 w ↦ simp (eq-eqb _ _ w.if-octets-ne30.false, ne_eqb _ _ w.if-words-ne31.true)
    ]

pub bounds-words-1 : goal.bounds-words-1
bounds-words-1 c = simp length-set (omega (arith, c.if-words-ne31.false))

pub bounds-words-2 : goal.bounds-words-2
bounds-words-2 c = simp length-set (omega (arith, c.if-words-ne31.false))

pub loop-k-init : goal.loop-k-init
loop-k-init c = (omega arith, omega arith, laid-three c.args.octets.now c.args.words.now c.if-words-ne31.false)

pub bounds-words-k : goal.bounds-words-k
bounds-words-k c = omega (arith, long (goal.at.bounds-words-k c).At-loop-k)

pub loop-k-preserved : goal.loop-k-preserved
loop-k-preserved c = (omega arith, omega arith, next (goal.at.loop-k-preserved c).At-loop-k c.word.result c.loop-k-test.true c.word.ensures)

pub slice_bounds-check_word-end : goal.slice_bounds-check_word-end
slice_bounds-check_word-end c = omega (arith, long (goal.at.slice_bounds-check_word-end c).At-loop-k)

pub bounds-words-30 : goal.bounds-words-30
bounds-words-30 c = omega (arith, long (goal.at.bounds-words-30 c).At-loop-k)

pub shape_of-words : goal.shape_of-words
shape_of-words c =
    let p = (goal.at.shape_of-words c).At-loop-k in
    length-set p.loop-k.words 30 c.check_word.result ∙ long p ∙ sym p.if-words-ne31.false

pub returns : goal.returns
unfolding packet_laid
returns c =
    let p = (goal.at.returns c).At-loop-k in
    simp (eq-eqb _ _ (thirty p), eq-eqb _ _ p.if-words-ne31.false)
    (last p c.check_word.result c.loop-k-test.false c.check_word.ensures)
