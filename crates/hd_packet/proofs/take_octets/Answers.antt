-- `hd_packet::take_octets` meets its contract: after k turns the first k octets are those of the words. Assumes nothing.
use mathlib.Core.Path.{◌≡◌, sym, ap, ap₂, ◌∙◌}
use mathlib.Core.List.{List}
use Prim.Native.Nat.{ℕ, ◌+◌, ◌%◌, ◌^◌, ◌≤◌, ◌<◌}
use native.Mathlib.Omega.{arith}
use borrow.Author.Tests.{eq-eqb, ne_eqb, le-leb, lt-leb}
use lib.ListN.{length, get_or, set}
use Rattle.bits.proofs.Filling.{over, over-next, over-all, length_over}
use Rattle.hd_packet.specs.Packet.{octets_of}
use Rattle.hd_packet.specs.Inner.{octets_taken}
use Rattle.hd_packet.proofs.PacketLaws.{length-octets, octet-at}
use Rattle.hd_packet.proofs.take_octets.Goals as goal
use Rattle.hd_packet.proofs.take_octets.Goals.{At-loop-k, then-words-lt30-via-then-words-lt30, then-words-lt30-via-else-words-lt30+then-octets-ne30}

module _ (c : At-loop-k) where
  abbrev ws : List ℕ
  ws = c.args.words.now

  abbrev old : List ℕ
  old = c.args.octets.now

  abbrev k : ℕ
  k = c.loop-k.k

  wide : 30 ≤ length ws
  wide = c.if-words-lt30.false

  room : length old ≡ 30
  room = c.if-octets-ne30.false

  long : length c.loop-k.octets ≡ length old
  long = ap length c.loop-k.invariant.1 ∙ length_over k (octets_of ws) old (omega (arith, length-octets ws wide)) (omega (arith, room))

  next : k < 30 → set c.loop-k.octets k (get_or ws k 0 % 2 ^ 8) ≡ over (k + 1) (octets_of ws) old
  next h =
      ap₂ (λ (l : List ℕ) (o : ℕ). set l k o) c.loop-k.invariant.1 (sym (octet-at ws k wide h))
      ∙ over-next k (octets_of ws) old 0 (omega (arith, length-octets ws wide)) (omega (arith, room))

  done : 30 ≤ k → c.loop-k.octets ≡ octets_of ws
  done h = c.loop-k.invariant.1 ∙ over-all k (octets_of ws) old (omega (arith, length-octets ws wide)) (omega (arith, room))

pub returns-then-words-lt30 : goal.returns-then-words-lt30
unfolding octets_taken
returns-then-words-lt30 c =
    elim c.then-words-lt30.branch [
      | then-words-lt30-via-then-words-lt30 w ↦ simp (lt-leb _ _ w.if-words-lt30.true)
      | then-words-lt30-via-else-words-lt30+then-octets-ne30 w ↦ simp (le-leb _ _ w.if-words-lt30.false, ne_eqb _ _ w.if-octets-ne30.true)
    ]

pub bounds-octets-k : goal.bounds-octets-k
bounds-octets-k c = omega (arith, long (goal.at.bounds-octets-k c).At-loop-k, room (goal.at.bounds-octets-k c).At-loop-k)

pub loop-k-preserved : goal.loop-k-preserved
loop-k-preserved c = (omega arith, next (goal.at.loop-k-preserved c).At-loop-k (omega arith))

pub shape_of-octets : goal.shape_of-octets
shape_of-octets c = long (goal.at.shape_of-octets c).At-loop-k

pub returns : goal.returns
unfolding octets_taken
returns c =
    let p = (goal.at.returns c).At-loop-k in
    simp (le-leb _ _ (wide p), eq-eqb _ _ (room p)) (done p (omega (arith, c.loop-k-test.false, room p)))
