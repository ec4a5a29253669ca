-- `records::fill_words` meets its contract. Assumes nothing.
use mathlib.Core.Path.{◌≡◌, refl, sym, ap₂, ◌∙◌}
use mathlib.Core.List.{List}
use Prim.Native.Nat.{ℕ, ◌+◌, ◌*◌, ◌/◌, ◌%◌, ◌<◌}
use native.Mathlib.Omega.{arith}
use borrow.Author.Rules.{rules}
use lib.ListN.{length, get_or, set}
use Rattle.bits.proofs.Filling.{over, over-next, over-all}
use Rattle.records.specs.Record.{big_endian}
use Rattle.records.proofs.RecordLaws.{length-words, word_at, filled-words, unfilled}
use Rattle.records.proofs.fill_words.Goals as goal

-- one word more
word_more : (octets old : List ℕ) (i : ℕ) {words : List ℕ} {v : ℕ} → length octets ≡ length old * 2 → i < length old
    → words ≡ over i (big_endian octets) old → v ≡ get_or octets (i * 2) 0 * 256 + get_or octets (i * 2 + 1) 0
    → set words i v ≡ over (i + 1) (big_endian octets) old
word_more octets old i h l done e =
    ap₂ (λ (ws : List ℕ) (x : ℕ). set ws i x) done (e ∙ word_at (length old) octets i h l)
    ∙ over-next i (big_endian octets) old 0 (omega (arith, length-words (length old) octets h)) (omega arith)

-- octets that are not just so many
odd : (n m : ℕ) → (n % 2 ≡ 0 → ⊥) → n ≡ m * 2 → ⊥
odd n m h e = h (omega arith)

other : (n m : ℕ) → (n / 2 ≡ m → ⊥) → n ≡ m * 2 → ⊥
other n m h e = h (omega arith)

pub returns-then-octets-ne0 : goal.returns-then-octets-ne0
returns-then-octets-ne0 c =
    let a = c.args in
    sym (unfilled a.octets.now a.words.now (odd (length a.octets.now) (length a.words.now) c.if-octets-ne0.true))

pub returns-then-octets-words : goal.returns-then-octets-words
returns-then-octets-words c =
    let a = c.args in
    sym (unfilled a.octets.now a.words.now (other (length a.octets.now) (length a.words.now) c.if-octets-words.true))

pub loop-i-init : goal.loop-i-init
loop-i-init c = (omega (arith, c.if-octets-ne0.false, c.if-octets-words.false), search rules, search rules, refl)

pub loop-i-preserved : goal.loop-i-preserved
loop-i-preserved c = (
  c.loop-i.invariant.0,
  search rules,
  search rules,
  word_more c.args.octets.now c.args.words.now c.loop-i.i c.loop-i.invariant.0 (omega arith) c.loop-i.invariant.3 (omega (arith, c.from_be_bytes.ensures)),
)

pub returns : goal.returns
returns c =
    let l = c.loop-i in
    let a = c.args in
    l.invariant.3
    ∙ over-all l.i (big_endian a.octets.now) a.words.now
    (omega (arith, length-words (length a.words.now) a.octets.now l.invariant.0)) (omega arith)
    ∙ sym (filled-words a.octets.now a.words.now l.invariant.0)
