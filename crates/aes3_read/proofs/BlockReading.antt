-- The answer of a block's reader, from what decoding its line and filling its buffers gave. Assumes nothing.
use mathlib.Core.Path.{◌≡◌, refl, sym, ap, ap₂, ◌∙◌}
use mathlib.Core.Bool.{Bool, true, false}
use mathlib.Core.List.{List, [], ◌∷◌}
use Prim.Native.Nat.{ℕ}
use borrow.Author.Tests.{eq-eqb, eqb-true}
use lib.Dec.{eqb}
use lib.IntN.{ℤ}
use lib.ListN.{length}
use Rattle.bits.specs.Row.{digit}
use Rattle.answer.specs.Answer.{Answer, Answer.accepted, Answer.refused, mapped, after}
use Rattle.answer.specs.Demand.{Demand.asks, provided, Stops, ◌&◌}
use Rattle.answer.specs.Demand.Stops.{fails}
use Rattle.answer.proofs.Chains.{stopped, passing, passed}
use Rattle.answer.proofs.Residues.{whole}
use Rattle.block.specs.Side.{side_length}
use Rattle.block.specs.Block.{samples_of, side_of, block_filled}
use Rattle.block.specs.Check.{status_right}
use Rattle.block.proofs.BlockLaws.{length-samples, length-side, filling}
use Rattle.aes3_line.specs.Line.{bodies_on}
use Rattle.aes3_read.specs.Reader.{read_demands, read_answer, crccs}

-- ---- the answer

-- with the right lengths it goes by the subframes
pub by-line : (line : List ℕ) (samples side : ℕ) → length line ≡ 3072 → samples ≡ 384 → side ≡ side_length
    → read_answer line samples side ≡ bodies_on line
unfolding read_answer
by-line line samples side nl ns nt =
    passing (bodies_on line) (read_demands line samples side) (eq-eqb _ 3072 nl & eq-eqb _ 384 ns & eq-eqb _ side_length nt & tt)

-- what an accepted line says
pub record Received (line : List ℕ) (samples side : ℕ) (bodies : List ℕ) : Type 0 where
  pub octets : length line ≡ 3072
  pub samples-long : samples ≡ 384
  pub side-long : side ≡ side_length
  pub read : bodies_on line ≡ accepted bodies

pub received : (line : List ℕ) (samples side : ℕ) (bodies : List ℕ) → read_answer line samples side ≡ accepted bodies → Received line samples side bodies
unfolding read_answer
received line samples side bodies e =
    let p = passed (bodies_on line) (read_demands line samples side) bodies e in
    record {
      octets = eqb-true _ 3072 p.0.0;
      samples-long = eqb-true _ 384 p.0.1.0;
      side-long = eqb-true _ side_length p.0.1.1.0;
      read = p.1;
    }

-- ---- what is said, and what stands in the buffers

module _ (line : List ℕ) (samples : List ℤ) (side : List ℕ) where
  abbrev answer : Answer (List ℕ)
  answer = read_answer line (length samples) (length side)

  -- all three, at a return
  abbrev pub Shown : Answer (ℕ × ℕ) → List ℤ → List ℕ → Type 0
  Shown said s t = (said ≡ mapped crccs answer) × ((s ≡ after samples_of answer samples) × (t ≡ after side_of answer side))

  shows : (n p : ℕ) → answer ≡ refused n p → Shown (refused n p) samples side
  shows n p e = rw e (refl, (refl, refl))

  pub shows-stop : {n p : ℕ} → Stops (read_demands line (length samples) (length side)) n p → Shown (refused n p) samples side
  unfolding read_answer
  shows-stop {n} {p} s = shows n p (stopped (bodies_on line) s)

  module _ (nl : length line ≡ 3072) (ns : length samples ≡ 384) (nt : length side ≡ side_length) where
    pub shows-refused : (n p : ℕ) → refused n p ≡ bodies_on line → Shown (refused n p) samples side
    shows-refused n p e = shows n p (by-line line (length samples) (length side) nl ns nt ∙ sym e)

    pub shows-read : (bodies : List ℕ) (s : List ℤ) (t : List ℕ) (a b : ℕ) → length bodies ≡ 384 → accepted bodies ≡ bodies_on line
        → s ≡ after samples_of (block_filled bodies (length samples) (length side)) samples
        → t ≡ after side_of (block_filled bodies (length samples) (length side)) side
        → a ≡ digit (status_right t 0) → b ≡ digit (status_right t 1) → Shown (accepted (a, b)) s t
    shows-read bodies s t a b n e es et ea eb =
        let f = filling bodies samples side n ns nt in
        let q : t ≡ side_of bodies = et ∙ f.2 in
        rw (by-line line (length samples) (length side) nl ns nt, ← e) (
          ap₂ (λ (x y : ℕ). accepted (x, y)) (ea ∙ ap (λ (u : List ℕ). digit (status_right u 0)) q) (eb ∙ ap (λ (u : List ℕ). digit (status_right u 1)) q),
          (
            es ∙ f.1 ∙ sym (whole samples_of bodies samples (length-samples bodies ∙ sym ns)),
            q ∙ sym (whole side_of bodies side (length-side bodies ∙ sym nt)),
          ),
        )

-- ---- two lines of one length that hold the same bodies are answered alike

pub read_same : (a b : List ℕ) (samples side : ℕ) → length a ≡ length b → (length b ≡ 3072 → bodies_on a ≡ bodies_on b)
    → read_answer a samples side ≡ read_answer b samples side
unfolding read_answer
read_same a b samples side n same = rw n (go (eqb (length b) 3072) refl)
  where
    go : (u : Bool) → eqb (length b) 3072 ≡ u
        → provided (asks 1 0 u ∷ asks 1 0 (eqb samples 384) ∷ asks 1 0 (eqb side side_length) ∷ []) (bodies_on a)
        ≡ provided (asks 1 0 u ∷ asks 1 0 (eqb samples 384) ∷ asks 1 0 (eqb side side_length) ∷ []) (bodies_on b)
    go true q = rw (same (eqb-true (length b) 3072 q))
    go false q = stopped (bodies_on a) (fails refl) ∙ sym (stopped (bodies_on b) (fails refl))
