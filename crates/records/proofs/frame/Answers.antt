-- `records::frame` meets its contract. Assumes nothing.
use mathlib.Core.Path.{◌≡◌, refl, sym, ap, ◌∙◌}
use Rattle.std.specs.Prelude.{Result}
use Rattle.std.proofs.lemmas.Result.{err_from_is_err_and}
use Rattle.answer.specs.declared.Refusal.{Refusal}
use Rattle.madi_read.specs.declared.Counts.{Counts}
use mathlib.Core.List.{List}
use Prim.Native.Nat.{ℕ, ◌+◌, ◌*◌, ◌≤◌}
use native.Mathlib.Omega.{arith}
use borrow.Author.Rules.{rules}
use borrow.Author.Tests.{lt-leb, le-leb}
use lib.ListN.{length, get_or, drop}
use lib.Seq.{length-take-le}
use Rattle.answer.specs.Answer.{mapped}
use Rattle.answer.specs.Demand.{◌&◌}
use Rattle.answer.specs.Demand.Stops.{fails}
use Rattle.answer.proofs.Chains.{passing, stopped}
use Rattle.madi_read.specs.Reader.{frame_read, counts_of, frame_said}
use Rattle.records.specs.Record.{frame_content, frame_demands, frame_record}
use Rattle.records.proofs.RecordLaws.{to_the_end}
use Rattle.records.proofs.frame.Goals as goal
use Rattle.records.proofs.frame.Goals.{After-read_frame}

-- the frame of numbers that the code took out of the octets
framed : (s : List ℕ) {a l b n m : ℕ} {line : List ℕ} → 4 ≤ length s → a ≡ get_or s 0 0 → l ≡ get_or s 1 0
    → b ≡ get_or s 2 0 * 256 + get_or s 3 0 → line ≡ drop 4 s → n ≡ a → m ≡ 255 → mapped frame_content (mapped counts_of (frame_read a l b line n m)) ≡ frame_record s
unfolding frame_record
framed s h ea el eb ed en em =
    rw (en, ea, el, eb, ed, em) (sym (passing _ (frame_demands s) (le-leb 4 (length s) h & tt)))

pub returns-then-octets-lt4 : goal.returns-then-octets-lt4
unfolding frame_record
returns-then-octets-lt4 c = sym (stopped _ (fails (lt-leb _ _ c.if-octets-lt4.true)))

pub slice_bounds-read_frame-end-2 : goal.slice_bounds-read_frame-end-2
slice_bounds-read_frame-end-2 c = sym (length-take-le _ _ (search rules))

module _ (c : After-read_frame) where
  abbrev s : List ℕ
  s = c.args.octets.now

  read : mapped frame_content (frame_said c.read_frame.result) ≡ frame_record s
  read =
      ap (mapped frame_content) c.read_frame.ensures.result_value
      ∙ framed s c.if-octets-lt4.false c.from.ensures c.from-2.ensures (c.from-3.ensures ∙ omega (arith, c.from_be_bytes-bits.ensures)) (to_the_end 4 s)
      (length-take-le _ _ (search rules) ∙ c.from-4.ensures ∙ sym c.from.ensures) refl

pub returns-in_err-counts : goal.returns-in_err-counts
returns-in_err-counts c =
    let p = err_from_is_err_and c.from_residual.result c.from_residual.ensures.1 in
    rw (p.1, p.2)
    (ap (λ (r : Result Counts Refusal). mapped frame_content (frame_said r)) (sym c.in_err-counts.was) ∙ read (goal.at.returns-in_err-counts c).After-read_frame)

pub returns : goal.returns
returns c =
    ap (λ (r : Result Counts Refusal). mapped frame_content (frame_said r)) (sym c.in_ok-counts.was) ∙ read (goal.at.returns c).After-read_frame
