-- `madi_read::walk` meets its contract: what is left to read is what the definition has left. Assumes nothing.
use mathlib.Core.Path.{◌≡◌, sym, ap, ◌∙◌, subst}
use mathlib.Core.List.{List, [], ◌∷◌, ◌++◌}
use Prim.Native.Nat.{ℕ, ◌+◌, ◌-◌, ◌/◌, ◌%◌, ◌^◌, ◌≤◌, ◌<◌}
use native.Mathlib.Numerals.{add-one}
use native.Mathlib.Omega.{arith}
use lib.ListN.{length, take, set, length-set, length-append}
use lib.Seq.{take-suc-set}
use Rattle.std.specs.Prelude.{Ok}
use Rattle.std.proofs.lemmas.Result.{err_from_is_err_and}
use Rattle.bits.specs.Row.{Row}
use Rattle.answer.specs.Answer.{Answer, Answer.accepted, Answer.refused, mapped}
use Rattle.answer.specs.Said.{said, number_of, place_of}
use Rattle.madi_code.specs.Frame.{boundary}
use Rattle.madi_read.specs.Reader.{Frame, cleared, at_start, onward, read_on, row_read, counts_of}
use Rattle.madi_read.specs.Inner.{sofar, row_of, frame_of, Fits, Held, Reached}
use Rattle.madi_read.specs.declared.Piece.{Piece}
use Rattle.madi_read.specs.declared.SoFar.{SoFar}
use Rattle.madi_read.specs.declared.Piece.TheVariants.{End, Command, Channel}
use Rattle.madi_read.proofs.Carrying.{length-carried}
use Rattle.madi_read.proofs.Copying.{length-listed, listed_next, listed_more}
use Rattle.madi_read.proofs.Walking.{Room, room, read_step, from_start}
use Rattle.madi_read.proofs.walk.Goals as goal
use Rattle.madi_read.proofs.walk.Goals.{After-piece_at}

-- ---- numbers, by themselves
fits-octet : (k : ℕ) → k < 16 → k < 2 ^ 8
fits-octet k h = omega arith

in_list : (m s : ℕ) → m < 255 → m ≡ s → s < 255
in_list m s h e = omega arith

within : (n m s len bits : ℕ) → boundary n m + 10 ≤ len → m ≡ s → len ≡ bits → boundary n (s + 1) ≤ bits
within n m s len bits h e f = omega arith

less : (o n s bits : ℕ) → o ≤ boundary n s → boundary n (s + 1) ≤ bits → bits - boundary n (s + 1) < bits - o
less o n s bits h e = omega arith

fuel-left : (channels n m k : ℕ) → k ≡ m + 1 → channels + 256 - (n + k) ≡ channels + 256 - (n + m + 1)
fuel-left channels n m k e = omega arith

-- after channels and commands on end all stands as at the head of the loop
module _ (d : After-piece_at) where
  abbrev row : Row
  row = row_of d.args.source.now

  abbrev all : ℕ
  all = d.args.source.now.channels

  abbrev got : SoFar
  got = d.commands_on.new.so_far

  abbrev came : List ℕ
  came = take got.commands got.codes

  fits : Fits d.args.source.now got
  fits = d.commands_on.ensures.fits

  many : length came ≡ got.commands
  many = length-listed got.commands got.codes fits.5 fits.2

  further : boundary d.loop-c.so_far.channels d.loop-c.so_far.commands ≤ boundary got.channels got.commands
  further = omega (arith, d.channels_on.ensures.further, d.channels_on.ensures.same_commands, d.commands_on.ensures.same_channels, d.commands_on.ensures.further)

  reads : Reached row all at_start (frame_of got)
  reads = d.commands_on.ensures.reached ∙ d.channels_on.ensures.reached ∙ d.loop-c.invariant.1

  width : length row ≡ d.args.source.now.bits
  width = let s = d.args.source.now in length-carried s.level s.bits s.line.now

  -- what a piece says of the room around it, and how the definition's reading goes on
  step : (p : Answer Piece) → said d.piece_at.result ≡ p
      → Room row all (frame_of got) p
      × (onward (read_on row all (all + 256 - (got.channels + length came + 1))) (frame_of got) p ≡ row_read row all)
  step p e =
      let q = sym d.piece_at.ensures ∙ e in (
        subst (Room row all (frame_of got)) q (room row all (frame_of got)),
        sym (read_step row all (frame_of got) fits.0 (subst (λ (m : ℕ). m ≤ 255) (sym many) fits.2) p q) ∙ reads ∙ sym (from_start row all),
      )

pub returns-in_err-piece_at : goal.returns-in_err-piece_at
returns-in_err-piece_at c =
    let d = (goal.at.returns-in_err-piece_at c).After-piece_at in
    let exit = err_from_is_err_and c.from_residual.result c.from_residual.ensures.1 in
    let why = c.in_err-piece_at.field-0.0 in
    let q = step d (refused (number_of why) (place_of why)) (ap said c.in_err-piece_at.was) in
    record {
      result_value = rw (exit.1, exit.2) (ap (mapped counts_of) q.1);
      held = subst (λ (r : Answer Frame). Held (all d) r (got d).words (got d).codes) q.1 tt;
    }

pub returns-in-End : goal.returns-in-End
returns-in-End c =
    let d = (goal.at.returns-in-End c).After-piece_at in
    let q = step d (accepted End) (ap said (c.in_ok-piece_at.was ∙ ap Ok c.in-End.is)) in
    record {
      result_value = ap (λ (k : ℕ). accepted ((got d).active, k)) (sym (many d)) ∙ ap (mapped counts_of) q.1;
      held = subst (λ (r : Answer Frame). Held (all d) r (got d).words (got d).codes) q.1
          (ap (λ (k : ℕ). take k (got d).words) (sym q.0.0), (fits d).5.1);
    }

-- a command more
module _ (d : After-piece_at) (k : ℕ) (is : said d.piece_at.result ≡ accepted (Command k)) where
  place : Room (row d) (all d) (frame_of (got d)) (accepted (Command k))
  place = (step d (accepted (Command k)) is).0

  fewer : (got d).commands < 255
  fewer = in_list _ _ place.0 (many d)

  -- the next boundary
  command-fits : boundary (got d).channels ((got d).commands + 1) ≤ d.args.source.now.bits
  command-fits = within _ _ _ _ _ place.1 (many d) (width d)

pub overflow_cast-so_far : goal.overflow_cast-so_far
overflow_cast-so_far c =
    let d = (goal.at.overflow_cast-so_far c).After-piece_at in
    record { fits = fits-octet _ (place d c.in-Command.c (ap said (c.in_ok-piece_at.was ∙ ap Ok c.in-Command.is))).2 }

pub bounds-so_far-so_far : goal.bounds-so_far-so_far
bounds-so_far-so_far c =
    fewer (goal.at.bounds-so_far-so_far c).After-piece_at c.in-Command.c (ap said (c.in_ok-piece_at.was ∙ ap Ok c.in-Command.is))

pub loop-c-smaller-in-Command : goal.loop-c-smaller-in-Command
loop-c-smaller-in-Command c =
    let d = (goal.at.loop-c-smaller-in-Command c).After-piece_at in
    less _ _ _ _ (further d) (command-fits d c.in-Command.c (ap said (c.in_ok-piece_at.was ∙ ap Ok c.in-Command.is)))

pub loop-c-preserved-in-Command : goal.loop-c-preserved-in-Command
loop-c-preserved-in-Command c =
    let d = (goal.at.loop-c-preserved-in-Command c).After-piece_at in
    let k = c.in-Command.c in
    let is = ap said (c.in_ok-piece_at.was ∙ ap Ok c.in-Command.is) in
    let few = fewer d k is in
    let f = got d in
    let n = f.channels in
    let held : List ℕ = take n f.words in
    let list = (fits d).5 in
    let fuel : all d + 256 - (n + length (came d ++ (k ∷ []))) ≡ all d + 256 - (n + length (came d) + 1) =
    fuel-left _ _ _ _ (length-append (came d) (k ∷ [])) in (
      ((fits d).0, (fits d).1, omega arith, command-fits d k is, (fits d).4, listed_more f.commands f.codes list k few),
      ap (λ (cs : List ℕ). read_on (row d) (all d) (all d + 256 - (n + length cs)) (sofar n f.active cs held)) (listed_next f.commands f.codes list k few)
          ∙ ap (λ (j : ℕ). read_on (row d) (all d) j (sofar n f.active (came d ++ (k ∷ [])) held)) fuel
          ∙ (step d (accepted (Command k)) is).1 ∙ from_start (row d) (all d),
    )

-- a channel more
module _ (d : After-piece_at) (word : ℕ) (is : said d.piece_at.result ≡ accepted (Channel word)) where
  due : Room (row d) (all d) (frame_of (got d)) (accepted (Channel word))
  due = (step d (accepted (Channel word)) is).0

  missing : (got d).channels < all d
  missing = omega (arith, due.0, (fits d).0)

  in_words : (got d).channels < 64
  in_words = omega (arith, missing, d.args.source.now.most)

  channel-fits : boundary ((got d).channels + 1) (got d).commands ≤ d.args.source.now.bits
  channel-fits = omega (arith, due.1, many d, width d)

pub bounds-so_far-so_far-in-Channel : goal.bounds-so_far-so_far-in-Channel
bounds-so_far-so_far-in-Channel c =
    in_words (goal.at.bounds-so_far-so_far-in-Channel c).After-piece_at c.in-Channel.w (ap said (c.in_ok-piece_at.was ∙ ap Ok c.in-Channel.is))

pub loop-c-smaller : goal.loop-c-smaller
loop-c-smaller c =
    let d = (goal.at.loop-c-smaller c).After-piece_at in
    omega (arith, further d, channel-fits d c.in-Channel.w (ap said (c.in_ok-piece_at.was ∙ ap Ok c.in-Channel.is)))

pub loop-c-preserved : goal.loop-c-preserved
loop-c-preserved c =
    let d = (goal.at.loop-c-preserved c).After-piece_at in
    let word = c.in-Channel.w in
    let is = ap said (c.in_ok-piece_at.was ∙ ap Ok c.in-Channel.is) in
    let f = got d in
    let n = f.channels in
    let active : ℕ = f.active + word / 2 % 2 in
    let h : n < length f.words = omega (arith, in_words d word is, (fits d).4) in
    rw (c.cleared.ensures, c.active_bit.ensures) (
      (
        omega (arith, missing d word is),
        omega (arith, (fits d).1),
        (fits d).2,
        channel-fits d word is,
        length-set f.words n (cleared word) ∙ (fits d).4,
        (fits d).5,
      ),
      ap (λ (k : ℕ). read_on (row d) (all d) k (sofar (n + 1) active (came d) (take (n + 1) (set f.words n (cleared word))))) (omega arith)
          ∙ ap (λ (t : List ℕ). read_on (row d) (all d) (all d + 256 - (n + length (came d) + 1)) (sofar (n + 1) active (came d) t))
          (ap (λ (k : ℕ). take k (set f.words n (cleared word))) (add-one n) ∙ take-suc-set f.words n (cleared word) h)
          ∙ (step d (accepted (Channel word)) is).1 ∙ from_start (row d) (all d),
    )
