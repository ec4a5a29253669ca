-- `madi_write::write_frame` meets its contract: the checks, and then the octets. Assumes nothing.
use mathlib.Core.Path.{◌≡◌, refl, sym, ap, ◌∙◌}
use mathlib.Core.List.{List, ◌++◌}
use Prim.Native.Nat.{ℕ}
use lib.ListN.{length, drop}
use Rattle.std.specs.Prelude.{Ok}
use Rattle.std.proofs.lemmas.Result.{err_from_is_err_and}
use Rattle.answer.specs.Answer.{Answer.accepted}
use Rattle.answer.specs.Demand.{Demand, AllMet}
use Rattle.answer.specs.Said.{number_of, place_of, said}
use Rattle.answer.proofs.Chains.{met, stops, passing}
use Rattle.answer.proofs.Residues.{shows-refusal}
use Rattle.madi_write.specs.Writer.{frame_octets, write_demands, frame_written}
use Rattle.madi_write.proofs.Blocks.{length-octets}
use Rattle.madi_write.proofs.Checks.{writable}
use Rattle.madi_write.proofs.write_frame.Goals as goal
use Rattle.madi_write.proofs.write_frame.Goals.{After-check_frame}

-- the demands, and what holds where the checks accept
abbrev demands : After-check_frame → List Demand
demands c = let a = c.args in write_demands a.channels a.words.now a.commands.now a.level (length a.line.now)

all-met : (c : After-check_frame) → c.check_frame.result ≡ Ok tt → AllMet (demands c)
all-met c e = (met tt (demands c) (sym c.check_frame.ensures ∙ ap said e)).0

pub fill-requires : goal.fill-requires
fill-requires c =
    let k = (goal.at.fill-requires c).After-check_frame in
    let a = k.args in
    let w = writable a.channels a.words.now a.commands.now a.level (length a.line.now) (all-met k c.in_ok-check_frame.was) in
    record {
      ready = record {
        at_most = w.at_most;
        most = w.most;
        short = w.short;
        named = w.named;
        clean = w.clean;
        sends = c.groups.ensures;
        codes = c.command_codes.ensures;
      };
      room = (w.digital, w.fits);
    }

pub returns : goal.returns
unfolding frame_written
returns c =
    let k = (goal.at.returns c).After-check_frame in
    let a = k.args in
    let m = all-met k c.in_ok-check_frame.was in
    let w = writable a.channels a.words.now a.commands.now a.level (length a.line.now) m in
    let frame : List ℕ = frame_octets a.channels a.words.now a.commands.now a.level in
    rw (passing (accepted frame) (demands k) m) (record {
      result_value = refl;
      line_after = c.fill.ensures
          ∙ ap (λ (n : ℕ). frame ++ drop n a.line.now) (sym (length-octets a.channels a.words.now a.commands.now a.level w.most));
    })

pub returns-in_err-check_frame : goal.returns-in_err-check_frame
unfolding frame_written
returns-in_err-check_frame c =
    let k = (goal.at.returns-in_err-check_frame c).After-check_frame in
    let r = c.in_err-check_frame.field-0.0 in
    let both = shows-refusal _ _ _ _ (stops tt (demands k) (number_of r) (place_of r) (sym c.check_frame.ensures ∙ ap said c.in_err-check_frame.was)) in
    let p = err_from_is_err_and c.from_residual.result c.from_residual.ensures.1 in
    rw (p.1, p.2) (record { result_value = both.0; line_after = both.1 })
