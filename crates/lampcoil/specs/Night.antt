-- What C is told of a replay. Assumes nothing.
use Rattle.std.specs.Prelude.{ℕ, List}
use Rattle.answer.specs.Answer.{Answer, told}
use Rattle.lampcoil.specs.declared.night.ToldReplay.{ToldReplay}

-- the answer with its stop; what was taken and the figures stand beside any answer
abbrev pub told_replay : Answer ℕ × ℕ × List ℕ → ToldReplay
told_replay a =
    let t = told 0 a.0 in
    record { number = t.0; place = t.1; taken = a.1; stop = t.2; figures = a.2 }
