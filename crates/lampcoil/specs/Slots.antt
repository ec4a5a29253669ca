-- What C is told of a tenant's slots. Assumes nothing.
use Rattle.std.specs.Prelude.{ℕ}
use Rattle.answer.specs.Answer.{Answer, told}
use Rattle.lampcoil.specs.declared.lease.ToldSlots.{ToldSlots}

-- slot k at weight 2 ^ k
abbrev pub told_slots : Answer ℕ → ToldSlots
told_slots a =
    let t = told 0 a in
    record { number = t.0; place = t.1; slots = t.2 }
