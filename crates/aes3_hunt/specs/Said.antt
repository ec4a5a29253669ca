-- What the hunt says: an answer and a count, in one way only. Assumes nothing.
use Rattle.std.specs.Prelude.{ℕ}
use Rattle.answer.specs.Answer.{Answer}
use Rattle.answer.specs.Said.{said}
use Rattle.aes3_hunt.specs.declared.HuntAnswer.{HuntAnswer}

abbrev pub hunt_said : HuntAnswer → Answer ℕ × ℕ
hunt_said a = (said a.start, a.compared)
