-- What only the functions inside need. Assumes nothing.
use Rattle.std.specs.Prelude.{ℕ, ◌≤◌, ◌≡◌, true, List, map}
use Rattle.answer.specs.Answer.{Answer, Answer.accepted}
use Rattle.answer.specs.Demand.{Demand, provided}
use Rattle.anc.specs.Word.{opposed}
use Rattle.subframe.specs.Signed.{in_range}
use Rattle.hd_control.specs.Control.{delay_words}
use Rattle.hd_control.specs.declared.Control.{Control}

-- what the ranges say
pub record ControlRanges (c : Control) : Type 0 where
  pub some : 1 ≤ c.group
  pub four : c.group ≤ 4
  pub number : c.frame ≤ 511
  pub code : c.rate ≤ 7
  pub use-flag : c.asynchronous ≤ 1
  pub channels : c.active ≤ 15
  pub first-valid : c.valid12 ≤ 1
  pub second-valid : c.valid34 ≤ 1
  pub first-delay : in_range 26 c.delay12 ≡ true
  pub second-delay : in_range 26 c.delay34 ≡ true

-- the words of a delay; each has nine bits of value
abbrev pub words_of_delay : ℕ → List ℕ
words_of_delay d = map opposed (delay_words d)

-- what a check of demands answers: nothing, or the refusal of the first that is not met
abbrev pub checked : List Demand → Answer (Unit {0})
checked ds = provided ds (accepted tt)
