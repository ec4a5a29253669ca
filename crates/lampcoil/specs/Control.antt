-- What C is told of a control packet, and the fields that it lends. Assumes nothing.
use Rattle.std.specs.Prelude.{ℕ, ℤ, pos}
use Rattle.answer.specs.Answer.{Answer, told}
use Rattle.hd_control.specs.declared.Control.{Control}
use Rattle.lampcoil.specs.declared.control.ToldControl.{ToldControl}

abbrev pub no_control : Control
no_control = record {
  group = 0;
  frame = 0;
  rate = 0;
  asynchronous = 0;
  active = 0;
  valid12 = 0;
  delay12 = pos 0;
  valid34 = 0;
  delay34 = pos 0;
}

abbrev pub control_lent : ℕ → ℕ → ℕ → ℕ → ℕ → ℕ → ℤ → ℕ → ℤ → Control
control_lent group frame rate asynchronous active valid12 delay12 valid34 delay34 = record {
  group = group;
  frame = frame;
  rate = rate;
  asynchronous = asynchronous;
  active = active;
  valid12 = valid12;
  delay12 = delay12;
  valid34 = valid34;
  delay34 = delay34;
}

abbrev pub told_control : Answer Control → ToldControl
told_control a =
    let t = told no_control a in
    record {
      number = t.0;
      place = t.1;
      group = t.2.group;
      frame = t.2.frame;
      rate = t.2.rate;
      asynchronous = t.2.asynchronous;
      active = t.2.active;
      valid12 = t.2.valid12;
      delay12 = t.2.delay12;
      valid34 = t.2.valid34;
      delay34 = t.2.delay34;
    }
