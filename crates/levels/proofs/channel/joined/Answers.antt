-- `levels::channel::joined` meets its contract. Assumes nothing.
use mathlib.Core.Path.{◌≡◌, ap, ◌∙◌}
use mathlib.Core.Bool.{true}
use Rattle.std.specs.Prelude.{Some}
use Rattle.levels.specs.Inner.{channel_lines, channel_sound}
use Rattle.levels.proofs.Levels.{has-some, all-small, joined-none, joined-some, joined-both}
use Rattle.levels.proofs.channel.joined.Goals as goal
use Rattle.levels.proofs.channel.joined.Goals.{In-Some-Some}

-- both are accepted
module _ (c : In-Some-Some) where
  first-sound : channel_sound (channel_lines (Some c.in-Some-Some.x)) ≡ true
  first-sound = rw c.in-Some-Some.is-0 at c.requires.0

  second-sound : channel_sound (channel_lines (Some c.in-Some-Some.y)) ≡ true
  second-sound = rw c.in-Some-Some.is-1 at c.requires.1

pub join-requires : goal.join-requires
join-requires c = (all-small c.in-Some-Some.x (first-sound c), all-small c.in-Some-Some.y (second-sound c))

pub returns-in-None-default : goal.returns-in-None-default
returns-in-None-default c = rw c.in-None-default.is-0 (joined-none c.args.later)

pub returns-in_default-None : goal.returns-in_default-None
returns-in_default-None c =
    let x = c.in_default-None.field-0-0 in
    let s : channel_sound (channel_lines (Some x)) ≡ true = rw c.in_default-None.is-0 at c.requires.0 in
    rw (c.in_default-None.is-0, c.in_default-None.is-1) (joined-some x (has-some x s))

pub returns-in-Some-Some : goal.returns-in-Some-Some
returns-in-Some-Some c =
    let p = (goal.at.returns-in-Some-Some c).In-Some-Some in
    let x = c.in-Some-Some.x in
    let y = c.in-Some-Some.y in
    rw (c.in-Some-Some.is-0, c.in-Some-Some.is-1)
    (ap (λ l. channel_lines (Some l)) c.join.ensures ∙ joined-both x y (has-some x (first-sound p)) (has-some y (second-sound p)))
