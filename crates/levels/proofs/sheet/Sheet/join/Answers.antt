-- `levels::sheet::Sheet::join` meets its contract, channel by channel. Assumes nothing.
use mathlib.Core.Path.{◌≡◌, refl, sym, ap₂, ◌∙◌}
use mathlib.Core.Bool.{Bool, true, false, ◌&&◌}
use mathlib.Core.List.{List, ◌++◌}
use lib.IntN.{ℤ}
use Rattle.levels.specs.Inner.{channel_lines}
use Rattle.levels.proofs.Channels.{and, sheets-joined}
use Rattle.levels.proofs.Levels.{length-lines}
use Rattle.levels.proofs.Rooms.{parts, few-fit, together, holds-a, holds-b}
use Rattle.levels.proofs.sheet.Sheet.join.Goals as goal
use Rattle.levels.proofs.sheet.Sheet.join.Goals.{then-not-holds-via-then-not-holds, then-not-holds-via-else-not-holds+then-not-holds-2}

not-left : {a : Bool} (b : Bool) → a ≡ false → (a && b) ≡ false
not-left b p = rw p

not-right : (a : Bool) {b : Bool} → b ≡ false → (a && b) ≡ false
not-right true p = p
not-right false p = refl

pub overflow_add-a : goal.overflow_add-a
overflow_add-a c =
    let p = parts c.args.self c.requires.0 in
    let q = parts c.args.later c.requires.1 in
    few-fit c.args.self.a c.args.later.a p.0 q.0 c.samples.result c.samples-2.result c.samples.ensures c.samples-2.ensures

pub overflow_add-b : goal.overflow_add-b
overflow_add-b c =
    let p = parts c.args.self c.requires.0 in
    let q = parts c.args.later c.requires.1 in
    few-fit c.args.self.b c.args.later.b p.1 q.1 c.samples-3.result c.samples-4.result c.samples-3.ensures c.samples-4.ensures

pub returns-then-not-holds : goal.returns-then-not-holds
returns-then-not-holds c =
    let f = c.args.self in
    let l = c.args.later in
    let p = parts f c.requires.0 in
    let q = parts l c.requires.1 in
    let a = together f.a l.a p.0 q.0 c.samples.result c.samples-2.result c.samples.ensures c.samples-2.ensures in
    let b = together f.b l.b p.1 q.1 c.samples-3.result c.samples-4.result c.samples-3.ensures c.samples-4.ensures in (
      refl,
      elim c.then-not-holds.branch [
        | then-not-holds-via-then-not-holds w ↦ not-left _ (sym (holds-a f l _ a) ∙ sym c.holds.ensures ∙ w.if-not-holds.true)
        | then-not-holds-via-else-not-holds+then-not-holds-2 w ↦
            not-right _ (sym (holds-b f l _ b) ∙ sym w.holds-else-not-holds.ensures ∙ w.if-not-holds-2.true)
      ],
    )

pub joined-requires : goal.joined-requires
joined-requires c = ((parts c.args.self c.requires.0).0, (parts c.args.later c.requires.1).0)

pub joined-requires-2 : goal.joined-requires-2
joined-requires-2 c = ((parts c.args.self c.requires.0).1, (parts c.args.later c.requires.1).1)

pub returns : goal.returns
returns c =
    let f = c.args.self in
    let l = c.args.later in
    let p = parts f c.requires.0 in
    let q = parts l c.requires.1 in
    let a = together f.a l.a p.0 q.0 c.samples.result c.samples-2.result c.samples.ensures c.samples-2.ensures in
    let b = together f.b l.b p.1 q.1 c.samples-3.result c.samples-4.result c.samples-3.ensures c.samples-4.ensures in (
      and (sym (c.if-not-holds.ensures ∙ holds-a f l _ a)) (sym (c.if-not-holds-2.ensures ∙ holds-b f l _ b)),
      ap₂ (λ (x y : List ℤ). x ++ y) c.joined.ensures c.joined-2.ensures
          ∙ sym (sheets-joined (channel_lines f.a) (channel_lines f.b) (channel_lines l.a) (channel_lines l.b) (length-lines f.a) (length-lines l.a)),
    )
