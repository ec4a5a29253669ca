-- `anc::group_of` meets its contract: the group is the place of the first DID that is the word. Assumes nothing.
use mathlib.Core.Path.{◌≡◌, refl, sym, ◌∙◌}
use borrow.Author.Rules.{rules}
use borrow.Author.Tests.{tests}
use lib.Dec.{eqb}
use lib.ListN.{length}
use Rattle.std.specs.Prelude.{Some, None}
use Rattle.bits.specs.Pick.{first}
use Rattle.anc.proofs.Searched.{position-first}
use Rattle.anc.proofs.Heads.{is_did, group-nowhere, group-place}
use Rattle.anc.proofs.group_of.Goals as goal
use Rattle.anc.proofs.group_of.Goals.{After-position}

place : (p : After-position) → p.position.result ≡ first (is_did p.args.dids p.args.w) 0 (length p.args.dids) Some None
place p =
    position-first (eqb p.args.w) (is_did p.args.dids p.args.w) p.args.dids (λ k. refl) _ _ p.position.result p.position.ensures.ran (cc)
    (λ x q k. search (rules, tests)) (λ x q k. search (rules, tests))

pub returns-in_err-at : goal.returns-in_err-at
returns-in_err-at c =
    c.from_residual.ensures ∙ group-nowhere c.args.dids c.args.w (sym c.in_err-at.was ∙ place (goal.at.returns-in_err-at c).After-position)

pub returns : goal.returns
returns c = group-place c.args.dids c.args.w (sym c.in_ok-at.was ∙ place (goal.at.returns c).After-position)
