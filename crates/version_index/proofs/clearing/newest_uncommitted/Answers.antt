use Rattle.version_index.proofs.Common.{subst, sym, ◌∙◌, same_Some}
use Rattle.version_index.specs.Going.{IsTopBelow, IsLowestIn}
use Rattle.version_index.proofs.OfGoing.KeptGoing.{lowest_copy}
use Rattle.version_index.proofs.clearing.newest_uncommitted.Goals as goal

pub returns-in-Some : goal.returns-in-Some
returns-in-Some c =
    let k = c.args.tables.now in
    let such = IsTopBelow k c.args.page c.args.below in
    let newest = sym c.in-Some.ensures.newest in
    subst (IsLowestIn k such) (sym c.first_copy.ensures)
    (lowest_copy k such c.in-Some.number (newest, c.waits_below.ensures.0 c.if-waits_below.true) (λ y top.
    same_Some y c.in-Some.number (sym top.0 ∙ newest)))
