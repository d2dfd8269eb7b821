use Rattle.flash_picture.proofs.Common.{◌∙◌, ap, arith, length}
use mathlib.Core.Path.{subst}
use Rattle.std.proofs.lemmas.List.{take_all}
use Rattle.flash_picture.specs.Held.{AreAsked}
use Rattle.flash_picture.proofs.Held.{asked_more}
use Rattle.flash_picture.proofs.asked.asked_versions.Goals as goal

pub loop-at-preserved : goal.loop-at-preserved
loop-at-preserved c =
    let same = c.records-records.ensures.records ∙ c.sorted_records.ensures in
    rw (c.ask.ensures, same) (asked_more c.args.standing.now c.loop-at.asked.items c.loop-at.at
    (rw same at c.loop-at-test.true) c.loop-at.invariant)

pub ask-requires : goal.ask-requires
ask-requires c = c.loop-at.invariant.size

pub returns : goal.returns
returns c =
    let same = c.records-records.ensures.records ∙ c.sorted_records.ensures in
    let list = c.args.standing.now.list in
    let all = ap length same in
    subst (λ some. AreAsked c.args.standing.now some c.loop-at.asked.items)
    (take_all c.loop-at.at list (omega (arith, c.loop-at-test.false))) c.loop-at.invariant
