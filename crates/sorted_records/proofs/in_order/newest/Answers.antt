use Rattle.sorted_records.proofs.Common.{◌∙◌}
use Rattle.sorted_records.proofs.OfGroup.Readings.{newest_is}
use Rattle.sorted_records.proofs.in_order.newest.Goals as goal

pub returns : goal.returns
returns c =
    c.last_version.ensures
    ∙ newest_is c.args.records.now c.requires.order c.args.page c.pages_up_to.result c.pages_up_to.ensures.within
    c.pages_up_to.ensures.first
