use Rattle.sorted_records.proofs.Common.{◌∙◌}
use Rattle.sorted_records.proofs.OfGroup.Readings.{next_older_is}
use Rattle.sorted_records.proofs.in_order.next_older.Goals as goal

pub returns : goal.returns
returns c =
    c.last_version.ensures
    ∙ next_older_is c.args.records.now c.requires.order c.args.page c.args.below c.names_below.result
    c.names_below.ensures.within c.names_below.ensures.first
