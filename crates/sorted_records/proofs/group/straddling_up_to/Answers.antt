use Rattle.sorted_records.proofs.Common.{◌∙◌, straddling_upto}
use Rattle.sorted_records.proofs.OfGroup.Groups.{upto_elsewhere}
use Rattle.sorted_records.proofs.group.straddling_up_to.Goals as goal

pub returns : goal.returns
returns c = c.greatest_up_to.ensures ∙ c.group.ensures (straddling_upto c.args.top c.args.name)
    (upto_elsewhere c.args.top c.args.name)
