use Rattle.sorted_records.proofs.Common.{◌∙◌, straddling_version}
use Rattle.sorted_records.proofs.OfGroup.Groups.{straddling_elsewhere}
use Rattle.sorted_records.proofs.group.straddling_of_few.Goals as goal

pub returns : goal.returns
returns c = c.greatest_straddling.ensures ∙ c.group.ensures (straddling_version c.args.name)
    (straddling_elsewhere c.args.name)
