use Rattle.judged_records.proofs.OfLaws.ImageLaws.{image_damage_law}
use Rattle.judged_records.proofs.theorems.image_damaged.Goals as goal

pub returns : goal.returns
returns c = image_damage_law
