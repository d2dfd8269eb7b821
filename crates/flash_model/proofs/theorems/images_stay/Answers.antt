use Rattle.flash_model.proofs.ImageLemmas.{IsImage-moves, IsImage-fired, slot_at-does, slot_at-torn}
use Rattle.flash_model.proofs.theorems.images_stay.Goals as goal

pub returns-clause-whole : goal.returns-clause-whole
returns-clause-whole c = IsImage-moves

pub returns-clause-fired : goal.returns-clause-fired
returns-clause-fired c = IsImage-fired

pub returns-clause-elsewhere : goal.returns-clause-elsewhere
returns-clause-elsewhere c = slot_at-does

pub returns-clause-torn_elsewhere : goal.returns-clause-torn_elsewhere
returns-clause-torn_elsewhere c = slot_at-torn
