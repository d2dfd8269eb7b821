use Rattle.record_list.proofs.OfFacts.SoundNames.{sound_map}
use Rattle.record_list.proofs.OfFacts.Safe.{walk_ends}
use Rattle.record_list.proofs.theorems.walk_ends.Goals as goal

pub returns : goal.returns
returns c = λ p l logical page turns sound scanned. walk_ends p l logical
    (sound_map p l logical sound scanned).linked page turns
