use Rattle.verdict_check.proofs.PlaceLemmas.{slot_above}
use Rattle.verdict_check.proofs.places.note_newer.Goals as goal

pub place_in-requires : goal.place_in-requires
place_in-requires c = slot_above c.args.list.now c.requires.scanned c.args.at c.requires.within
