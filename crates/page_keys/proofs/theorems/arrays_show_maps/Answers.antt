mod OneMap
use Rattle.page_keys.proofs.OfPut.Existing.{shows_some}
use Rattle.page_keys.proofs.theorems.arrays_show_maps.Answers.OneMap.{one_map}
use Rattle.page_keys.proofs.OfBucket.Parts.{shown_buckets}
use Rattle.page_keys.proofs.theorems.arrays_show_maps.Goals as goal

pub returns-clause-some : goal.returns-clause-some
returns-clause-some c = shows_some

pub returns-clause-only : goal.returns-clause-only
returns-clause-only c = shown_buckets

pub returns-clause-one_map : goal.returns-clause-one_map
returns-clause-one_map c = one_map
