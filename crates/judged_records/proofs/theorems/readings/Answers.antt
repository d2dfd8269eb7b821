use Rattle.judged_records.proofs.OfLaws.DerivedLaws.{held_law, wanted_law, needed_law, going_law, lowest_law, garbage_law}
use Rattle.judged_records.proofs.theorems.readings.Goals as goal

pub returns-clause-held : goal.returns-clause-held
returns-clause-held c = held_law

pub returns-clause-wanted : goal.returns-clause-wanted
returns-clause-wanted c = wanted_law

pub returns-clause-needed : goal.returns-clause-needed
returns-clause-needed c = needed_law

pub returns-clause-going : goal.returns-clause-going
returns-clause-going c = going_law

pub returns-clause-lowest : goal.returns-clause-lowest
returns-clause-lowest c = lowest_law

pub returns-clause-garbage : goal.returns-clause-garbage
returns-clause-garbage c = garbage_law
