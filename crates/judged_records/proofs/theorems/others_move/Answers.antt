use Rattle.judged_records.proofs.OfLaws.DerivedLaws.{damage_moves_law, pin_moves_law, spare_moves_law}
use Rattle.judged_records.proofs.theorems.others_move.Goals as goal

pub returns-clause-damage : goal.returns-clause-damage
returns-clause-damage c = damage_moves_law

pub returns-clause-pin : goal.returns-clause-pin
returns-clause-pin c = pin_moves_law

pub returns-clause-spare : goal.returns-clause-spare
returns-clause-spare c = spare_moves_law
