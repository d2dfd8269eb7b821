mod Opening
use Rattle.cut_replay.proofs.theorems.first_states.Answers.Opening.{opening_length, opening_closed}
use Rattle.cut_replay.proofs.theorems.first_states.Goals as goal

pub returns-clause-pages : goal.returns-clause-pages
returns-clause-pages c = opening_length

pub returns-clause-closed : goal.returns-clause-closed
returns-clause-closed c = opening_closed
