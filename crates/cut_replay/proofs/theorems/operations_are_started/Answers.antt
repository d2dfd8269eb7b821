use Rattle.cut_replay.proofs.Started.{collection_most, command_few, command_most, command_started, cut_at_last}
use Rattle.cut_replay.proofs.theorems.operations_are_started.Goals as goal

pub returns-clause-moves : goal.returns-clause-moves
returns-clause-moves c = command_started

pub returns-clause-few : goal.returns-clause-few
returns-clause-few c = command_few

pub returns-clause-most : goal.returns-clause-most
returns-clause-most c = command_most

pub returns-clause-collection : goal.returns-clause-collection
returns-clause-collection c = collection_most

pub returns-clause-cut : goal.returns-clause-cut
returns-clause-cut c = cut_at_last
