use Rattle.durable_folder.proofs.answers.names_sync_answer.Goals as goal

pub returns : goal.returns
returns c = record { is = rw c.sync_answer.ensures at c.as_fault.ensures }
