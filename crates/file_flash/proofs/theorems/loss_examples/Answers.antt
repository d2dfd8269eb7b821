use Rattle.file_flash.proofs.Existing.{example_write, example_old, example_new, example_sync, example_durable, example_copied, example_read, example_without, example_stays, example_between, example_whole}
use Rattle.file_flash.proofs.theorems.loss_examples.Goals as goal

pub returns-clause-write : goal.returns-clause-write
returns-clause-write c = example_write

pub returns-clause-old : goal.returns-clause-old
returns-clause-old c = example_old

pub returns-clause-new : goal.returns-clause-new
returns-clause-new c = example_new

pub returns-clause-sync : goal.returns-clause-sync
returns-clause-sync c = example_sync

pub returns-clause-durable : goal.returns-clause-durable
returns-clause-durable c = example_durable

pub returns-clause-copied : goal.returns-clause-copied
returns-clause-copied c = example_copied

pub returns-clause-read : goal.returns-clause-read
returns-clause-read c = example_read

pub returns-clause-without : goal.returns-clause-without
returns-clause-without c = example_without

pub returns-clause-stays : goal.returns-clause-stays
returns-clause-stays c = example_stays

pub returns-clause-between : goal.returns-clause-between
returns-clause-between c = example_between

pub returns-clause-whole : goal.returns-clause-whole
returns-clause-whole c = example_whole
