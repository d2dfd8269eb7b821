use Rattle.mem_folder.proofs.Steps.{syncs_folder}
use Rattle.mem_folder.proofs.naming.sync_names.Goals as goal

pub returns-clause-syncs : goal.returns-clause-syncs
returns-clause-syncs c place =
    syncs_folder c.args.changes.now.items c.add.new.changes.items place c.add.result
    (record { ok = c.add.ensures.ok; err = c.add.ensures.err })
