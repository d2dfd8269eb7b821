use Rattle.mem_folder.proofs.Holding.{syncs}
use Rattle.mem_folder.proofs.writing.sync.Goals as goal

pub returns : goal.returns
returns c =
    syncs c.args.changes.now.items c.add.new.changes.items c.args.file.now.number c.add.result
    (record { ok = c.add.ensures.ok; err = c.add.ensures.err })
