use Rattle.durable_folder.specs.Calls.{Links}
use Rattle.durable_folder.specs.Counting.{answer_to_link}
use Rattle.mem_folder.proofs.Common.{Err, refl}
use Rattle.mem_folder.proofs.Turning.{turned}
use Rattle.mem_folder.proofs.folder.MemFolderFolder.link.Goals as goal

pub returns-in-Err : goal.returns-in-Err
returns-in-Err c =
    let self = c.args.self.now in
    rw (
      c.end-in-Err.ensures.changes,
      c.end-in-Err.ensures.befores,
      c.end-in-Err.ensures.notes,
      c.end-in-Err.ensures.noted,
      c.begin-fault.ensures.changes,
      c.begin-fault.ensures.befores,
      c.begin-fault.ensures.notes,
      c.begin-fault.ensures.noted,
    )
    (turned (Links c.args.from.now c.args.to.now (Err c.in-Err.error))
    (answer_to_link {T = Unit {0}} c.args.to.now (Err c.in-Err.error))
    c.note_of_starving.result self.changes self.befores.items self.notes.items self.noted.items self.glances.items
    self.glances.items self.changes.items refl (c.note_of_starving.ensures.link c.args.to.now))
