use Rattle.durable_folder.specs.Calls.{Renames}
use Rattle.durable_folder.specs.Counting.{answer_to_rename}
use Rattle.mem_folder.proofs.Common.{Err, refl}
use Rattle.mem_folder.proofs.Turning.{turned}
use Rattle.mem_folder.proofs.folder.MemFolderFolder.rename.Goals as goal

pub returns-in_default : goal.returns-in_default
returns-in_default c =
    let self = c.args.self.now in
    rw (
      c.end-in_default.ensures.changes,
      c.end-in_default.ensures.befores,
      c.end-in_default.ensures.notes,
      c.end-in_default.ensures.noted,
      c.begin-fault.ensures.changes,
      c.begin-fault.ensures.befores,
      c.begin-fault.ensures.notes,
      c.begin-fault.ensures.noted,
    )
    (turned (Renames c.args.from.now c.args.to.now (Err c.from.result))
    (answer_to_rename {T = Unit {0}} c.args.from.now c.args.to.now (Err c.from.result))
    c.note_of_starving.result self.changes self.befores.items self.notes.items self.noted.items self.glances.items
    self.glances.items self.changes.items
    refl (c.note_of_starving.ensures.rename c.args.from.now c.args.to.now))
