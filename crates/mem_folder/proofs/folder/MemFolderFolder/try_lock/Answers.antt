use Rattle.durable_folder.specs.Calls.{Locks}
use Rattle.durable_folder.specs.Counting.{answer_to_lock}
use Rattle.mem_folder.specs.Telling.{handle_of, sight_of}
use Rattle.mem_folder.specs.declared.glance.Glance.TheVariants as glance
use Rattle.mem_folder.proofs.Common.{◌∷◌, ◌∙◌, ap}
use Rattle.std.proofs.Common.{map}
use Rattle.mem_folder.proofs.Turning.{turned}
use Rattle.mem_folder.proofs.folder.MemFolderFolder.try_lock.Goals as goal

pub returns-clause-locks : goal.returns-clause-locks
returns-clause-locks c =
    let self = c.args.self.now in
    rw (
      c.glance.ensures.changes,
      c.glance.ensures.befores,
      c.glance.ensures.notes,
      c.glance.ensures.noted,
      c.end.ensures.changes,
      c.end.ensures.befores,
      c.end.ensures.notes,
      c.end.ensures.noted,
      c.begin-fault.ensures.changes,
      c.begin-fault.ensures.befores,
      c.begin-fault.ensures.notes,
      c.begin-fault.ensures.noted,
    )
    (turned (Locks (handle_of c.args.file.now) (handle_of c.lock-lock.new.file) c.lock-lock.result)
    (answer_to_lock c.lock-lock.result)
    c.note_of_lock.result self.changes self.befores.items self.notes.items self.noted.items self.glances.items
    (glance.Held c.args.file.now.number ∷ self.glances.items) self.changes.items
    (c.lock-lock.ensures self.changes.items) c.note_of_lock.ensures)

pub returns-clause-sees : goal.returns-clause-sees
returns-clause-sees c is = ap (map sight_of) (c.glance.ensures.glances
    ∙ ap (λ all. glance.Held c.args.file.now.number ∷ all)
    (c.end.ensures.glances ∙ c.begin-fault.ensures.glances))
