use Rattle.std.specs.declared.io.ErrorKind.TheVariants as kind
use Rattle.durable_folder.specs.Calls.{Creates}
use Rattle.durable_folder.specs.Counting.{answer_to_create}
use Rattle.mem_folder.specs.Telling.{handle_of}
use Rattle.mem_folder.specs.declared.files.MemFile.{MemFile}
use Rattle.mem_folder.proofs.Common.{◌≡◌, Err, refl, sym, ◌∙◌}
use Rattle.mem_folder.proofs.Turning.{turned}
use Rattle.mem_folder.proofs.folder.MemFolderFolder.create_new.Goals as goal

pub returns-in-Err : goal.returns-in-Err
returns-in-Err c =
    let self = c.args.self.now in
    rw (
      c.end-in-Err.ensures.changes,
      c.end-in-Err.ensures.befores,
      c.end-in-Err.ensures.notes,
      c.end-in-Err.ensures.noted,
      c.begin-fault.ensures.changes,
      c.begin-fault.ensures.befores,
      c.begin-fault.ensures.notes,
      c.begin-fault.ensures.noted,
    )
    (turned (Creates handle_of c.args.name.now (Err c.in-Err.error))
    (answer_to_create {T = MemFile} c.args.name.now (Err c.in-Err.error))
    c.note_of_starving.result self.changes self.befores.items self.notes.items self.noted.items self.glances.items
    self.glances.items self.changes.items (
      refl,
      λ exists. let both : kind.OutOfMemory ≡ kind.AlreadyExists = sym c.in-Err.ensures.err ∙ exists in absurd (cc),
    ) (c.note_of_starving.ensures.create c.args.name.now))
