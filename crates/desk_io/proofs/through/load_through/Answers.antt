use Rattle.std.proofs.Common.{arith, Ok, Err}
use Rattle.desk_io.proofs.Answering.{bytes_given, error_passed, load_answers, load_cause, loaded_noted, memory_alone}
use Rattle.desk_io.proofs.through.load_through.Goals as goal

pub returns-in_err-file-clause-disk : goal.returns-in_err-file-clause-disk
returns-in_err-file-clause-disk g c =
    let before = g.F.Folder.told c.args.folder.now in
    let after = g.F.Folder.told c.load.new.folder in
    let error = c.in_err-file.field-0.0 in
    error_passed c.args.name.now error c.from_residual.result before after c.from_residual.ensures.1
    (load_answers c.args.name.now 134217729 c.load.result (Err error) before after (omega arith) c.load.ensures.loads
    c.in_err-file.ensures.answer)

pub returns-clause-disk : goal.returns-clause-disk
returns-clause-disk g c =
    let before = g.F.Folder.told c.args.folder.now in
    let after = g.F.Folder.told c.load.new.folder in
    let file = c.in_ok-file.file in
    bytes_given c.args.name.now file c.note.result before after
    (load_answers c.args.name.now 134217729 c.load.result (Ok file) before after (omega arith) c.load.ensures.loads
    c.in_ok-file.ensures.answer)
    c.note.ensures.bytes c.note.ensures.error

pub returns-clause-notes : goal.returns-clause-notes
returns-clause-notes g c =
    let before = g.F.Folder.told c.args.folder.now in
    let after = g.F.Folder.told c.load.new.folder in
    let file = c.in_ok-file.file in
    loaded_noted c.args.name.now file c.note.new.findings c.note.result before after
    (load_answers c.args.name.now 134217729 c.load.result (Ok file) before after (omega arith) c.load.ensures.loads
    c.in_ok-file.ensures.answer)
    c.note.ensures.notes

pub returns-in_err-file-clause-cause : goal.returns-in_err-file-clause-cause
returns-in_err-file-clause-cause g c =
    load_cause c.args.name.now c.load.result c.from_residual.result c.in_err-file.field-0.0
    (g.F.Folder.told c.args.folder.now)
    (g.F.Folder.told c.load.new.folder) c.load.ensures.cause c.in_err-file.ensures.answer c.from_residual.ensures.1

pub returns-clause-cause : goal.returns-clause-cause
returns-clause-cause g c =
    memory_alone c.note.result (g.F.Folder.told c.args.folder.now) (g.F.Folder.told c.load.new.folder)
    c.note.ensures.error
