use Rattle.desk_io.proofs.Answering.{fails_too, refused_too}
use Rattle.desk_io.proofs.through.save_through.Goals as goal

pub returns-clause-refuses : goal.returns-clause-refuses
returns-clause-refuses g c =
    refused_too _ _ c.save_held-done.result c.answer_save.result (g.F.Folder.told c.args.folder.now)
    c.answer_save.ensures.answer
    (rw c.of.ensures at c.save_held-done.ensures.refuses)

pub returns-clause-cause : goal.returns-clause-cause
returns-clause-cause g c =
    fails_too c.args.findings.now c.args.name.now c.save_held-done.result c.answer_save.result
    (g.F.Folder.told c.args.folder.now)
    (g.F.Folder.told c.save_held-done.new.folder) c.answer_save.ensures.answer
    (rw c.of.ensures at c.save_held-done.ensures.cause)
