use Rattle.durable_folder.proofs.Common.{refl}
use Rattle.durable_folder.proofs.Causing.{turn_later, later_then, then_failed, file_sync_failed}
use Rattle.durable_folder.proofs.Overwriting.{no_file_written, no_file_synced, no_file_over}
use Rattle.durable_folder.proofs.in_place.write_special.Goals as goal

pub returns-in_err-write-clause-writes : goal.returns-in_err-write-clause-writes
returns-in_err-write-clause-writes g c first known =
    let file = g.F.Folder.handle c.args.file.now in
    let before = g.F.Folder.told c.args.folder.now in
    let after = g.F.Folder.told c.write.new.self in
    no_file_over file c.args.bytes.now c.from_residual.result first after
    (no_file_written file.file file c.args.bytes.now c.write.result _ first before after refl known
    c.write.ensures.writes)

pub returns-clause-writes : goal.returns-clause-writes
returns-clause-writes g c first known =
    let file = g.F.Folder.handle c.args.file.now in
    let before = g.F.Folder.told c.args.folder.now in
    let after = g.F.Folder.told c.write.new.self in
    let last = g.F.Folder.told c.sync.new.self in
    no_file_over file c.args.bytes.now c.sync_answer.result first last
    (no_file_synced file.file (g.F.Folder.handle c.write.new.file) c.sync.result _ first after last c.write.ensures.same
    (no_file_written file.file file c.args.bytes.now c.write.result _ first before after refl known
    c.write.ensures.writes) c.sync.ensures)

pub returns-clause-fault : goal.returns-clause-fault
returns-clause-fault g c =
    let before = g.F.Folder.told c.args.folder.now in
    let after = g.F.Folder.told c.write.new.self in
    let last = g.F.Folder.told c.sync.new.self in
    let written = turn_later _ _ before after c.write.ensures.writes in (
      later_then before after last written (turn_later _ _ after last c.sync.ensures),
      λ err. then_failed before after last written (file_sync_failed _ c.sync.result after last c.sync.ensures
          (rw c.sync_answer.ensures at err)),
    )
