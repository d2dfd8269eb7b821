use Rattle.durable_folder.proofs.Common.{refl, rules}
use Rattle.durable_folder.proofs.Bearing.{folder_not_opened, folder_denied, folder_synced, late_err}
use Rattle.durable_folder.proofs.Causing.{turn_later, not_opened_failed}
use Rattle.durable_folder.proofs.saving.sync_folder_of.Goals as goal

pub returns-in-Ok-clause-syncs : goal.returns-in-Ok-clause-syncs
returns-in-Ok-clause-syncs g c =
    folder_synced g.F.Folder.place c.args.name.now c.folder_of.result.now c.in-Ok.place c.sync_names.result
    (g.F.Folder.told c.args.folder.now) (g.F.Folder.told c.open_folder.new.self)
    (g.F.Folder.told c.sync_names.new.folder)
    c.folder_of.ensures c.in-Ok.ensures c.sync_names.ensures.settles

pub returns-in-Err-clause-syncs : goal.returns-in-Err-clause-syncs
returns-in-Err-clause-syncs g c =
    folder_denied g.F.Folder.place c.args.name.now c.folder_of.result.now c.in-Err.error _
    (g.F.Folder.told c.args.folder.now) (g.F.Folder.told c.open_folder.new.self) c.folder_of.ensures (search rules) refl
    c.in-Err.ensures

pub returns-in-Err-2-clause-syncs : goal.returns-in-Err-2-clause-syncs
returns-in-Err-2-clause-syncs g c =
    folder_not_opened g.F.Folder.place c.args.name.now c.folder_of.result.now c.open_folder.result c.as_fault.result _
    (g.F.Folder.told c.args.folder.now) (g.F.Folder.told c.open_folder.new.self)
    (late_err c.in-Err-2.error c.as_fault.result c.as_fault.ensures) c.open_folder.ensures

pub returns-in-Err-2-clause-fault : goal.returns-in-Err-2-clause-fault
returns-in-Err-2-clause-fault g c =
    let before = g.F.Folder.told c.args.folder.now in
    let opened = g.F.Folder.told c.open_folder.new.self in (
      turn_later _ _ before opened c.open_folder.ensures,
      λ err. not_opened_failed _ c.folder_of.result.now c.in-Err.error before opened c.in-Err.ensures (search rules),
    )
