use Rattle.durable_folder.proofs.Bearing.{making, not_making, made}
use Rattle.durable_folder.proofs.Common.{Ok, refl, ap, ◌∙◌}
use Rattle.durable_folder.proofs.Linking.{saved_refused, saved_so}
use Rattle.durable_folder.proofs.saving.make.Goals as goal

pub returns-in_err-write_new-in-Refused-clause-saves : goal.returns-in_err-write_new-in-Refused-clause-saves
returns-in_err-write_new-in-Refused-clause-saves g c =
    let before = g.F.Folder.told c.args.folder.now in
    let after = g.F.Folder.told c.write_new.new.folder in
    not_making c.args.name.now c.args.bytes.now c.write_new.result c.from_residual-in_err-write_new-in-Refused.result
    before after
    c.from_residual-in_err-write_new-in-Refused.ensures.0
    (making c.args.name.now c.args.bytes.now c.replace.result c.in_ok-replace.field-0 c.write_new.result before
    (g.F.Folder.told c.replace.new.folder) after c.in_ok-replace.was c.in-Refused.is c.replace.ensures.replaces
    c.write_new.ensures.writes)

pub returns-in_ok-write_new-in-Refused-clause-saves : goal.returns-in_ok-write_new-in-Refused-clause-saves
returns-in_ok-write_new-in-Refused-clause-saves g c =
    let before = g.F.Folder.told c.args.folder.now in
    let after = g.F.Folder.told c.write_new.new.folder in
    made c.args.name.now c.args.bytes.now c.write_new.result c.sync_folder_of.result before after
    (g.F.Folder.told c.sync_folder_of.new.folder)
    c.in_ok-write_new-in-Refused.was
    (making c.args.name.now c.args.bytes.now c.replace.result c.in_ok-replace.field-0 c.write_new.result before
    (g.F.Folder.told c.replace.new.folder) after c.in_ok-replace.was c.in-Refused.is c.replace.ensures.replaces
    c.write_new.ensures.writes)
    c.sync_folder_of.ensures.syncs

pub returns-in-Done-clause-anew : goal.returns-in-Done-clause-anew
returns-in-Done-clause-anew g c ok =
    saved_so c.args.name.now (g.F.Folder.told c.args.folder.now) (g.F.Folder.told c.replace.new.folder)
    (c.replace.ensures.anew refl (c.in_ok-replace.was ∙ ap Ok c.in-Done.is))

pub returns-in_ok-write_new-in-Refused-clause-anew : goal.returns-in_ok-write_new-in-Refused-clause-anew
returns-in_ok-write_new-in-Refused-clause-anew g c ok =
    saved_refused c.args.name.now c.args.bytes.now c.replace.result c.in_ok-replace.field-0
    (g.F.Folder.told c.args.folder.now) (g.F.Folder.told c.replace.new.folder)
    (g.F.Folder.told c.write_new.new.folder) (g.F.Folder.told c.sync_folder_of.new.folder) c.in_ok-replace.was
    c.in-Refused.is c.replace.ensures.replaces c.write_new.ensures.writes c.sync_folder_of.ensures.syncs
