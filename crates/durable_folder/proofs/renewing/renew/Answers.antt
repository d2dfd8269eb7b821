use Rattle.durable_folder.proofs.Common.{◌∙◌, refl, Some, AtNow, AllTaken, quiet, refusal_of}
use Rattle.durable_folder.specs.Calls.{OpensFolder}
use Rattle.durable_folder.specs.Causes.{IsNamed}
use Rattle.durable_folder.specs.Renewing.{replaced_of}
use Rattle.durable_folder.proofs.Causing.{cause_later, fault_cause, later_then, not_opened_cause, turn_back, turn_later}
use Rattle.durable_folder.proofs.Finishing.{not_opened, opened_place, opened_replaced}
use Rattle.durable_folder.proofs.Learning.{turn_rests}
use Rattle.durable_folder.proofs.Renewals.{cause_of, keeps_after, none_given, rests_now}
use Rattle.durable_folder.proofs.renewing.renew.Goals as goal

pub returns-in-Ok-clause-replaces : goal.returns-in-Ok-clause-replaces
returns-in-Ok-clause-replaces g c =
    let before = g.F.Folder.told c.args.folder.now in
    let opened = g.F.Folder.told c.open_folder.new.self in
    opened_replaced g.F.Folder.place c.folder_of.result.now c.in-Ok.place c.args.name.now (Some c.args.owner)
    c.args.bytes.now (replaced_of c.renew_in.result) quiet before opened (g.F.Folder.told c.renew_in.new.folder)
    c.in-Ok.ensures
    (c.renew_in.ensures.replaces (record {
      is = λ told. opened_place g.F.Folder.place c.folder_of.result.now c.in-Ok.place quiet before opened
          c.in-Ok.ensures told ∙ c.folder_of.ensures;
    }))

pub returns-in-Err-clause-replaces : goal.returns-in-Err-clause-replaces
returns-in-Err-clause-replaces g c =
    rw c.none_made.ensures (not_opened g.F.Folder.place c.folder_of.result.now c.args.name.now (Some c.args.owner)
    c.args.bytes.now c.in-Err.closed _ (g.F.Folder.told c.args.folder.now) (g.F.Folder.told c.open_folder.new.self)
    c.folder_of.ensures refl c.in-Err.ensures)

pub returns-in-Ok-clause-keeps : goal.returns-in-Ok-clause-keeps
returns-in-Ok-clause-keeps g c =
    let before = g.F.Folder.told c.args.folder.now in
    let opened = g.F.Folder.told c.open_folder.new.self in
    keeps_after g.F.Folder.handle c.args.name.now c.args.bytes.now (g.F.Folder.handle c.args.held.now)
    c.renew_in.result before opened (g.F.Folder.told c.renew_in.new.folder)
    (turn_rests _ quiet before opened c.in-Ok.ensures (λ s t x. x.0))
    (c.renew_in.ensures.keeps (record {
      is = λ told. opened_place g.F.Folder.place c.folder_of.result.now c.in-Ok.place quiet before opened
          c.in-Ok.ensures told ∙ c.folder_of.ensures;
    }))

pub returns-in-Err-clause-keeps : goal.returns-in-Err-clause-keeps
returns-in-Err-clause-keeps g c =
    none_given g.F.Folder.handle c.args.name.now c.args.bytes.now (g.F.Folder.handle c.args.held.now) c.in-Err.closed
    c.none_made.result (g.F.Folder.told c.args.folder.now) (g.F.Folder.told c.open_folder.new.self)
    c.none_made.ensures

pub returns-in-Ok-clause-later : goal.returns-in-Ok-clause-later
returns-in-Ok-clause-later g c =
    let before = g.F.Folder.told c.args.folder.now in
    let opened = g.F.Folder.told c.open_folder.new.self in
    later_then before opened (g.F.Folder.told c.renew_in.new.folder)
    (turn_later _ quiet before opened c.in-Ok.ensures) c.renew_in.ensures.later

pub returns-in-Err-clause-later : goal.returns-in-Err-clause-later
returns-in-Err-clause-later g c =
    turn_later _ _ (g.F.Folder.told c.args.folder.now) (g.F.Folder.told c.open_folder.new.self) c.in-Err.ensures

pub returns-in-Ok-clause-cause : goal.returns-in-Ok-clause-cause
returns-in-Ok-clause-cause g c named =
    let before = g.F.Folder.told c.args.folder.now in
    let opened = g.F.Folder.told c.open_folder.new.self in
    let taken = AllTaken c.args.name.now in
    cause_later (AtNow taken opened) (AtNow taken before) c.renew_in.result before opened
    (g.F.Folder.told c.renew_in.new.folder) (turn_later _ quiet before opened c.in-Ok.ensures)
    (λ at. turn_back _ taken quiet before opened c.in-Ok.ensures (λ s t x. x.0) at)
    (c.renew_in.ensures.cause (record {
      is = λ told. opened_place g.F.Folder.place c.folder_of.result.now c.in-Ok.place quiet before opened
          c.in-Ok.ensures told ∙ c.folder_of.ensures;
    })
    (rests_now (IsNamed (g.F.Folder.handle c.args.held.now).file c.args.name.now) before opened
    (turn_rests _ quiet before opened c.in-Ok.ensures (λ s t x. x.0)) named))

pub returns-in-Err-clause-cause : goal.returns-in-Err-clause-cause
returns-in-Err-clause-cause g c named =
    let before = g.F.Folder.told c.args.folder.now in
    let opened = g.F.Folder.told c.open_folder.new.self in
    cause_of _ c.none_made.result before opened
    (rw c.none_made.ensures (fault_cause _ (refusal_of c.in-Err.closed) before opened
    (not_opened_cause _ c.folder_of.result.now c.in-Err.closed before opened c.in-Err.ensures)))
