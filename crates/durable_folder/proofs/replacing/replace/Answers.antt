use Rattle.durable_folder.proofs.Common.{◌∙◌, refl, Ok, AtNow, AllTaken, quiet, refusal_of}
use Rattle.durable_folder.proofs.Causing.{turn_later, turn_back, cause_later, fault_cause, not_opened_cause}
use Rattle.durable_folder.proofs.Finishing.{not_opened, opened_replaced, opened_place}
use Rattle.durable_folder.specs.Calls.{OpensFolder}
use Rattle.durable_folder.proofs.Linking.{anew_after, not_done}
use Rattle.durable_folder.proofs.Passing.{runs_of}
use Rattle.durable_folder.proofs.replacing.replace.Goals as goal

pub returns-in-Err-clause-replaces : goal.returns-in-Err-clause-replaces
returns-in-Err-clause-replaces g c =
    rw c.refusal_of.ensures (not_opened g.F.Folder.place c.folder_of.result.now c.args.name.now c.args.owner
    c.args.bytes.now c.in-Err.closed _
    (g.F.Folder.told c.args.folder.now)
    (g.F.Folder.told c.open_folder.new.self) c.folder_of.ensures refl c.in-Err.ensures)

pub returns-in-Ok-clause-replaces : goal.returns-in-Ok-clause-replaces
returns-in-Ok-clause-replaces g c =
    let before = g.F.Folder.told c.args.folder.now in
    let opened = g.F.Folder.told c.open_folder.new.self in
    opened_replaced g.F.Folder.place c.folder_of.result.now c.in-Ok.place c.args.name.now c.args.owner c.args.bytes.now
    c.replace_in.result quiet
    before opened (g.F.Folder.told c.replace_in.new.folder) c.in-Ok.ensures
    (c.replace_in.ensures.replaces (record {
      is = λ told. opened_place g.F.Folder.place c.folder_of.result.now c.in-Ok.place quiet before opened
          c.in-Ok.ensures told ∙ c.folder_of.ensures;
    }))

pub returns-in-Err-clause-cause : goal.returns-in-Err-clause-cause
returns-in-Err-clause-cause g c =
    rw c.refusal_of.ensures (fault_cause _ (refusal_of c.in-Err.closed) (g.F.Folder.told c.args.folder.now)
    (g.F.Folder.told c.open_folder.new.self)
    (not_opened_cause _ c.folder_of.result.now c.in-Err.closed (g.F.Folder.told c.args.folder.now)
    (g.F.Folder.told c.open_folder.new.self)
    c.in-Err.ensures))

pub returns-in-Ok-clause-cause : goal.returns-in-Ok-clause-cause
returns-in-Ok-clause-cause g c =
    let before = g.F.Folder.told c.args.folder.now in
    let opened = g.F.Folder.told c.open_folder.new.self in
    let taken = AllTaken c.args.name.now in
    cause_later (AtNow taken opened) (AtNow taken before) c.replace_in.result before opened
    (g.F.Folder.told c.replace_in.new.folder)
    (turn_later _ quiet before opened c.in-Ok.ensures) (λ at. turn_back _ taken quiet before opened c.in-Ok.ensures
    (λ s t x. x.0) at)
    c.replace_in.ensures.cause

pub returns-in-Ok-clause-anew : goal.returns-in-Ok-clause-anew
returns-in-Ok-clause-anew g c none ok =
    let before = g.F.Folder.told c.args.folder.now in
    let opened = g.F.Folder.told c.open_folder.new.self in
    anew_after c.args.name.now before opened (g.F.Folder.told c.replace_in.new.folder)
    (runs_of (OpensFolder g.F.Folder.place c.folder_of.result.now (Ok c.in-Ok.place)) quiet before opened
    c.in-Ok.ensures)
    (c.replace_in.ensures.anew (record {
      is = λ told. opened_place g.F.Folder.place c.folder_of.result.now c.in-Ok.place quiet before opened
          c.in-Ok.ensures told ∙ c.folder_of.ensures;
    }) none ok)

pub returns-in-Err-clause-anew : goal.returns-in-Err-clause-anew
returns-in-Err-clause-anew g c none ok = absurd (not_done c.in-Err.closed (rw c.refusal_of.ensures at ok))
