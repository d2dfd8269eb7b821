use Rattle.durable_folder.proofs.Common.{inl, inr, refl, Ok, Err, error_kind, rules}
use Rattle.durable_folder.specs.declared.answers.Replaced.TheVariants as replaced
use Rattle.durable_folder.specs.Calls.{Links, Removes}
use Rattle.durable_folder.specs.Counting.{answer_to, is_unlinkable, not_given}
use Rattle.durable_folder.specs.Histories.{Linking, Replacing}
use Rattle.durable_folder.proofs.Linking.{anew_then, anew_told, fault_after, linked_failed, linked_removed, linked_synced, no_names, not_linked, place_after, put_after}
use Rattle.durable_folder.proofs.Passing.{runs_of}
use Rattle.durable_folder.proofs.replacing.put_anew.Goals as goal

pub returns-in_err-as_fault-in-Ok-clause-puts : goal.returns-in_err-as_fault-in-Ok-clause-puts
returns-in_err-as_fault-in-Ok-clause-puts g c apart is =
    let before = g.F.Folder.told c.args.folder.now in
    let linked = g.F.Folder.told c.link.new.self in
    let removed = g.F.Folder.told c.remove.new.self in
    linked_failed c.args.beside.now c.args.name.now c.from_residual.result before removed c.from_residual.ensures.0
    (linked_removed c.args.beside.now c.args.name.now c.remove.result
    (not_given (Replacing c.args.name.now)) (answer_to c.remove.result) before linked removed apart c.in-Ok.ensures
    c.remove.ensures)

pub returns-in_err-sync_names-in-Ok-clause-puts : goal.returns-in_err-sync_names-in-Ok-clause-puts
returns-in_err-sync_names-in-Ok-clause-puts g c apart is =
    let before = g.F.Folder.told c.args.folder.now in
    let linked = g.F.Folder.told c.link.new.self in
    let removed = g.F.Folder.told c.remove.new.self in
    linked_synced c.args.beside.now c.args.name.now (g.F.Folder.place c.args.place.now) c.sync_names.result
    c.from_residual-in_err-sync_names-in-Ok.result before removed (g.F.Folder.told c.sync_names.new.folder)
    (inl c.from_residual-in_err-sync_names-in-Ok.ensures.0) is
    (linked_removed c.args.beside.now c.args.name.now c.remove.result
    (not_given (Replacing c.args.name.now)) (answer_to c.remove.result) before linked removed apart c.in-Ok.ensures
    c.remove.ensures) c.sync_names.ensures.settles

pub returns-in_ok-sync_names-in-Ok-clause-puts : goal.returns-in_ok-sync_names-in-Ok-clause-puts
returns-in_ok-sync_names-in-Ok-clause-puts g c apart is =
    let before = g.F.Folder.told c.args.folder.now in
    let linked = g.F.Folder.told c.link.new.self in
    let removed = g.F.Folder.told c.remove.new.self in
    linked_synced c.args.beside.now c.args.name.now (g.F.Folder.place c.args.place.now) c.sync_names.result
    (Ok replaced.Done) before removed (g.F.Folder.told c.sync_names.new.folder)
    (inr (c.in_ok-sync_names-in-Ok.was, refl)) is
    (linked_removed c.args.beside.now c.args.name.now c.remove.result
    (not_given (Replacing c.args.name.now)) (answer_to c.remove.result) before linked removed apart c.in-Ok.ensures
    c.remove.ensures) c.sync_names.ensures.settles

pub returns-in_ok-sync_names-in-Ok-clause-anew : goal.returns-in_ok-sync_names-in-Ok-clause-anew
returns-in_ok-sync_names-in-Ok-clause-anew g c apart is ok =
    let before = g.F.Folder.told c.args.folder.now in
    let linked = g.F.Folder.told c.link.new.self in
    let removed = g.F.Folder.told c.remove.new.self in
    let name = c.args.name.now in
    anew_then name before removed (g.F.Folder.told c.sync_names.new.folder)
    (anew_then name before linked removed
    (anew_told (Links c.args.beside.now name (Ok tt)) name (Replacing name) (not_given (Replacing name)) before linked refl
    (inl refl)
    c.in-Ok.ensures) (runs_of (Removes c.args.beside.now c.remove.result) (answer_to c.remove.result) linked removed
    c.remove.ensures))
    c.sync_names.ensures.settles.run

pub returns-in-Err-clause-puts : goal.returns-in-Err-clause-puts
returns-in-Err-clause-puts g c apart is =
    let before = g.F.Folder.told c.args.folder.now in
    let asked = g.F.Folder.told c.link.new.self in
    put_after c.args.beside.now c.args.name.now c.in-Err.error c.put_over.result _ before asked
    (g.F.Folder.told c.put_over.new.folder) c.in-Err.ensures
    (c.put_over.ensures.puts apart (place_after c.args.beside.now c.args.name.now (g.F.Folder.place c.args.place.now)
    (Err c.in-Err.error) _ before asked is c.in-Err.ensures))

pub returns-in-Err-clause-anew : goal.returns-in-Err-clause-anew
returns-in-Err-clause-anew g c apart is ok =
    let before = g.F.Folder.told c.args.folder.now in
    let asked = g.F.Folder.told c.link.new.self in
    let name = c.args.name.now in
    anew_then name before asked (g.F.Folder.told c.put_over.new.folder)
    (anew_told (Links c.args.beside.now name (Err c.in-Err.error)) name (Linking name) _ before asked
    (no_names (is_unlinkable (error_kind c.in-Err.error)) name (search rules)) (inr refl) c.in-Err.ensures)
    (c.put_over.ensures.puts apart (place_after c.args.beside.now name (g.F.Folder.place c.args.place.now)
    (Err c.in-Err.error) _ before asked is c.in-Err.ensures)).run

pub returns-in-Err-clause-fault : goal.returns-in-Err-clause-fault
returns-in-Err-clause-fault g c =
    fault_after (Links c.args.beside.now c.args.name.now (Err c.in-Err.error)) _ c.put_over.result
    (g.F.Folder.told c.args.folder.now) (g.F.Folder.told c.link.new.self) (g.F.Folder.told c.put_over.new.folder)
    c.in-Err.ensures c.put_over.ensures.fault

pub returns-in_err-remove-in-Err-2-clause-puts : goal.returns-in_err-remove-in-Err-2-clause-puts
returns-in_err-remove-in-Err-2-clause-puts g c apart is =
    not_linked c.args.beside.now c.args.name.now c.in-Err-2.error c.from_residual-in_err-remove-in-Err-2.result
    c.remove-in-Err-2.result _ _ (g.F.Folder.told c.args.folder.now) (g.F.Folder.told c.link.new.self)
    (g.F.Folder.told c.remove-in-Err-2.new.self) apart c.from_residual-in_err-remove-in-Err-2.ensures.0
    c.in-Err-2.ensures c.remove-in-Err-2.ensures

pub returns-in_ok-remove-in-Err-2-clause-puts : goal.returns-in_ok-remove-in-Err-2-clause-puts
returns-in_ok-remove-in-Err-2-clause-puts g c apart is =
    not_linked c.args.beside.now c.args.name.now c.in-Err-2.error (Err c.in-Err.error)
    c.remove-in-Err-2.result _ _ (g.F.Folder.told c.args.folder.now) (g.F.Folder.told c.link.new.self)
    (g.F.Folder.told c.remove-in-Err-2.new.self) apart refl c.in-Err-2.ensures c.remove-in-Err-2.ensures
