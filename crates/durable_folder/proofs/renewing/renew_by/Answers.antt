use Rattle.durable_folder.proofs.Common.{inl, inr, Some, Ok, Err, refl, ap, AtNow, Fills, beside_of, handle_of}
use Rattle.durable_folder.specs.Causes.{IsNamed}
use Rattle.durable_folder.specs.Renewing.{AtLast, IsLocking}
use Rattle.durable_folder.specs.Saving.{Ends}
use Rattle.durable_folder.specs.declared.answers.Replaced.TheVariants.{Done, Refused}
use Rattle.durable_folder.proofs.Causing.{failed_then, fills_named, later_then, made_named, then_failed}
use Rattle.durable_folder.proofs.Finishing.{replaced_by}
use Rattle.durable_folder.proofs.Passing.{told_before}
use Rattle.durable_folder.proofs.Renewals.{arrived_named, by_looked, keeps_looked, kept_named, named_same, renewed}
use Rattle.durable_folder.proofs.renewing.renew_by.Goals as goal

pub returns-in-Ok-Done-clause-replaces : goal.returns-in-Ok-Done-clause-replaces
returns-in-Ok-Done-clause-replaces g c apart is =
    let beside = beside_of c.args.new in
    let handle = handle_of g.F.Folder.handle c.args.new in
    let before = g.F.Folder.told c.args.folder.now in
    let filled = g.F.Folder.told c.fill_locked-filled.new.folder in
    let put = g.F.Folder.told c.finish.new.folder in
    let fills : Fills handle beside (Some c.args.owner) c.args.bytes.now c.fill_locked-filled.result before filled =
    rw c.as_str.ensures at c.fill_locked-filled.ensures.fills in
    let ends : Ends beside c.args.name.now c.fill_locked-filled.result (Ok Done) filled put =
    rw c.in-Ok-Done.field-0-is at ((rw c.as_str-2.ensures at c.in-Ok-Done.ensures.ends) apart (record {
      is = λ told. is.is (told_before before filled fills told);
    })) in
    by_looked handle (g.F.Folder.handle c.fill_locked-filled.new.file) c.args.name.now beside (Some c.args.owner)
    c.args.bytes.now c.fill_locked-filled.new.file c.look_again.result before put
    (g.F.Folder.told c.look_again.new.folder)
    (replaced_by handle c.args.name.now beside (Some c.args.owner) c.args.bytes.now c.fill_locked-filled.result
    (Ok Done) before filled put fills ends)
    c.look_again.ensures.rests c.look_again.ensures.given c.look_again.ensures.looks

pub returns-in-Ok-Refused-clause-replaces : goal.returns-in-Ok-Refused-clause-replaces
returns-in-Ok-Refused-clause-replaces g c apart is =
    let beside = beside_of c.args.new in
    let handle = handle_of g.F.Folder.handle c.args.new in
    let before = g.F.Folder.told c.args.folder.now in
    let filled = g.F.Folder.told c.fill_locked-filled.new.folder in
    let put = g.F.Folder.told c.finish.new.folder in
    let fills : Fills handle beside (Some c.args.owner) c.args.bytes.now c.fill_locked-filled.result before filled =
    rw c.as_str.ensures at c.fill_locked-filled.ensures.fills in
    let ends : Ends beside c.args.name.now c.fill_locked-filled.result (Ok Refused) filled put =
    rw c.in-Ok-Refused.field-0-is at ((rw c.as_str-2.ensures at c.in-Ok-Refused.ensures.ends) apart (record {
      is = λ told. is.is (told_before before filled fills told);
    })) in
    replaced_by handle c.args.name.now beside (Some c.args.owner) c.args.bytes.now c.fill_locked-filled.result
    (Ok Refused) before filled put fills ends

pub returns-clause-replaces : goal.returns-clause-replaces
returns-clause-replaces g c apart is =
    let beside = beside_of c.args.new in
    let handle = handle_of g.F.Folder.handle c.args.new in
    let before = g.F.Folder.told c.args.folder.now in
    let filled = g.F.Folder.told c.fill_locked-filled.new.folder in
    let put = g.F.Folder.told c.finish.new.folder in
    let fills : Fills handle beside (Some c.args.owner) c.args.bytes.now c.fill_locked-filled.result before filled =
    rw c.as_str.ensures at c.fill_locked-filled.ensures.fills in
    let ends : Ends beside c.args.name.now c.fill_locked-filled.result (Err c.in-Err.error) filled put =
    (rw c.as_str-2.ensures at c.in-Err.ensures.ends) apart (record {
      is = λ told. is.is (told_before before filled fills told);
    }) in
    replaced_by handle c.args.name.now beside (Some c.args.owner) c.args.bytes.now c.fill_locked-filled.result
    (Err c.in-Err.error) before filled put fills ends

pub returns-in-Ok-Done-clause-keeps : goal.returns-in-Ok-Done-clause-keeps
returns-in-Ok-Done-clause-keeps g c apart is first makes =
    let beside = beside_of c.args.new in
    let handle = handle_of g.F.Folder.handle c.args.new in
    let old = g.F.Folder.handle c.args.held.now in
    let new = g.F.Folder.handle c.fill_locked-filled.new.file in
    let before = g.F.Folder.told c.args.folder.now in
    let filled = g.F.Folder.told c.fill_locked-filled.new.folder in
    let put = g.F.Folder.told c.finish.new.folder in
    let last = g.F.Folder.told c.look_again.new.folder in
    let done = c.in-Ok-Done.ensures.done (ap Ok c.in-Ok-Done.field-0-is) in
    let fills : Fills handle beside (Some c.args.owner) c.args.bytes.now (Ok Done) before filled =
    rw done at (rw c.as_str.ensures at c.fill_locked-filled.ensures.fills) in
    let locks : AtLast (IsLocking old new) filled = rw done at c.fill_locked-filled.ensures.locks in
    let ends : Ends beside c.args.name.now (Ok Done) (Ok Done) filled put =
    rw (done, c.in-Ok-Done.field-0-is) at ((rw c.as_str-2.ensures at c.in-Ok-Done.ensures.ends) apart (record {
      is = λ told. is.is (told_before before filled fills told);
    })) in
    keeps_looked g.F.Folder.handle c.args.name.now c.args.bytes.now old c.fill_locked-filled.new.file
    c.look_again.result first put last c.look_again.ensures.given c.look_again.ensures.looks
    (λ looked. renewed handle old new c.args.name.now beside (Some c.args.owner) c.args.bytes.now first before filled
    put last c.fill_locked-filled.ensures.same makes fills locks ends looked)

pub returns-in-Ok-Done-clause-later : goal.returns-in-Ok-Done-clause-later
returns-in-Ok-Done-clause-later g c =
    let before = g.F.Folder.told c.args.folder.now in
    let filled = g.F.Folder.told c.fill_locked-filled.new.folder in
    let put = g.F.Folder.told c.finish.new.folder in
    later_then before put (g.F.Folder.told c.look_again.new.folder)
    (later_then before filled put c.fill_locked-filled.ensures.later c.finish.ensures.later) c.look_again.ensures.later

pub returns-in-Ok-Refused-clause-later : goal.returns-in-Ok-Refused-clause-later
returns-in-Ok-Refused-clause-later g c =
    later_then (g.F.Folder.told c.args.folder.now) (g.F.Folder.told c.fill_locked-filled.new.folder)
    (g.F.Folder.told c.finish.new.folder) c.fill_locked-filled.ensures.later c.finish.ensures.later

pub returns-clause-later : goal.returns-clause-later
returns-clause-later g c =
    later_then (g.F.Folder.told c.args.folder.now) (g.F.Folder.told c.fill_locked-filled.new.folder)
    (g.F.Folder.told c.finish.new.folder) c.fill_locked-filled.ensures.later c.finish.ensures.later

pub returns-in-Ok-Done-clause-fault : goal.returns-in-Ok-Done-clause-fault
returns-in-Ok-Done-clause-fault g c apart is first makes named err =
    let beside = beside_of c.args.new in
    let handle = handle_of g.F.Folder.handle c.args.new in
    let old = g.F.Folder.handle c.args.held.now in
    let new = g.F.Folder.handle c.fill_locked-filled.new.file in
    let before = g.F.Folder.told c.args.folder.now in
    let filled = g.F.Folder.told c.fill_locked-filled.new.folder in
    let put = g.F.Folder.told c.finish.new.folder in
    let last = g.F.Folder.told c.look_again.new.folder in
    let done = c.in-Ok-Done.ensures.done (ap Ok c.in-Ok-Done.field-0-is) in
    let fills : Fills handle beside (Some c.args.owner) c.args.bytes.now (Ok Done) before filled =
    rw done at (rw c.as_str.ensures at c.fill_locked-filled.ensures.fills) in
    let locks : AtLast (IsLocking old new) filled = rw done at c.fill_locked-filled.ensures.locks in
    let ends : Ends beside c.args.name.now (Ok Done) (Ok Done) filled put =
    rw (done, c.in-Ok-Done.field-0-is) at ((rw c.as_str-2.ensures at c.in-Ok-Done.ensures.ends) apart (record {
      is = λ told. is.is (told_before before filled fills told);
    })) in
    then_failed before put last
    (later_then before filled put c.fill_locked-filled.ensures.later c.finish.ensures.later)
    (c.look_again.ensures.fault
    (arrived_named handle old new c.args.name.now beside (Some c.args.owner) c.args.bytes.now first before filled put
    c.fill_locked-filled.ensures.same makes fills locks ends) err)

pub returns-clause-fault : goal.returns-clause-fault
returns-clause-fault g c apart is first makes named err =
    let beside = beside_of c.args.new in
    let handle = handle_of g.F.Folder.handle c.args.new in
    let held = (g.F.Folder.handle c.args.held.now).file in
    let before = g.F.Folder.told c.args.folder.now in
    let filled = g.F.Folder.told c.fill_locked-filled.new.folder in
    let put = g.F.Folder.told c.finish.new.folder in
    let fills : Fills handle beside (Some c.args.owner) c.args.bytes.now c.fill_locked-filled.result before filled =
    rw c.as_str.ensures at c.fill_locked-filled.ensures.fills in
    let there : AtNow (IsNamed (g.F.Folder.handle c.fill_locked-filled.new.file).file beside) filled =
    named_same handle (g.F.Folder.handle c.fill_locked-filled.new.file) beside filled
    c.fill_locked-filled.ensures.same
    (fills_named handle beside beside (Some c.args.owner) c.args.bytes.now c.fill_locked-filled.result handle.file
    before filled fills (made_named handle c.args.name.now beside first before makes)) in
    elim ((rw c.as_str-2.ensures at c.in-Err.ensures.fault) there refl) [
      | inl bad ↦ failed_then before filled put
          (c.fill_locked-filled.ensures.fault (kept_named handle c.args.name.now beside held first before makes named)
          bad) c.finish.ensures.later
      | inr failed ↦ then_failed before filled put c.fill_locked-filled.ensures.later failed
    ]
