use Rattle.durable_folder.proofs.Common.{false, Some, Ok, AtNow, AllTaken, beside_of, handle_of}
use Rattle.durable_folder.specs.Renewing.{replaced_of}
use Rattle.durable_folder.proofs.Causing.{fault_cause, later_then, refused_cause, then_failed}
use Rattle.durable_folder.proofs.Finishing.{not_made, replaced_in, then_replaced}
use Rattle.durable_folder.proofs.Passing.{told_before}
use Rattle.durable_folder.proofs.Renewals.{cause_of, none_given, not_mounted}
use Rattle.durable_folder.proofs.renewing.renew_in.Goals as goal

pub returns-in-Ok-clause-replaces : goal.returns-in-Ok-clause-replaces
returns-in-Ok-clause-replaces g c at =
    let before = g.F.Folder.told c.args.folder.now in
    let made = g.F.Folder.told c.new_file.new.folder in
    let last = g.F.Folder.told c.renew_by.new.folder in
    let result = replaced_of c.renew_by.result in
    then_replaced c.args.name.now (Some c.args.owner) c.args.bytes.now (Ok false) result before before last
    (not_mounted c.args.name.now (Some c.args.owner) before)
    (replaced_in (handle_of g.F.Folder.handle c.in-Ok.new) c.args.name.now (beside_of c.in-Ok.new) (Some c.args.owner)
    c.args.bytes.now result before made last c.in-Ok.ensures.makes
    (c.renew_by.ensures.replaces c.in-Ok.ensures.apart (record {
      is = λ told. at.is (told_before before made c.in-Ok.ensures.makes told);
    })))

pub returns-in-Err-clause-replaces : goal.returns-in-Err-clause-replaces
returns-in-Err-clause-replaces g c at =
    let before = g.F.Folder.told c.args.folder.now in
    let made = g.F.Folder.told c.new_file.new.folder in
    rw c.none_made.ensures (then_replaced c.args.name.now (Some c.args.owner) c.args.bytes.now (Ok false) _
    before before made (not_mounted c.args.name.now (Some c.args.owner) before)
    (not_made c.args.name.now (Some c.args.owner) c.args.bytes.now c.in-Err.error before made
    c.in-Err.ensures.makes))

pub returns-in-Ok-clause-keeps : goal.returns-in-Ok-clause-keeps
returns-in-Ok-clause-keeps g c at =
    let before = g.F.Folder.told c.args.folder.now in
    let made = g.F.Folder.told c.new_file.new.folder in
    c.renew_by.ensures.keeps c.in-Ok.ensures.apart (record {
      is = λ told. at.is (told_before before made c.in-Ok.ensures.makes told);
    }) before c.in-Ok.ensures.makes

pub returns-in-Err-clause-keeps : goal.returns-in-Err-clause-keeps
returns-in-Err-clause-keeps g c at =
    none_given g.F.Folder.handle c.args.name.now c.args.bytes.now (g.F.Folder.handle c.args.held.now) c.in-Err.error
    c.none_made.result (g.F.Folder.told c.args.folder.now) (g.F.Folder.told c.new_file.new.folder)
    c.none_made.ensures

pub returns-in-Ok-clause-later : goal.returns-in-Ok-clause-later
returns-in-Ok-clause-later g c =
    later_then (g.F.Folder.told c.args.folder.now) (g.F.Folder.told c.new_file.new.folder)
    (g.F.Folder.told c.renew_by.new.folder) c.in-Ok.ensures.cause.0 c.renew_by.ensures.later

pub returns-in-Err-clause-later : goal.returns-in-Err-clause-later
returns-in-Err-clause-later g c = c.in-Err.ensures.cause.0

pub returns-in-Ok-clause-cause : goal.returns-in-Ok-clause-cause
returns-in-Ok-clause-cause g c at named =
    let before = g.F.Folder.told c.args.folder.now in
    let made = g.F.Folder.told c.new_file.new.folder in
    let last = g.F.Folder.told c.renew_by.new.folder in
    fault_cause _ c.renew_by.result before last (
      later_then before made last c.in-Ok.ensures.cause.0 c.renew_by.ensures.later,
      λ err. then_failed before made last c.in-Ok.ensures.cause.0
          (c.renew_by.ensures.fault c.in-Ok.ensures.apart (record {
            is = λ told. at.is (told_before before made c.in-Ok.ensures.makes told);
          }) before c.in-Ok.ensures.makes named err),
    )

pub returns-in-Err-clause-cause : goal.returns-in-Err-clause-cause
returns-in-Err-clause-cause g c at named =
    let before = g.F.Folder.told c.args.folder.now in
    let made = g.F.Folder.told c.new_file.new.folder in
    cause_of _ c.none_made.result before made
    (rw c.none_made.ensures (refused_cause (AtNow (AllTaken c.args.name.now) before) c.in-Err.error before made
    c.in-Err.ensures.cause))
