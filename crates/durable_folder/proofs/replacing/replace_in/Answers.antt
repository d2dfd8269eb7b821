use Rattle.durable_folder.proofs.Common.{◌∙◌, ap, Ok, AtNow, AllTaken, beside_of, handle_of}
use Rattle.durable_folder.proofs.Causing.{later_then, then_failed, now_back, cause_later, fault_cause, refused_cause, made_named}
use Rattle.durable_folder.proofs.Linking.{anew_after, not_done}
use Rattle.durable_folder.proofs.Passing.{told_before}
use Rattle.durable_folder.proofs.Finishing.{mounted_at, mounted_refused, not_looked, not_made, replaced_in, then_replaced}
use Rattle.durable_folder.proofs.replacing.replace_in.Goals as goal

pub returns-in_err-is_mounted-clause-replaces : goal.returns-in_err-is_mounted-clause-replaces
returns-in_err-is_mounted-clause-replaces g c at =
    let before = g.F.Folder.told c.args.folder.now in
    let looked = g.F.Folder.told c.is_mounted.new.folder in
    not_looked c.args.name.now c.args.owner c.args.bytes.now c.is_mounted.result c.from_residual.result before looked
    c.from_residual.ensures.0
    (mounted_at (g.F.Folder.place c.args.place.now) c.args.name.now c.args.owner c.is_mounted.result before looked at
    c.is_mounted.ensures.mounted)

pub returns-then-branch-clause-replaces : goal.returns-then-branch-clause-replaces
returns-then-branch-clause-replaces g c at =
    let before = g.F.Folder.told c.args.folder.now in
    let looked = g.F.Folder.told c.is_mounted.new.folder in
    mounted_refused c.args.name.now c.args.owner c.args.bytes.now c.is_mounted.result before looked
    (c.in_ok-is_mounted.was ∙ ap Ok c.if-branch.true)
    (mounted_at (g.F.Folder.place c.args.place.now) c.args.name.now c.args.owner c.is_mounted.result before looked at
    c.is_mounted.ensures.mounted)

pub returns-in-Ok-clause-replaces : goal.returns-in-Ok-clause-replaces
returns-in-Ok-clause-replaces g c at =
    let before = g.F.Folder.told c.args.folder.now in
    let looked = g.F.Folder.told c.is_mounted.new.folder in
    let made = g.F.Folder.told c.new_file.new.folder in
    let last = g.F.Folder.told c.replace_by.new.folder in
    then_replaced c.args.name.now c.args.owner c.args.bytes.now c.is_mounted.result c.replace_by.result
    before looked last
    (mounted_at (g.F.Folder.place c.args.place.now) c.args.name.now c.args.owner c.is_mounted.result before looked at
    c.is_mounted.ensures.mounted)
    (replaced_in (handle_of g.F.Folder.handle c.in-Ok.new) c.args.name.now (beside_of c.in-Ok.new) c.args.owner
    c.args.bytes.now c.replace_by.result looked made last
    c.in-Ok.ensures.makes
    (c.replace_by.ensures.replaces c.in-Ok.ensures.apart (record {
      is = λ told. at.is (told_before before looked c.is_mounted.ensures.mounted
          (told_before looked made c.in-Ok.ensures.makes told));
    })))

pub returns-in-Err-clause-replaces : goal.returns-in-Err-clause-replaces
returns-in-Err-clause-replaces g c at =
    let before = g.F.Folder.told c.args.folder.now in
    let looked = g.F.Folder.told c.is_mounted.new.folder in
    let made = g.F.Folder.told c.new_file.new.folder in
    then_replaced c.args.name.now c.args.owner c.args.bytes.now c.is_mounted.result c.refusal_of.result
    before looked made
    (mounted_at (g.F.Folder.place c.args.place.now) c.args.name.now c.args.owner c.is_mounted.result before looked at
    c.is_mounted.ensures.mounted)
    (rw c.refusal_of.ensures (not_made c.args.name.now c.args.owner c.args.bytes.now c.in-Err.error looked made
    c.in-Err.ensures.makes))

pub returns-in-Ok-clause-cause : goal.returns-in-Ok-clause-cause
returns-in-Ok-clause-cause g c =
    let before = g.F.Folder.told c.args.folder.now in
    let looked = g.F.Folder.told c.is_mounted.new.folder in
    let made = g.F.Folder.told c.new_file.new.folder in
    let last = g.F.Folder.told c.replace_by.new.folder in
    let first = later_then before looked made c.is_mounted.ensures.fault.0 c.in-Ok.ensures.cause.0 in
    let named = made_named (handle_of g.F.Folder.handle c.in-Ok.new) c.args.name.now (beside_of c.in-Ok.new) looked made
    c.in-Ok.ensures.makes in
    fault_cause _ c.replace_by.result before last (
      later_then before made last first c.replace_by.ensures.later,
      λ err. then_failed before made last first (c.replace_by.ensures.fault named err),
    )

pub returns-in-Err-clause-cause : goal.returns-in-Err-clause-cause
returns-in-Err-clause-cause g c =
    let before = g.F.Folder.told c.args.folder.now in
    let looked = g.F.Folder.told c.is_mounted.new.folder in
    let made = g.F.Folder.told c.new_file.new.folder in
    let taken = AllTaken c.args.name.now in
    cause_later (AtNow taken looked) (AtNow taken before) c.refusal_of.result before looked made
    c.is_mounted.ensures.fault.0
    (λ at. now_back taken before looked c.is_mounted.ensures.mounted at)
    (rw c.refusal_of.ensures (refused_cause _ c.in-Err.error looked made c.in-Err.ensures.cause))

pub returns-in-Ok-clause-anew : goal.returns-in-Ok-clause-anew
returns-in-Ok-clause-anew g c at none ok =
    let before = g.F.Folder.told c.args.folder.now in
    let looked = g.F.Folder.told c.is_mounted.new.folder in
    let made = g.F.Folder.told c.new_file.new.folder in
    let last = g.F.Folder.told c.replace_by.new.folder in
    anew_after c.args.name.now before looked last c.is_mounted.ensures.mounted
    (anew_after c.args.name.now looked made last c.in-Ok.ensures.makes
    (c.replace_by.ensures.anew c.in-Ok.ensures.apart (record {
      is = λ told. at.is (told_before before looked c.is_mounted.ensures.mounted
          (told_before looked made c.in-Ok.ensures.makes told));
    }) none ok))

pub returns-in-Err-clause-anew : goal.returns-in-Err-clause-anew
returns-in-Err-clause-anew g c at none ok = absurd (not_done c.in-Err.error (rw c.refusal_of.ensures at ok))
