use Rattle.durable_folder.proofs.Common.{inl, inr, AtNow, Fills, beside_of, handle_of}
use Rattle.durable_folder.specs.Causes.{IsNamed}
use Rattle.durable_folder.specs.Saving.{Ends}
use Rattle.durable_folder.proofs.Causing.{then_failed, failed_then, fills_named}
use Rattle.durable_folder.proofs.Linking.{anew_after, when_none}
use Rattle.durable_folder.proofs.Passing.{told_before}
use Rattle.durable_folder.proofs.Finishing.{replaced_by}
use Rattle.durable_folder.proofs.replacing.replace_by.Goals as goal

pub returns-clause-replaces : goal.returns-clause-replaces
returns-clause-replaces g c apart is =
    let beside = beside_of c.args.new in
    let fills : Fills (handle_of g.F.Folder.handle c.args.new) beside c.args.owner c.args.bytes.now c.fill-filled.result
    (g.F.Folder.told c.args.folder.now) (g.F.Folder.told c.fill-filled.new.folder) =
    rw c.as_str.ensures at c.fill-filled.ensures.fills in
    let ends : Ends beside c.args.name.now c.fill-filled.result c.finish.result
    (g.F.Folder.told c.fill-filled.new.folder)
    (g.F.Folder.told c.finish.new.folder) =
    (rw c.as_str-2.ensures at c.finish.ensures.ends) apart (record {
      is = λ told. is.is (told_before (g.F.Folder.told c.args.folder.now)
          (g.F.Folder.told c.fill-filled.new.folder) fills told);
    }) in
    replaced_by (handle_of g.F.Folder.handle c.args.new) c.args.name.now beside c.args.owner c.args.bytes.now
    c.fill-filled.result c.finish.result
    (g.F.Folder.told c.args.folder.now)
    (g.F.Folder.told c.fill-filled.new.folder) (g.F.Folder.told c.finish.new.folder) fills ends

pub returns-clause-fault : goal.returns-clause-fault
returns-clause-fault g c named err =
    let before = g.F.Folder.told c.args.folder.now in
    let after = g.F.Folder.told c.fill-filled.new.folder in
    let last = g.F.Folder.told c.finish.new.folder in
    let handle = handle_of g.F.Folder.handle c.args.new in
    let beside = beside_of c.args.new in
    let there : AtNow (IsNamed (g.F.Folder.handle c.fill-filled.new.file).file beside) after =
    rw c.fill-filled.ensures.same
    (fills_named handle beside beside c.args.owner c.args.bytes.now c.fill-filled.result handle.file before after
    (rw c.as_str.ensures at c.fill-filled.ensures.fills) named) in
    elim ((rw c.as_str-2.ensures at c.finish.ensures.fault) there err) [
      | inl bad ↦ failed_then before after last (c.fill-filled.ensures.fault.1 bad) c.finish.ensures.later
      | inr failed ↦ then_failed before after last c.fill-filled.ensures.fault.0 failed
    ]

pub returns-clause-anew : goal.returns-clause-anew
returns-clause-anew g c apart is none ok =
    let before = g.F.Folder.told c.args.folder.now in
    let filled = g.F.Folder.told c.fill-filled.new.folder in
    let beside = beside_of c.args.new in
    let fills : Fills (handle_of g.F.Folder.handle c.args.new) beside c.args.owner c.args.bytes.now c.fill-filled.result
    before filled =
    rw c.as_str.ensures at c.fill-filled.ensures.fills in
    let new = when_none c.args.owner c.is_none-is_new.result c.is_none-is_new.ensures none in
    anew_after c.args.name.now before filled (g.F.Folder.told c.finish.new.folder) fills
    ((rw c.as_str-2.ensures at c.finish.ensures.anew) apart (record {
      is = λ told. is.is (told_before before filled fills told);
    }) new ok)
