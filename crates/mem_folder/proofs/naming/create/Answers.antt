use Rattle.mem_folder.proofs.Common.{◌≡◌, None, refl, string_bytes, rules, newest, IsFresh, named}
use Rattle.mem_folder.proofs.Steps.{makes}
use Rattle.mem_folder.proofs.naming.create.Goals as goal

pub returns-in-Ok-add-clause-creates : goal.returns-in-Ok-add-clause-creates
returns-in-Ok-add-clause-creates c =
    let cs = c.args.changes.now.items in
    let own = c.in-Ok.own in
    let is : string_bytes own ≡ c.args.name.now = c.in-Ok.ensures.ok in
    let free : newest None (named cs c.args.name.now) ≡ None = rw (← c.as_slice.ensures.value) (search rules) in
    let fresh : IsFresh cs c.in-Some.number = rw (← c.as_slice-2.ensures.value) c.in-Some.ensures in
    (c.in-Some.number, refl, rw (← is, c.in-Ok-add.ensures.ok) (makes cs own c.in-Some.number (rw is free) fresh))
