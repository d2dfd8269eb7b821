use Rattle.mem_folder.proofs.Common.{◌≡◌, None, Some, string_bytes, sym, ◌∙◌, rules, newest, named}
use Rattle.mem_folder.proofs.Steps.{links}
use Rattle.mem_folder.proofs.naming.link.Goals as goal

pub returns-in-Ok : goal.returns-in-Ok
returns-in-Ok c =
    let cs = c.args.changes.now.items in
    let own = c.in-Ok.own in
    let is : string_bytes own ≡ c.args.to.now = c.in-Ok.ensures.ok in
    let there : newest None (named cs c.args.from.now) ≡ Some c.in-Some.file =
    rw (← c.as_slice.ensures.value) (sym c.file_of.ensures ∙ c.in-Some.is) in
    let free : newest None (named cs c.args.to.now) ≡ None = rw (← c.as_slice-2.ensures.value) (search rules) in
    rw (← is) (links cs c.add.new.changes.items c.args.from.now own c.in-Some.file c.add.result there (rw is free)
    (record { ok = c.add.ensures.ok; err = c.add.ensures.err }))
