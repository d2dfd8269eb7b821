use Rattle.mem_folder.proofs.Common.{◌≡◌, None, Some, string_bytes, sym, ◌∙◌, rules, newest, named}
use Rattle.std.proofs.Common.{◌≢◌}
use Rattle.mem_folder.proofs.Steps.{renames}
use Rattle.mem_folder.proofs.naming.rename.Goals as goal

pub returns : goal.returns
returns c =
    let cs = c.args.changes.now.items in
    let own = c.in-Ok-Ok.from in
    let other = c.in-Ok-Ok.to in
    let from_is : string_bytes own ≡ c.args.from.now = c.in-Ok-Ok.ensures.ok in
    let to_is : string_bytes other ≡ c.args.to.now = c.in-Ok-Ok.ensures'.ok in
    let there : newest None (named cs c.args.from.now) ≡ Some c.in-Some.file =
    rw (← c.as_slice.ensures.value) (sym c.file_of.ensures ∙ c.in-Some.is) in
    let apart : newest None (named cs c.args.to.now) ≢ Some c.in-Some.file =
    rw (← c.as_slice-2.ensures.value) (search rules) in
    rw (← from_is, ← to_is) (renames cs c.add.new.changes.items own other c.in-Some.file c.add.result (rw from_is there)
    (rw to_is apart)
    (record { ok = c.add.ensures.ok; err = c.add.ensures.err }))
