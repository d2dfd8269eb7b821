use Rattle.mem_folder.proofs.Common.{◌≡◌, [], newest, overlay}
use Rattle.mem_folder.specs.Changes.{held}
use Rattle.mem_folder.proofs.Holding.{write_fails, writes}
use Rattle.mem_folder.proofs.writing.write.Goals as goal

pub returns-in-Err-clause-writes : goal.returns-in-Err-clause-writes
returns-in-Err-clause-writes c =
    write_fails c.args.changes.now.items c.args.file.now.number c.args.file.now.offset c.args.bytes.now c.in-Err.error

pub returns-in_default-checked_add-clause-writes : goal.returns-in_default-checked_add-clause-writes
returns-in_default-checked_add-clause-writes c =
    write_fails c.args.changes.now.items c.args.file.now.number c.args.file.now.offset c.args.bytes.now c.from.result

pub returns-in_default-lay_over-clause-writes : goal.returns-in_default-lay_over-clause-writes
returns-in_default-lay_over-clause-writes c =
    write_fails c.args.changes.now.items c.args.file.now.number c.args.file.now.offset c.args.bytes.now
    c.from-in_default-lay_over.result

pub returns-clause-writes : goal.returns-clause-writes
returns-clause-writes c =
    let cs = c.args.changes.now.items in
    let file = c.args.file.now.number in
    let offset = c.args.file.now.offset in
    let old_is : c.bytes_of-old.result.now ≡ newest [] (held cs file) =
    rw (← c.as_slice.ensures.value) c.bytes_of-old.ensures in
    let is : c.in-Ok.written.items ≡ overlay offset c.args.bytes.now (newest [] (held cs file)) =
    rw (← old_is) c.in-Ok.ensures in
    writes cs c.add.new.changes.items file offset c.args.bytes.now c.in-Ok.written c.add.result is
    (record { ok = c.add.ensures.ok; err = c.add.ensures.err })
