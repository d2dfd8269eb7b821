use Rattle.mem_folder.proofs.Common.{◌≡◌, [], newest, filled}
use Rattle.mem_folder.specs.Changes.{held}
use Rattle.mem_folder.proofs.Holding.{resize_fails, resizes}
use Rattle.mem_folder.proofs.writing.resize.Goals as goal

pub returns-in-Err : goal.returns-in-Err
returns-in-Err c = resize_fails c.args.changes.now.items c.args.file.now.number c.args.length c.in-Err.error

pub returns-in_default-fill : goal.returns-in_default-fill
returns-in_default-fill c = resize_fails c.args.changes.now.items c.args.file.now.number c.args.length c.from.result

pub returns : goal.returns
returns c =
    let cs = c.args.changes.now.items in
    let old_is : c.bytes_of-old.result.now ≡ newest [] (held cs c.args.file.now.number) =
    rw (← c.as_slice.ensures.value) c.bytes_of-old.ensures in
    let is : c.in-Ok.resized.items ≡ filled c.args.length (newest [] (held cs c.args.file.now.number)) =
    rw (← old_is) c.in-Ok.ensures in
    resizes cs c.add.new.changes.items c.args.file.now.number c.args.length c.in-Ok.resized c.add.result is
    (record { ok = c.add.ensures.ok; err = c.add.ensures.err })
