use Rattle.desk_tasks.proofs.Common.{Keyed, OpensStore, Keying, Opening}
use Rattle.desk_tasks.specs.Stops.{RefusesScript}
use Rattle.desk_tasks.proofs.KeyEndings.{keying_line, keying_on}
use Rattle.desk_tasks.proofs.Works.{stops_by, unread_image, works_on}
use Rattle.desk_tasks.proofs.keying.keys_from_bytes.Goals as goal

pub returns-in_err-config : goal.returns-in_err-config
returns-in_err-config c =
    unread_image c.args.bytes.items _ c.from_residual.result c.in_err-config.field-0.0 c.from_residual.ensures.1
    c.in_err-config.ensures.err

pub returns-in-Err : goal.returns-in-Err
returns-in-Err c =
    let its = c.in_ok-config.config in
    let flash = c.in_ok-config.flash in
    stops_by (RefusesScript c.args.lines.now) (Keying c.args.name.now c.args.bytes.items c.args.lines.now)
    (keying_line c.args.name.now c.args.bytes.items c.args.lines.now its flash.image flash.extras
    c.in_ok-config.ensures.read)
    c.in-Err.stop c.in-Err.ensures.err

pub returns-in-Ok : goal.returns-in-Ok
returns-in-Ok c =
    let its = c.in_ok-config.config in
    let flash = c.in_ok-config.flash in
    let list = c.in-Ok.list.items in
    works_on (Opening its flash.image (OpensStore its flash.image
    (Keyed c.args.name.now its flash.image flash.extras list)))
    (Keying c.args.name.now c.args.bytes.items c.args.lines.now)
    (keying_on c.args.name.now c.args.bytes.items c.args.lines.now its flash.image flash.extras
    c.in_ok-config.ensures.read list
    c.in-Ok.ensures.script)
    c.run_keys-product.result (rw c.deref.ensures.value at c.run_keys-product.ensures)
