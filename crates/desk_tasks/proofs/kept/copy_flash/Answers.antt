use Rattle.desk_tasks.proofs.Common.{ap}
use Rattle.tx_types.specs.declared.config.Shape.{Shape}
use Rattle.desk_tasks.proofs.Copies.{are_filled, cells_long, copy_is}
use Rattle.desk_tasks.proofs.kept.copy_flash.Goals as goal

pub from_slots-requires-clause-bytes : goal.from_slots-requires-clause-bytes
from_slots-requires-clause-bytes c =
    let whole = c.shape.ensures.whole in
    rw (c.shape.ensures.shape, c.in_ok-cells.ensures, ← whole.slots)
    (cells_long c.args.flash.now.shape.page_bytes c.args.flash.now.image whole.whole)

pub from_slots-requires-clause-filled : goal.from_slots-requires-clause-filled
from_slots-requires-clause-filled c =
    let whole = c.shape.ensures.whole in
    rw (c.shape.ensures.shape, c.in_ok-cells.ensures, c.in_ok-seen.ensures)
    (are_filled c.args.flash.now.shape.page_bytes c.args.flash.now.image whole.whole)

pub returns-clause-slots : goal.returns-clause-slots
returns-clause-slots c =
    copy_is c.args.flash.now.shape.page_bytes c.shape.result c.args.flash.now.image c.in_ok-seen.seen.items
    c.in_ok-cells.cells.items c.from_slots.result
    (ap (λ (s : Shape). s.page_bytes) c.shape.ensures.shape) c.in_ok-seen.ensures c.in_ok-cells.ensures
    c.shape.ensures.whole.whole c.from_slots.ensures
