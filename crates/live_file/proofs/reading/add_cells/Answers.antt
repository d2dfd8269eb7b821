use Rattle.live_file.proofs.AsImage.{cells_more}
use Rattle.live_file.proofs.reading.add_cells.Goals as goal

pub loop-at-preserved : goal.loop-at-preserved
loop-at-preserved c =
    cells_more c.args.slots.now c.args.size c.loop-at.at c.args.image.now.items c.loop-at.image.items
    c.extend_from_slice.new.self.items c.slot_in-slot.result.now c.loop-at.invariant
    c.in_ok-extend_from_slice.ensures.items c.slot_in-slot.ensures.slot c.slot_in-slot.ensures.long
