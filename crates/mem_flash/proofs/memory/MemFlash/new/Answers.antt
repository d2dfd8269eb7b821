use Rattle.mem_flash.proofs.Kept.{AreFilled-new, image_of-all_blank}
use Rattle.mem_flash.proofs.memory.MemFlash.new.Goals as goal

pub from_slots-requires-clause-filled : goal.from_slots-requires-clause-filled
from_slots-requires-clause-filled c =
    let states = c.in_ok-seen.ensures.items_if_clones_equal (λ y same. same) in
    let cells = c.in_ok-cells.ensures.items_if_clones_equal (λ y same. same) in
    AreFilled-new c.args.shape _ _ (cc) (cc)

pub returns : goal.returns
returns c =
    let states = c.in_ok-seen.ensures.items_if_clones_equal (λ y same. same) in
    rw (image_of-all_blank c.args.shape c.in_ok-seen.seen.items c.in_ok-cells.cells.items (cc)) at c.from_slots.ensures
