use Rattle.mem_flash.proofs.Common.{List, ap, refl, arith, with_items_is, Contents, SlotsState}
use Rattle.mem_flash.proofs.Kept.{IsImage-stored, cells_within, AreStored-filled, image-filled}
use Rattle.mem_flash.proofs.slots.Slots.fill.Goals as goal

pub fill_cells-requires : goal.fill_cells-requires
fill_cells-requires c =
    let exist = rw (← c.self.view_is) at c.requires.exist in
    rw (c.cell_bytes-size.ensures, c.deref_mut-2.ensures.value)
    (omega (arith, cells_within c.self.inside c.self.invariant c.args.first c.args.count exist))

pub invariant_of-self : goal.invariant_of-self
invariant_of-self c =
    let exist = rw (← c.self.view_is) at c.requires.exist in
    let marked = with_items_is c.self.inside.seen c.mark.new.states (omega arith) in
    let filled = with_items_is c.self.inside.bytes c.fill_cells.new.cells (omega arith) in
    AreStored-filled c.self.inside c.self.invariant c.args.first c.args.count c.args.how exist c.requires.bare _ refl
    refl (cc) (cc)

pub returns-clause-slots : goal.returns-clause-slots
returns-clause-slots c = rw (← c.self.view_is) ((IsImage-stored c.self.inside c.self.invariant).slots)

pub returns-clause-filled : goal.returns-clause-filled
returns-clause-filled c =
    let exist = rw (← c.self.view_is) at c.requires.exist in
    let marked = with_items_is c.self.inside.seen c.mark.new.states (omega arith) in
    let filled = with_items_is c.self.inside.bytes c.fill_cells.new.cells (omega arith) in
    let slots : List Contents → SlotsState = λ image. record { shape = c.self.inside.shape; image = image } in
    rw (← c.self.view_is)
    (ap slots (image-filled c.self.inside c.self.invariant c.args.first c.args.count c.args.how exist c.requires.bare
    _ _ (cc) (cc)))
