use Rattle.mem_flash.proofs.Common.{List, ap, refl, arith, rules, with_items_is, Contents, SlotsState}
use Rattle.mem_flash.proofs.Kept.{AreStored-programmed, image-programmed}
use Rattle.mem_flash.proofs.slots.Slots.write.Goals as goal

pub invariant_of-self : goal.invariant_of-self
invariant_of-self c =
    let below = rw (← c.self.view_is) at c.requires.exists in
    let page = rw (← c.self.view_is) at c.requires.page in
    let written = with_items_is c.self.inside.bytes c.write_cell.new.cells (omega arith) in
    AreStored-programmed c.self.inside c.self.invariant c.args.at c.args.bytes.now c.args.spare_area.now below
    page (omega arith)
    _ refl refl (search rules) (cc)

pub returns : goal.returns
returns c =
    let below = rw (← c.self.view_is) at c.requires.exists in
    let page = rw (← c.self.view_is) at c.requires.page in
    let written = with_items_is c.self.inside.bytes c.write_cell.new.cells (omega arith) in
    let slots : List Contents → SlotsState = λ image. record { shape = c.self.inside.shape; image = image } in
    rw (← c.self.view_is)
    (ap slots (image-programmed c.self.inside c.self.invariant c.args.at c.args.bytes.now c.args.spare_area.now below
    page (omega arith)
    _ _ (search rules) (cc)))
