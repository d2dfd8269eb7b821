use Rattle.flash_picture.proofs.Common.{ap, slot_text}
use Rattle.flash_picture.specs.Map.{padded}
use Rattle.flash_picture.proofs.Texts.{and_then, with_piece}
use Rattle.flash_picture.proofs.map.Map.write_cell.Goals as goal

pub returns : goal.returns
returns c =
    let m = c.args.self.now in
    let said = with_piece _ _ _ _ _ (ap (λ slot. padded c.args.width (slot_text m.cells.now m.marks slot))
    c.slot_in-slot.ensures) c.write_padded.ensures in
    let behind = and_then c.write_before.new.text.items _ _ _ _ _ _ _ c.add.ensures said c.and.ensures in
    and_then c.args.text.now.items _ _ _ _ _ _ _ c.write_before.ensures behind c.and-2.ensures
