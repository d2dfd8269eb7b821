use Rattle.flash_picture.proofs.Common.{◌∙◌, ap}
use Rattle.flash_picture.specs.Pieces.{beside, rectangle, words_at}
use Rattle.flash_picture.specs.OverviewSvg.{entry_text}
use Rattle.flash_picture.proofs.Texts.{and_then, with_piece}
use Rattle.flash_picture.proofs.map.Map.write_entry_inside.Goals as goal

pub returns : goal.returns
returns c =
    let old = c.args.text.now.items in
    let m = c.args.self.now in
    let spot = c.entry_spot-spot.ensures in
    let box = with_piece _ _ _ _ _ (ap (λ s. rectangle s 16 12) spot) c.add_rectangle.ensures in
    let words = with_piece _ _ _ _ _ (ap (λ s. words_at s (entry_text m.shape m.cells.now c.args.kind))
    (c.beside.ensures ∙ ap (λ s. beside s 22 10) spot)) c.write_entry_words.ensures in
    and_then old _ _ _ _ _ _ _ box words c.and.ensures
