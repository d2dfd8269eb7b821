use Rattle.flash_picture.proofs.Common.{◌∙◌, ◌++◌, append_assoc, sym, on_ok_weaker, ◌≡◌}
use Rattle.flash_picture.specs.Pieces.{point}
use Rattle.flash_picture.proofs.Texts.{and_then}
use Rattle.flash_picture.proofs.pieces.add_point.Goals as goal

pub returns : goal.returns
unfolding point
returns c =
    let old = c.args.text.now.items in
    let said = c.add.new.text.items in
    let top = and_then c.add_number.new.text.items _ _ _ _ _ _ _ c.add-2.ensures c.add_number-2.ensures c.and.ensures in
    let place = and_then said _ _ _ _ _ _ _ c.add_number.ensures top c.and-2.ensures in
    on_ok_weaker c.and-3.result
    (λ (end : c.add_number-2.new.text.items ≡ old ++ (c.args.words.now ++ point c.args.spot)).
    end ∙ sym (append_assoc old c.args.words.now (point c.args.spot)))
    (and_then old _ _ _ _ _ _ _ c.add.ensures place c.and-3.ensures)
