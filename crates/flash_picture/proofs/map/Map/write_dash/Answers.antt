use Rattle.flash_picture.proofs.Common.{◌∙◌, ◌++◌, ap₂, ap, append_assoc, codes, on_ok_weaker, ◌≡◌}
use Rattle.flash_picture.specs.Pieces.{beside, point}
use Rattle.flash_picture.proofs.Texts.{and_then}
use Rattle.flash_picture.proofs.map.Map.write_dash.Goals as goal

pub returns : goal.returns
returns c =
    let old = c.args.text.now.items in
    let place = c.beside.ensures ∙ ap₂ (λ s n. beside s 0 n) c.square_in-square.ensures.spot c.line_offset.ensures in
    let begun = on_ok_weaker c.add_point.result
    (λ (end : c.add_point.new.text.items ≡ (old ++ codes "M") ++ point c.beside.result).
    end ∙ append_assoc old (codes "M") _ ∙ ap (λ s. old ++ (codes "M" ++ point s)) place)
    c.add_point.ensures in
    and_then old _ _ _ _ _ _ _ begun c.add.ensures c.and.ensures
