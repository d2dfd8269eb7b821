use Rattle.flash_picture.proofs.Common.{◌∙◌, [], ◌∷◌, ap}
use Rattle.flash_picture.specs.Overview.{sign_at}
use Rattle.flash_picture.proofs.Texts.{and_then, with_piece}
use Rattle.flash_picture.proofs.map.Map.write_sign.Goals as goal

pub returns : goal.returns
returns c =
    let m = c.args.self.now in
    and_then c.args.text.now.items _ _ _ _ _ _ _ c.write_before_sign.ensures
    (with_piece _ _ _ _ _ (ap (λ sign. sign ∷ []) (c.sign-sign.ensures ∙ ap (sign_at m.cells.now m.marks)
    c.slot_in.ensures)) c.add_byte.ensures) c.and.ensures
