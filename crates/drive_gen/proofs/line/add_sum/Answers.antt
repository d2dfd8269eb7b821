use Rattle.drive_gen.proofs.Common.{[], ◌∷◌, ◌∙◌, ap}
use Rattle.host_protocol.specs.Replies.{line_of}
use Rattle.drive_gen.proofs.Texts.{and_then, with_piece}
use Rattle.drive_gen.proofs.line.add_sum.Goals as goal

pub returns : goal.returns
returns c =
    and_then c.args.line.now.items _ _ _ _ _ _ _ c.add_word.ensures
    (with_piece _ _ _ _ _ (ap (λ w. line_of (w ∷ [])) (c.as_bytes.ensures.value ∙ c.format.ensures.text)) c.add_last.ensures)
    c.and.ensures
