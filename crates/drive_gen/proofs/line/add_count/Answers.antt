use Rattle.drive_gen.proofs.Common.{[], ◌∷◌, ◌∙◌, ap}
use Rattle.std.specs.Fmt.{decimal}
use Rattle.drive_gen.specs.Summary.{spaced}
use Rattle.drive_gen.proofs.Texts.{and_spaced, with_piece}
use Rattle.drive_gen.proofs.line.add_count.Goals as goal

pub returns : goal.returns
returns c =
    and_spaced c.args.line.now.items _ _ (c.args.word.now ∷ []) (decimal c.args.count ∷ []) _ _ _ c.add_word.ensures
    (with_piece _ _ _ _ _ (ap (λ w. spaced (w ∷ [])) (c.as_bytes.ensures.value ∙ c.format.ensures.text))
    c.add_word-2.ensures)
    c.and.ensures
