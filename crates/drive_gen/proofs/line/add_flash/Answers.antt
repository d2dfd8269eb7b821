use Rattle.drive_gen.proofs.Common.{[], ◌∷◌, ◌++◌, ap, codes}
use Rattle.drive_gen.specs.Summary.{spaced, word_or}
use Rattle.drive_gen.proofs.Texts.{and_spaced, with_piece}
use Rattle.drive_gen.proofs.line.add_flash.Goals as goal

pub returns : goal.returns
returns c =
    let old = c.args.line.now.items in
    let stats = c.args.stats.now in
    let programs = codes "programs" ∷ [] in
    let how_many = word_or stats 8 (codes "0") ∷ [] in
    let erases = codes "erases" ∷ [] in
    let last = word_or stats 10 (codes "0") ∷ [] in
    and_spaced old _ _ ((programs ++ how_many) ++ erases) last _ _ _
    (and_spaced old _ _ (programs ++ how_many) erases _ _ _
    (and_spaced old _ _ programs how_many _ _ _ c.add_word.ensures
    (with_piece _ _ _ _ _ (ap (λ w. spaced (w ∷ [])) c.word_at.ensures) c.add_word-2.ensures) c.and.ensures)
    c.add_word-3.ensures c.and-2.ensures)
    (with_piece _ _ _ _ _ (ap (λ w. spaced (w ∷ [])) c.word_at-2.ensures) c.add_word-4.ensures) c.and-3.ensures
