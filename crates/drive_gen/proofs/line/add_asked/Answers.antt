use Rattle.drive_gen.proofs.Common.{[], ◌∷◌, ◌++◌, ap, codes}
use Rattle.std.specs.Fmt.{decimal}
use Rattle.drive_gen.specs.Summary.{protocol_word, spaced}
use Rattle.drive_gen.proofs.Texts.{and_spaced, with_piece}
use Rattle.drive_gen.proofs.line.add_asked.Goals as goal

pub returns : goal.returns
returns c =
    let old = c.args.line.now.items in
    let drive = codes "drive" ∷ [] in
    let by = protocol_word c.args.protocol ∷ [] in
    let start = codes "start" ∷ decimal c.args.start ∷ [] in
    let count = codes "count" ∷ decimal c.args.count ∷ [] in
    let commands = codes "commands" ∷ decimal c.args.commands ∷ [] in
    and_spaced old _ _ (((drive ++ by) ++ start) ++ count) commands _ _ _
    (and_spaced old _ _ ((drive ++ by) ++ start) count _ _ _
    (and_spaced old _ _ (drive ++ by) start _ _ _
    (and_spaced old _ _ drive by _ _ _ c.add_word.ensures
    (with_piece _ _ _ _ _ (ap (λ w. spaced (w ∷ [])) c.protocol_name.ensures) c.add_word-2.ensures) c.and.ensures)
    c.add_count.ensures c.and-2.ensures)
    (with_piece _ _ _ _ _ (ap (λ n. spaced (codes "count" ∷ decimal n ∷ [])) c.from.ensures) c.add_count-2.ensures)
    c.and-3.ensures)
    c.add_count-3.ensures c.and-4.ensures
