use Rattle.drive_gen.proofs.Common.{[], ◌∷◌, ◌++◌, codes}
use Rattle.std.specs.Fmt.{decimal}
use Rattle.drive_gen.proofs.Texts.{and_spaced}
use Rattle.drive_gen.proofs.line.add_counts.Goals as goal

pub returns : goal.returns
returns c =
    let old = c.args.line.now.items in
    let t = c.args.tally.now in
    let done = codes "done" ∷ decimal t.done ∷ [] in
    let aborted = codes "aborted" ∷ decimal t.aborted ∷ [] in
    let cut = codes "cut" ∷ decimal t.cut ∷ [] in
    let refused = codes "refused" ∷ decimal t.refused ∷ [] in
    let unknown = codes "unknown" ∷ decimal t.unknown ∷ [] in
    and_spaced old _ _ (((done ++ aborted) ++ cut) ++ refused) unknown _ _ _
    (and_spaced old _ _ ((done ++ aborted) ++ cut) refused _ _ _
    (and_spaced old _ _ (done ++ aborted) cut _ _ _
    (and_spaced old _ _ done aborted _ _ _ c.add_count.ensures c.add_count-2.ensures c.and.ensures)
    c.add_count-3.ensures c.and-2.ensures)
    c.add_count-4.ensures c.and-3.ensures)
    c.add_count-5.ensures c.and-4.ensures
