use Rattle.flash_picture.proofs.Common.{◌∙◌, sym, ap, position, has_name}
use Rattle.flash_picture.specs.Held.{place_of_name}
use Rattle.flash_picture.proofs.asked.place_of_name.Goals as goal

pub returns-in-Some-clause-place : goal.returns-in-Some-clause-place
returns-in-Some-clause-place c =
    c.find.ensures ∙ ap (position (λ f. has_name c.in-Some.name f.rec)) c.sorted_records.ensures
    ∙ ap (place_of_name c.args.standing.now.list) (sym c.in-Some.is)
