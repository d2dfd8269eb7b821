use Rattle.version_index.proofs.Common.{List, sym, ap, ◌∙◌, option_map, Found, has_name, number_by}
use Rattle.std.proofs.Common.{slice_index}
use Rattle.std.specs.List.{position}
use Rattle.version_index.proofs.deciding.number_by.Goals as goal

pub returns-in-None-find_near : goal.returns-in-None-find_near
returns-in-None-find_near c =
    let list = c.args.standing.now.list in
    let numbers = c.args.numbers.now in
    let place = sym c.in-None-find_near.is ∙ c.find_near.ensures
    ∙ ap (λ (l : List Found). position (λ f. has_name c.in-Some.name f.rec) l) c.sorted_records.ensures in
    ap (option_map (λ p. slice_index numbers p)) place ∙ ap (number_by list numbers) (sym c.in-Some.is)
