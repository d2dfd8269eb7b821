use Rattle.page_keys.proofs.Common.{◌∙◌}
use Rattle.page_keys.proofs.OfPut.EntriesLeft.{halves}
use Rattle.page_keys.proofs.reading.known_entry.Goals as goal

pub of_field-requires : goal.of_field-requires
of_field-requires c =
    let e = c.requires.0 in
    let is = c.requires.1 in
    (e.0, is.most, c.split_at.ensures.front ∙ (halves c.args.bytes.now e is c.requires.2).0)

pub of_field-requires-2 : goal.of_field-requires-2
of_field-requires-2 c =
    let e = c.requires.0 in
    let is = c.requires.1 in
    (e.1, is.value, c.split_at.ensures.back ∙ (halves c.args.bytes.now e is c.requires.2).1)

pub returns : goal.returns
returns c e is same =
    let parts = halves c.args.bytes.now e is same in
    let key = c.of_field.ensures e.0 is.most (c.split_at.ensures.front ∙ parts.0) in
    let value = c.of_field-2.ensures e.1 is.value (c.split_at.ensures.back ∙ parts.1) in
    λ i. (key i, value i)
