-- The place stands behind the last one below it, or in front.
use Rattle.slot_tables.proofs.Common.{not, sym, ◌∙◌, refl, position_or_len, list_of, is_above}
use Rattle.std.proofs.lemmas.List.Sums.{prefix_len-le-length}
use Rattle.slot_tables.proofs.OfRecords.Rising.{last_place, no_place}
use Rattle.slot_tables.proofs.slots.put_in_order.Goals as goal

pub returns-in-None : goal.returns-in-None
returns-in-None c =
    let xs = list_of c.args.lists.now c.args.key in
    let most = prefix_len-le-length (λ x. not (is_above c.args.at x)) xs in
    let first = no_place xs (position_or_len (is_above c.args.at) xs) most (sym c.last_below.ensures ∙ c.in-None.is) in
    rw (c.push.ensures.first, first) refl

pub returns-in-Some : goal.returns-in-Some
returns-in-Some c =
    let xs = list_of c.args.lists.now c.args.key in
    let most = prefix_len-le-length (λ x. not (is_above c.args.at x)) xs in
    let place = last_place xs (position_or_len (is_above c.args.at) xs) c.in-Some.below c.requires.rises most
    (sym c.last_below.ensures
    ∙ c.in-Some.is) in
    rw (c.insert_after.ensures.behind, place) refl
