-- The record stood in the list of its page.
use Rattle.slot_tables.proofs.Common.{◌<◌, length, refl, record_at}
use Rattle.slot_tables.proofs.OfRecords.Renumbering.{some_record, unnumbered, unnumbered_pages}
use Rattle.slot_tables.proofs.records.Records.give_up.Goals as goal

pub invariant_of-self : goal.invariant_of-self
invariant_of-self c =
    let r = c.self.inside in
    let found = some_record (record_at r.records c.args.number) c.args.page
    (rw (← c.self.view_is) at c.requires.record) in
    let within : c.args.number < length r.records = rw (← c.self.view_is) at c.requires.within in
    rw (c.set.ensures, c.push.ensures.first, c.remove.ensures.without, ← found.2)
    (unnumbered r c.self.invariant c.args.number found.0 found.1 within
    (rw (c.push.ensures.first, c.remove.ensures.without, ← found.2) at c.push.ensures.lists))

pub returns-clause-given_up : goal.returns-clause-given_up
returns-clause-given_up c =
    let r = c.self.inside in
    let found = some_record (record_at r.records c.args.number) c.args.page
    (rw (← c.self.view_is) at c.requires.record) in
    let within : c.args.number < length r.records = rw (← c.self.view_is) at c.requires.within in
    let pages = unnumbered_pages r c.self.invariant c.args.number found.0 found.1 within in
    rw (← c.self.view_is, c.set.ensures, c.push.ensures.first, c.remove.ensures.without, ← found.2, pages) refl

pub returns-clause-versions : goal.returns-clause-versions
returns-clause-versions c =
    let r = c.self.inside in
    let found = some_record (record_at r.records c.args.number) c.args.page
    (rw (← c.self.view_is) at c.requires.record) in
    let within : c.args.number < length r.records = rw (← c.self.view_is) at c.requires.within in
    let its = unnumbered r c.self.invariant c.args.number found.0 found.1 within
    (rw (c.push.ensures.first, c.remove.ensures.without, ← found.2) at c.push.ensures.lists) in
    rw (c.set.ensures, c.push.ensures.first, c.remove.ensures.without, ← found.2) its.versions
