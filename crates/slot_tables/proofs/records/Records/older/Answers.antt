-- The record stands in the list of its page.
use Rattle.slot_tables.proofs.Common.{◌≡◌, ◌<◌, Some, None, length, ◌∙◌, record_at}
use Rattle.slot_tables.proofs.OfRecords.Numbering.{record_listed, page_list}
use Rattle.slot_tables.proofs.records.Records.older.Goals as goal

pub next-requires : goal.next-requires
next-requires c =
    let r = c.self.inside in
    let low : c.args.number < length r.records = rw (← c.self.view_is) at c.requires.number in
    let is = c.get.ensures None ∙ c.in-Some.is in
    (c.in-Some.field-0.page, (record_listed r c.args.number c.in-Some.field-0 c.self.invariant is).1)

pub returns-in-Some-clause-next : goal.returns-in-Some-clause-next
returns-in-Some-clause-next c =
    let r = c.self.inside in
    let low : c.args.number < length r.records = rw (← c.self.view_is) at c.requires.number in
    let is : record_at r.records c.args.number ≡ Some c.in-Some.field-0 =
    c.get.ensures None ∙ c.in-Some.is in
    let listed = record_listed r c.args.number c.in-Some.field-0 c.self.invariant is in
    rw (← c.self.view_is, is, page_list r c.in-Some.field-0.page listed.0)
    (c.next.ensures.next c.in-Some.field-0.page listed.1)
