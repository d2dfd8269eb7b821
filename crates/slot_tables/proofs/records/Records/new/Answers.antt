-- All lists are empty at first.
use Rattle.slot_tables.proofs.Common.{refl}
use Rattle.slot_tables.proofs.OfRecords.Renumbering.{none_numbered, none_pages}
use Rattle.slot_tables.proofs.records.Records.new.Goals as goal

pub invariant_of-result : goal.invariant_of-result
invariant_of-result c = none_numbered _ c.args.count c.in_ok-new-2.ensures c.in_ok-new.ensures refl c.requires.count
    c.requires.pages

pub returns : goal.returns
returns c =
    rw (
      c.in_ok-new.ensures,
      none_pages
          (record { records = c.in_ok-new.field-0; lists = c.in_ok-new-2.field-0; pages = c.args.pages; unused = 0 })
          c.args.count c.in_ok-new-2.ensures,
    ) refl
