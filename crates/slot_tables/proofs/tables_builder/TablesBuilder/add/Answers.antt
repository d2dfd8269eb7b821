use Rattle.slot_tables.proofs.Common.{length, ◌∙◌, ap}
use Rattle.std.proofs.lemmas.List.{length-set}
use Rattle.slot_tables.proofs.OfBaseTables.Refreshing.{record_set}
use Rattle.slot_tables.proofs.OfBaseTables.RefreshedAll.{as_tables, are_tables}
use Rattle.slot_tables.proofs.tables_builder.TablesBuilder.add.Goals as goal

pub invariant_of-self : goal.invariant_of-self
invariant_of-self c =
    let f = c.self.inside in
    let after = record_set (as_tables f) (are_tables f c.self.invariant) c.add.result c.add.new.self _
    (ap (λ n. n.records) c.add.ensures.added)
    (ap (λ n. length n.pages) c.add.ensures.added ∙ length-set f.base.records.pages c.args.rec.now.page _)
    c.add.ensures.versions in
    record {
      sized = after.sized;
      blanks = record { marks = after.blanks.marks; size = c.self.invariant.blanks.size };
      spare = c.self.invariant.spare;
      closed = c.self.invariant.closed;
    }
