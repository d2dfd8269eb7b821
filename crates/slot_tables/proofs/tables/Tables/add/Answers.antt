-- The home of the number is refreshed.
use Rattle.slot_tables.proofs.Common.{length, ◌∙◌, ap}
use Rattle.std.proofs.lemmas.List.{length-set}
use Rattle.slot_tables.proofs.OfBaseTables.Refreshing.{record_set}
use Rattle.slot_tables.proofs.tables.Tables.add.Goals as goal

pub invariant_of-self : goal.invariant_of-self
invariant_of-self c =
    let t = c.self.inside in
    rw c.refresh_home.ensures
    (record_set t c.self.invariant c.add-number.result c.add-number.new.self
    _ (ap (λ n. n.records) c.add-number.ensures.added)
    (ap (λ n. length n.pages) c.add-number.ensures.added ∙ length-set t.base.records.pages c.args.rec.now.page _)
    c.add-number.ensures.versions)
