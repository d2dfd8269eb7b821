-- No slot holds the record.
use Rattle.slot_tables.proofs.Common.{length, ◌∙◌, ap}
use Rattle.std.proofs.lemmas.List.{length-set}
use Rattle.slot_tables.proofs.OfBaseTables.Refreshing.{record_gone}
use Rattle.slot_tables.proofs.tables.Tables.give_up.Goals as goal

pub invariant_of-self : goal.invariant_of-self
invariant_of-self c =
    let t = c.self.inside in
    record_gone t c.self.invariant c.args.number c.give_up.new.self _ (ap (λ n. n.records) c.give_up.ensures.given_up)
    (ap (λ n. length n.pages) c.give_up.ensures.given_up ∙ length-set t.base.records.pages c.args.page _)
    c.give_up.ensures.versions
    (rw (← c.self.view_is) at c.requires.copies)
