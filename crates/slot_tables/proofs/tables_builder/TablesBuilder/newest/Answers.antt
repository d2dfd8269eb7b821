use Rattle.slot_tables.proofs.Common.{ap, subst, ◌∙◌, slice_get, TablesState, IsTablesState, numbers_at}
use Rattle.slot_tables.proofs.OfWaitList.Ranges.{newest_below}
use Rattle.slot_tables.proofs.tables_builder.TablesBuilder.newest.Goals as goal

pub returns-clause-within : goal.returns-clause-within
returns-clause-within c =
    newest_below c.args.self.now (subst IsTablesState c.self.view_is c.self.invariant.sized.kept) c.args.page
    c.newest.result
    (c.newest.ensures.newest ∙ ap (λ (k : TablesState). slice_get (numbers_at k.pages c.args.page) 0) c.self.view_is)
