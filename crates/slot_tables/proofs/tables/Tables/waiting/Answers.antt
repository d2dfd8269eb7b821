-- The first of the list of the page.
use Rattle.slot_tables.proofs.Common.{subst, IsTablesState}
use Rattle.slot_tables.proofs.OfWaitList.Ranges.{waiting_below}
use Rattle.slot_tables.proofs.OfWaitList.WaitingFor.{some_waits, none_waits}
use Rattle.slot_tables.proofs.tables.Tables.waiting.Goals as goal

pub returns-clause-some : goal.returns-clause-some
returns-clause-some c = rw (← c.self.view_is) (some_waits _ _ c.args.page c.first.result c.by_page.ensures
    c.first.ensures.listed)

pub returns-clause-none : goal.returns-clause-none
returns-clause-none c = rw (← c.self.view_is) (none_waits _ _ c.args.page c.first.result c.by_page.ensures
    c.first.ensures.order)

pub returns-clause-within : goal.returns-clause-within
returns-clause-within c = waiting_below c.args.self.now (subst IsTablesState c.self.view_is c.self.invariant.sized.kept)
    c.args.page _ (returns-clause-some c)
