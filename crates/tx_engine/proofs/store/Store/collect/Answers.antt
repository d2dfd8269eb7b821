use Rattle.tx_engine.proofs.Common.{ap, ◌∙◌, sym, Config}
use Rattle.tx_engine.proofs.OfTables.StoreCalls.{as_long}
use Rattle.tx_engine.proofs.store.Store.collect.Goals as goal

pub collect_victim-requires-clause-sure : goal.collect_victim-requires-clause-sure
collect_victim-requires-clause-sure g c = rw (← c.self.view_is) at c.requires

pub invariant_of-self : goal.invariant_of-self
invariant_of-self g c =
    let same = c.collect_victim.ensures.keeps.preserves.config in
    record {
      room = as_long c.self.inside.room c.collect_victim.new.room _ (c.self.invariant.room
          ∙ ap (λ (x : Config). x.page_bytes) (sym same));
    }

pub returns : goal.returns
returns g c = rw (← c.self.view_is) c.collect_victim.ensures
