use Rattle.tx_engine.proofs.Common.{ap, ◌∙◌, sym, Config}
use Rattle.tx_engine.proofs.OfTables.StoreCalls.{as_long}
use Rattle.tx_engine.proofs.store.Store.retire.Goals as goal

pub retire_block-requires-clause-sure : goal.retire_block-requires-clause-sure
retire_block-requires-clause-sure g c = rw (← c.self.view_is) at c.requires.sure

pub invariant_of-self : goal.invariant_of-self
invariant_of-self g c =
    let same = c.retire_block.ensures.keeps.tables.preserves.config in
    record {
      room = as_long c.self.inside.room c.retire_block.new.room _ (c.self.invariant.room
          ∙ ap (λ (x : Config). x.page_bytes) (sym same));
    }

pub returns : goal.returns
returns g c = rw (← c.self.view_is) c.retire_block.ensures
