use Rattle.tx_engine.proofs.Common.{ap, ◌∙◌, sym, refl, Config}
use Rattle.tx_engine.proofs.OfTables.StoreCalls.{as_long}
use Rattle.tx_engine.proofs.store.Store.evict_blocks_to_go.Goals as goal

pub evict_blocks_to_go-requires-clause-sure : goal.evict_blocks_to_go-requires-clause-sure
evict_blocks_to_go-requires-clause-sure g c = rw (← c.self.view_is) at c.requires.sure

pub invariant_of-self : goal.invariant_of-self
invariant_of-self g c =
    let same = c.evict_blocks_to_go.ensures.clears.keeps.preserves.config in
    record {
      room = as_long c.self.inside.room c.evict_blocks_to_go.new.room _ (c.self.invariant.room
          ∙ ap (λ (x : Config). x.page_bytes) (sym same));
    }

pub returns : goal.returns
returns g c = rw (← c.self.view_is) (record {
  clears = c.evict_blocks_to_go.ensures.clears;
  idle = λ none. let d = c.evict_blocks_to_go.ensures.idle none in (d.0, rw (d.1, d.2, d.3, d.4) refl);
})
