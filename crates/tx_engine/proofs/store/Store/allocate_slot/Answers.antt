use Rattle.tx_engine.proofs.Common.{ap, ◌∙◌, sym, refl, Config}
use Rattle.tx_engine.proofs.OfTables.StoreCalls.{as_long}
use Rattle.tx_engine.proofs.store.Store.allocate_slot.Goals as goal

pub allocate_slot-requires-clause-sure : goal.allocate_slot-requires-clause-sure
allocate_slot-requires-clause-sure g c = rw (← c.self.view_is) at c.requires.sure

pub invariant_of-self : goal.invariant_of-self
invariant_of-self g c =
    let same = c.allocate_slot.ensures.finds.keeps.preserves.config in
    record {
      room = as_long c.self.inside.room c.allocate_slot.new.room _ (c.self.invariant.room
          ∙ ap (λ (x : Config). x.page_bytes) (sym same));
    }

pub returns : goal.returns
returns g c = rw (← c.self.view_is) (record {
  finds = c.allocate_slot.ensures.finds;
  direct = λ room. let d = c.allocate_slot.ensures.direct room in (d.0, d.2, rw (d.3, d.4, d.1, d.5) refl);
})
